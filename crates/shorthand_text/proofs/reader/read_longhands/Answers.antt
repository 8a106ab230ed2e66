use Rattle.std.proofs.Common.{map}
use Rattle.std.specs.Prelude.{All}
use Rattle.token_parts.specs.Parts.{token_part}
use Rattle.shorthand_text.specs.Declaring.{declared_of}
use Rattle.shorthand_text.specs.Longhands.{IsLonghand}
use Rattle.shorthand_text.proofs.DeclaredLemmas.{declared_valid}
use Rattle.shorthand_text.proofs.OutcomeLemmas.{reads_valid}
use Rattle.shorthand_text.proofs.reader.read_longhands.Goals as goal

pub returns-clause-each : goal.returns-clause-each
returns-clause-each c =
    let parts = map token_part c.as_slice.result.now in
    reads_valid (λ v. v.items) (All IsLonghand) c.longhands_of.result (declared_of c.args.name parts) c.longhands_of.ensures (declared_valid c.args.name parts)
