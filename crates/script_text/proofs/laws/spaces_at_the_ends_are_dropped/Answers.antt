use Rattle.std.proofs.Common.{ap}
use Rattle.script_text.specs.Reading.{judged_statement}
use Rattle.script_text.proofs.LineLemmas.{ends_dropped}
use Rattle.script_text.proofs.laws.spaces_at_the_ends_are_dropped.Goals as goal

pub returns : goal.returns
returns c = λ front line back f b. ap judged_statement (ends_dropped front line back f b)
