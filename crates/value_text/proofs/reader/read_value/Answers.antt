use Rattle.std.proofs.Common.{ap, ◌∙◌, map, ℕ, List}
use Rattle.token_parts.specs.Parts.{token_parts_of, token_part}
use Rattle.value_text.specs.Reading.{declared_reading}
use Rattle.value_text.specs.Spelling.{IsValueAnswer}
use Rattle.value_text.proofs.DeclaredLemmas.{answer_declared}
use Rattle.value_text.proofs.ValueLemmas.{answer_from}
use Rattle.value_text.proofs.reader.read_value.Goals.{After-drop-parts}
use Rattle.value_text.proofs.reader.read_value.Goals as goal

answered : (c : After-drop-parts) → IsValueAnswer c.args.p (token_parts_of c.args.text.now c.args.tokens.now) c.declared_of_parts.result
answered c =
    let pieces = ap (map token_part) c.as_slice.ensures.value ∙ c.in-Ok.ensures ∙ ap (λ (t : List ℕ). token_parts_of t c.args.tokens.now) c.as_bytes.ensures.value in
    answer_from c.args.p (token_parts_of c.args.text.now c.args.tokens.now) c.declared_of_parts.result (c.declared_of_parts.ensures ∙ ap (declared_reading c.args.p) pieces)

pub returns-clause-answer : goal.returns-clause-answer
returns-clause-answer c = answered c

pub returns-clause-declared : goal.returns-clause-declared
returns-clause-declared c = answer_declared c.args.p (token_parts_of c.args.text.now c.args.tokens.now) c.declared_of_parts.result (answered c)
