use Rattle.std.proofs.Common.{◌≡◌, map, subst}
use Rattle.token_parts.specs.Parts.{token_parts_of, token_part}
use Rattle.list_text.specs.ItemReading.{Gives, list_of}
use Rattle.list_text.proofs.AnswerLemmas.{list_answer}
use Rattle.list_text.proofs.list.read_list.Goals as goal

pub returns-clause-answer : goal.returns-clause-answer
returns-clause-answer c =
    let same : map token_part c.as_slice.result.now ≡ token_parts_of c.args.text.now c.args.tokens.now = cc (c.in-Ok.ensures) in
    list_answer c.args.name _ c.list_of_parts.result (subst (λ l. Gives (λ v. v) c.list_of_parts.result (list_of c.args.name l)) same c.list_of_parts.ensures)
