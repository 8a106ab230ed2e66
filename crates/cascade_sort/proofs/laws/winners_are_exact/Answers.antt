use Rattle.doc_tree.specs.Element.{inclusive_ancestors}
use Rattle.cascade_sort.specs.Applying.{applied_to, style_declarations, style_text}
use Rattle.cascade_sort.specs.Winning.{declared_of}
use Rattle.cascade_sort.proofs.Told.{applied_are_apart}
use Rattle.cascade_sort.proofs.WinnerLaws.{are_winners, one_winner, same_answers}
use Rattle.cascade_sort.proofs.laws.winners_are_exact.Goals as goal

pub returns-clause-winners : goal.returns-clause-winners
returns-clause-winners c = λ sheets es n. are_winners (applied_to sheets es n)

pub returns-clause-one : goal.returns-clause-one
returns-clause-one c = λ sheets es n target important a b.
    one_winner (applied_to sheets es n) target important a b (applied_are_apart (inclusive_ancestors es n) sheets (style_declarations (style_text es n)))

pub returns-clause-no_others : goal.returns-clause-no_others
returns-clause-no_others c = λ sheets es n d winners.
    same_answers (applied_to sheets es n) d (declared_of sheets es n) (applied_are_apart (inclusive_ancestors es n) sheets (style_declarations (style_text es n)))
    winners (are_winners (applied_to sheets es n))
