use Rattle.std.proofs.Common.{List, ap, sym, ◌∙◌}
use Rattle.doc_tree.specs.Element.{Element}
use Rattle.cascade_sort.specs.Applying.{style_declarations, style_text}
use Rattle.cascade_sort.specs.Winning.{all_winners}
use Rattle.cascade_sort.proofs.KeptWinners.{offers_find_winners}
use Rattle.cascade_sort.proofs.Told.{all_applied}
use Rattle.cascade_sort.proofs.laws.candidates_in_any_order.Goals as goal

pub returns : goal.returns
returns c = λ sheets es n e above offers chain same.
    offers_find_winners e above sheets (style_declarations (style_text es n)) offers (λ a. (same a).0) (λ a. (same a).1)
    ∙ ap (λ (up : List Element). all_winners (all_applied up sheets (style_declarations (style_text es n)))) (sym chain)
