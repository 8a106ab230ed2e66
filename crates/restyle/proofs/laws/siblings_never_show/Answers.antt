use Rattle.std.proofs.Common.{◌≡◌, ◌∙◌, ap, arith, refl, ℕ, suc, List, [], ◌∷◌, Some}
use Rattle.std.specs.Prelude.{All, option_map}
use Rattle.doc_tree.specs.Element.{Element}
use Rattle.element_step.specs.Works.{DocumentEvent, entry_at, update_at}
use Rattle.style_data.specs.Entries.{EntryParts}
use Rattle.restyle.specs.StyleChanges.{ancestors_of, entry_for, inherited_above, styles_along, styles_below}
use Rattle.restyle.proofs.laws.siblings_never_show.Goals as goal

same_styles : (w : DocumentEvent) (entries others : List (ℕ × EntryParts)) (chain : List Element) → All (λ a. entry_for entries a.number ≡ entry_for others a.number) chain
    → styles_along w entries chain ≡ styles_along w others chain
same_styles w entries others [] same = refl
same_styles w entries others (e ∷ above) same =
    ap (λ s. Some (styles_below s (update_at w e.number (entry_for entries e.number) (option_map inherited_above s)))) (same_styles w entries others above (λ k d within. same (suc k) d (omega (arith, within))))
    ∙ ap (λ x. Some (styles_below (styles_along w others above) (update_at w e.number x (option_map inherited_above (styles_along w others above))))) (same 0 e (omega arith))

pub returns : goal.returns
returns c = λ w entries others n own above.
    ap (λ s. entry_at w n (entry_for entries n) (option_map inherited_above s)) (same_styles w entries others (ancestors_of w.document n) above)
    ∙ ap (λ x. entry_at w n x (option_map inherited_above (styles_along w others (ancestors_of w.document n)))) own
