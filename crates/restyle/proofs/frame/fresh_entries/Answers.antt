use Rattle.std.proofs.Common.{◌≡◌, ◌∙◌, ap, refl, ℕ, arith, List, [], ◌∷◌, map}
use Rattle.std.proofs.lemmas.List.{take_all}
use Rattle.doc_tree.specs.Element.{Element, numbers_of}
use Rattle.style_data.specs.Entries.{EntryParts, fresh_entry}
use Rattle.restyle.proofs.Walks.{one_more}
use Rattle.restyle.proofs.frame.fresh_entries.Goals as goal

numbers : (es : List Element) → map (λ (x : ℕ × EntryParts). x.0) (map (λ (e : Element). (e.number, fresh_entry)) es) ≡ numbers_of es
numbers [] = refl
numbers (e ∷ es) = ap (λ ns. e.number ∷ ns) (numbers es)

pub loop-at-preserved : goal.loop-at-preserved
loop-at-preserved c =
    one_more (λ e. (e.number, fresh_entry)) c.args.tree.now.elements c.loop-at.at c.loop-at.entries.items c.push_fresh.new.entries.items
    (omega (arith, c.loop-at-test.true, c.len-at-end.ensures.value, c.loop-at.auto.at-end)) c.loop-at.invariant c.in_ok-push_fresh.ensures

pub returns-clause-value : goal.returns-clause-value
returns-clause-value c =
    c.loop-at.invariant ∙ ap (λ es. map (λ e. (e.number, fresh_entry)) es) (take_all c.loop-at.at c.args.tree.now.elements (omega arith))

pub returns-clause-numbers : goal.returns-clause-numbers
returns-clause-numbers c =
    ap (λ (xs : List (ℕ × EntryParts)). map (λ (x : ℕ × EntryParts). x.0) xs) (c.loop-at.invariant ∙ ap (λ es. map (λ e. (e.number, fresh_entry)) es) (take_all c.loop-at.at c.args.tree.now.elements (omega arith)))
    ∙ numbers c.args.tree.now.elements
