use Rattle.std.proofs.Common.{◌≡◌, ℕ, ◌∷◌, [], ◌++◌, List, length, refl, sym, ap, ◌∙◌, append_assoc, append-nil, arith, map}
use Rattle.std.specs.Prelude.{Some}
use Rattle.std.specs.Vec.Iter.{into_iter_items}
use Rattle.std.proofs.lemmas.List.{map-append}
use Rattle.style_data.specs.Entries.{EntryParts}
use Rattle.restyle.proofs.Reordering.{aligned_from, left_from}
use Rattle.restyle.proofs.entries.Taken.from_entries.Goals as goal

nothing_left : {X : Type 0} (l : List X) → length l ≡ 0 → l ≡ []
nothing_left [] h = refl
nothing_left (x ∷ xs) h = absurd (omega arith)

pub loop-entry-preserved : goal.loop-entry-preserved
loop-entry-preserved c =
    let at = c.loop-entry in
    let x : ℕ × EntryParts = (c.in-Some.field-0-0, c.in-Some.entry) in
    let steps : into_iter_items at.entry-iterator ≡ x ∷ into_iter_items c.next.new.self = c.in-Some.ensures.steps.0 in
    record {
      lists = append_assoc at.yielded (x ∷ []) _ ∙ rw (← steps) at.invariant.lists;
      left = c.in_ok-push.ensures.items ∙ ap (λ l. l ++ Some c.in-Some.entry ∷ []) at.invariant.left ∙ sym (map-append (λ y. Some y.1) at.yielded (x ∷ []));
      count =
          let was = at.invariant.count in
          let gone = c.in-Some.ensures.steps.1 in
          let short = ap length steps in
          omega arith;
    }

pub returns-clause-left : goal.returns-clause-left
returns-clause-left c =
    let at = c.loop-entry in
    let none = c.in-None.ensures.steps in
    let empty : into_iter_items at.entry-iterator ≡ [] = nothing_left _ (sym at.invariant.count ∙ none.0) in
    let all : at.yielded ≡ c.args.entries = sym (append-nil at.yielded) ∙ rw empty at at.invariant.lists ∙ c.into_iter-entry-iterator.ensures.into_iter_gives.0 ∙ sym c.into_parts-numbers.ensures.list in
    left_from (record { numbers = c.into_parts-numbers.result.0; left = at.left }) c.args.entries (c.into_parts-numbers.ensures.numbers ∙ ap (map (λ y. y.0)) (sym c.into_parts-numbers.ensures.list))
    (at.invariant.left ∙ ap (map (λ y. Some y.1)) all)

pub returns-clause-aligned : goal.returns-clause-aligned
returns-clause-aligned c =
    let at = c.loop-entry in
    let none = c.in-None.ensures.steps in
    let empty : into_iter_items at.entry-iterator ≡ [] = nothing_left _ (sym at.invariant.count ∙ none.0) in
    let all : at.yielded ≡ c.args.entries = sym (append-nil at.yielded) ∙ rw empty at at.invariant.lists ∙ c.into_iter-entry-iterator.ensures.into_iter_gives.0 ∙ sym c.into_parts-numbers.ensures.list in
    aligned_from (record { numbers = c.into_parts-numbers.result.0; left = at.left }) c.args.entries (c.into_parts-numbers.ensures.numbers ∙ ap (map (λ y. y.0)) (sym c.into_parts-numbers.ensures.list))
    (at.invariant.left ∙ ap (map (λ y. Some y.1)) all)
