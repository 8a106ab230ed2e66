use Rattle.std.proofs.Common.{◌≡◌, ◌∷◌, [], ◌++◌, List, length, refl, sym, ap, subst, ◌∙◌, append_assoc, append-nil, arith}
use Rattle.std.specs.Prelude.{flat_map}
use Rattle.std.specs.Vec.Iter.{into_iter_items}
use Rattle.std.proofs.lemmas.Grind.{flat_map-append}
use Rattle.event_order.proofs.order.joined.Goals as goal

nothing_left : {X : Type 0} (l : List X) → length l ≡ 0 → l ≡ []
nothing_left [] h = refl
nothing_left (x ∷ xs) h = absurd (omega arith)

-- the parts of one more
parts_more : {X A : Type 0} (f : X → List A) (xs : List X) (x : X) → flat_map f (xs ++ x ∷ []) ≡ flat_map f xs ++ f x
parts_more f xs x = flat_map-append f xs (x ∷ []) ∙ ap (λ l. flat_map f xs ++ l) (append-nil (f x))

pub loop-list-preserved : goal.loop-list-preserved
loop-list-preserved c =
    let at = c.loop-list in
    let x = c.in-Some.list in
    let steps : into_iter_items at.list-iterator ≡ x ∷ into_iter_items c.next.new.self = c.in-Some.ensures.steps.0 in
    record {
      lists = append_assoc at.yielded (x ∷ []) _ ∙ rw (← steps) at.invariant.lists;
      events = c.in_ok-append.ensures.items ∙ ap (λ l. l ++ x.items) at.invariant.events ∙ sym (parts_more (λ list. list.items) at.yielded x);
      count =
          let was = at.invariant.count in
          let gone = c.in-Some.ensures.steps.1 in
          let short = ap length steps in
          omega arith;
    }

pub returns : goal.returns
returns c =
    let at = c.loop-list in
    let none = c.in-None.ensures.steps in
    let empty : into_iter_items at.list-iterator ≡ [] = nothing_left _ (sym at.invariant.count ∙ none.0) in
    let all = sym (append-nil at.yielded) ∙ rw empty at at.invariant.lists ∙ c.into_iter-list-iterator.ensures.into_iter_gives.0 in
    subst (λ l. at.events.items ≡ flat_map (λ list. list.items) l) all at.invariant.events
