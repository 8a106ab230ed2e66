-- A leaf of a plan is no place's parent.
use Rattle.std.proofs.Common.{◌≡◌, ℕ, zero, suc, ◌+◌, ◌<◌, ◌≤◌, eqb, refl, ap, sym, ◌∙◌, subst, arith, List, ◌∷◌, [], length, get_or, Bool, true, false, ◌&&◌, ◌||◌, Some, eq-eqb}
use Rattle.std.specs.Prelude.{if◌then◌else◌, nat_le, nat_lt}
use Rattle.std.specs.Option.{option_and_then, option_map_or}
use Rattle.std.proofs.lemmas.Bool.{ltb-true}
use Rattle.std.proofs.lemmas.Option.{slice_get-get_or}
use Rattle.pass_core.specs.Plans.{differ, end_is_right, is_below, is_proper, parent_place, parents_stand_before, subtrees_end}
use Rattle.pass_core.specs.declared.plan.Place.{Place}
use Rattle.pass_core.proofs.Planned.{both_true}

below_itself : (places : List Place) (most i : ℕ) → is_below places most i i ≡ true
below_itself places zero i = eq-eqb i i refl
below_itself places (suc most) i = ap (λ b. b || option_map_or (is_below places most i) (parent_place places i) false) (eq-eqb i i refl)

below_parent : (places : List Place) (most i j : ℕ) → parent_place places j ≡ Some i → is_below places (suc most) i j ≡ true
below_parent places most i j parent =
    ap (λ o. eqb i j || option_map_or (is_below places most i) o false) parent
    ∙ ap (λ b. eqb i j || b) (below_itself places most i) ∙ or_true (eqb i j)
  where
    or_true : (b : Bool) → (b || true) ≡ true
    or_true true = refl
    or_true false = refl

-- a place that is below another stands before its end
before_end : (places : List Place) (i end j : ℕ) (ps : List Place) (k n : ℕ) → end_is_right places i end j ps ≡ true → k < length ps → n ≡ j + k → is_below places n i n ≡ true
    → n < end
before_end places i end j [] k n right within is below = absurd (omega (arith, within))
before_end places i end j (p ∷ ps) zero n right within is below =
    let here : j ≡ n = omega (arith, is) in
    let first = (both_true (if is_below places j i j then nat_lt j end else nat_le end j) (end_is_right places i end (j + 1) ps) right).0 in
    let at_n : (if is_below places n i n then nat_lt n end else nat_le end n) ≡ true =
    subst (λ m. (if is_below places m i m then nat_lt m end else nat_le end m) ≡ true) here first in
    ltb-true n end (ap (λ b. if b then nat_lt n end else nat_le end n) (sym below) ∙ at_n)
before_end places i end j (p ∷ ps) (suc k) n right within is below =
    before_end places i end (j + 1) ps k n
    (both_true (if is_below places j i j then nat_lt j end else nat_le end j) (end_is_right places i end (j + 1) ps) right).1
    (omega (arith, within)) (omega (arith, is)) below

-- the same by the ends of all places, the first of which is place n
before_its_end : (places : List Place) (n : ℕ) (ps : List Place) (k l i j : ℕ) (d : Place) → subtrees_end places n ps ≡ true → k ≤ l → l < length ps → i ≡ n + k → j ≡ n + l
    → is_below places j i j ≡ true → j < (get_or ps k d).end
before_its_end places n [] k l i j d ends after within is is' below = absurd (omega (arith, within))
before_its_end places n (p ∷ ps) zero l i j d ends after within is is' below =
    before_end places n p.end n (p ∷ ps) l j (both_true (end_is_right places n p.end n (p ∷ ps)) (subtrees_end places (n + 1) ps) ends).0 within is'
    (subst (λ m. is_below places j m j ≡ true) (omega (arith, is)) below)
before_its_end places n (p ∷ ps) (suc k) zero i j d ends after within is is' below = absurd (omega (arith, after))
before_its_end places n (p ∷ ps) (suc k) (suc l) i j d ends after within is is' below =
    before_its_end places (n + 1) ps k l i j d (both_true (end_is_right places n p.end n (p ∷ ps)) (subtrees_end places (n + 1) ps) ends).1
    (omega (arith, after)) (omega (arith, within)) (omega (arith, is)) (omega (arith, is')) below

ends_in : (places : List Place) → is_proper places ≡ true → subtrees_end places 0 places ≡ true
ends_in places proper = (both_true (parents_stand_before 0 places) (subtrees_end places 0 places) (both_true (differ places) (parents_stand_before 0 places && subtrees_end places 0 places) proper).1).1

-- the subtree of a parent ends after its children
pub children_before_end : (places : List Place) (i j : ℕ) (d : Place) → is_proper places ≡ true → i < j → j < length places → (get_or places j d).parent ≡ Some i
    → j < (get_or places i d).end
children_before_end places i zero d proper before within parent = absurd (omega (arith, before))
children_before_end places i (suc most) d proper before within parent =
    let j = suc most in
    let above : parent_place places j ≡ Some i = ap (option_and_then (λ (p : Place). p.parent)) (slice_get-get_or places j d within) ∙ parent in
    before_its_end places 0 places i j i j d (ends_in places proper) (omega (arith, before)) within (omega arith) (omega arith) (below_parent places most i j above)
