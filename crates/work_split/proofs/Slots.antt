-- The slots of inner places.
use Rattle.std.proofs.Common.{◌≡◌, ℕ, ◌+◌, ◌<◌, ◌≤◌, refl, ap, sym, ◌∙◌, arith, List, ◌∷◌, [], ◌++◌, length, length-append, get_or, Bool, true, false, is_none, Option, None, Some, ◌⊎◌, inl, inr, ⊎_elim}
use Rattle.std.specs.Prelude.{slice_get, if◌then◌else◌}
use Rattle.std.proofs.lemmas.Bool.{cases_eq}
use Rattle.std.proofs.Math.ListN.{get_or-append}
use Rattle.std.proofs.lemmas.Option.{slice_get_within}
use Rattle.pass_core.specs.declared.plan.Place.{Place}
use Rattle.work_split.specs.Levels.{is_leaf_at, AreSlots, IsInner}

pub get_or-last : (xs : List ℕ) (x : ℕ) → get_or (xs ++ x ∷ []) (length xs) 0 ≡ x
get_or-last [] x = refl
get_or-last (y ∷ xs) x = get_or-last xs x

-- the inner ones of the first places have these slots, and there are so many
pub record Slotted (places : List Place) (slots : List ℕ) (inner at : ℕ) : Type 0 where
  pub count : length slots ≡ at
  pub small : inner ≤ at
  pub within : (i : ℕ) (p : Place) → i < at → IsInner places i p → get_or slots i 0 < inner
  pub apart : (i j : ℕ) (p q : Place) → i < at → j < at → IsInner places i p → IsInner places j q → get_or slots i 0 ≡ get_or slots j 0 → i ≡ j

pub nothing_slotted : (places : List Place) → Slotted places [] 0 0
nothing_slotted places = record {
  count = refl;
  small = omega arith;
  within = λ i p less. absurd (omega (arith, less));
  apart = λ i j p q less. absurd (omega (arith, less));
}

module _ (places : List Place) (slots slots' : List ℕ) (inner inner' at : ℕ) (place : Place) (slot : Option ℕ) (slotted : Slotted places slots inner at)
    (place_is : slice_get places at ≡ Some place) (slot_is : slot ≡ (if is_leaf_at place at then None else Some inner)) (slots_are : slots' ≡ slots ++ inner ∷ [])
    (inner_is : inner' ≡ (if is_none slot then inner else inner + 1)) where
  pub slot_kept : (i : ℕ) → i < at → get_or slots' i 0 ≡ get_or slots i 0
  slot_kept i less = let count = slotted.count in ap (λ l. get_or l i 0) slots_are ∙ get_or-append slots (inner ∷ []) 0 i (omega (arith, less, count))

  pub slot_now : get_or slots' at 0 ≡ inner
  slot_now = ap (λ l. get_or l at 0) slots_are ∙ ap (λ n. get_or (slots ++ inner ∷ []) n 0) (sym slotted.count) ∙ get_or-last slots inner

  -- how many there are now
  record Grown : Type 0 where
    least : inner ≤ inner'
    most : inner' ≤ inner + 1
    more : is_leaf_at place at ≡ false → inner' ≡ inner + 1

  grown : Grown
  grown = go (is_leaf_at place at) refl where
    by_slot : (b : Bool) → is_leaf_at place at ≡ b → inner' ≡ (if is_none (if b then None else Some inner) then inner else inner + 1)
    by_slot b is = inner_is ∙ ap (λ o. if is_none o then inner else inner + 1) (slot_is ∙ ap (λ c. if c then None else Some inner) is)

    go : (b : Bool) → is_leaf_at place at ≡ b → Grown
    go true is = let same = by_slot true is in record { least = omega (arith, same); most = omega (arith, same); more = λ no. absurd (let e : true ≡ false = sym is ∙ no in cc) }
    go false is = let same = by_slot false is in record { least = omega (arith, same); most = omega (arith, same); more = λ no. same }

  -- the place is one of the first, or the last
  which : (i : ℕ) → i < at + 1 → (i < at) ⊎ (i ≡ at)
  which i less = ⊎_elim (λ e. inr e) (λ ne. inl (omega (arith, less, ne))) (cases_eq i at)

  inner_last : (i : ℕ) (p : Place) → i ≡ at → IsInner places i p → is_leaf_at place at ≡ false
  inner_last i p is given =
      let same : Some p ≡ Some place = sym given.0 ∙ ap (slice_get places) is ∙ place_is in
      let p_is : p ≡ place = cc in
      ap (is_leaf_at place) (sym is) ∙ ap (λ q. is_leaf_at q i) (sym p_is) ∙ given.1

  pub next_slotted : Slotted places slots' inner' (at + 1)
  next_slotted = record {
    count = let count = slotted.count in ap length slots_are ∙ length-append slots (inner ∷ []) ∙ omega (arith, count);
    small = let small = slotted.small in let most = grown.most in omega (arith, small, most);
    within = λ i p less given. ⊎_elim
        (λ first. let mine = slot_kept i first in let old = slotted.within i p first given in let least = grown.least in omega (arith, mine, old, least))
        (λ is. let mine = ap (λ n. get_or slots' n 0) is ∙ slot_now in let more = grown.more (inner_last i p is given) in omega (arith, mine, more)) (which i less);
    apart = λ i j p q less less' given given' same. ⊎_elim
        (λ first. ⊎_elim
        (λ first'. slotted.apart i j p q first first' given given' (sym (slot_kept i first) ∙ same ∙ slot_kept j first'))
        (λ is'.
        let mine = slot_kept i first in
        let old = slotted.within i p first given in
        let yours = ap (λ n. get_or slots' n 0) is' ∙ slot_now in
        absurd (omega (arith, mine, old, yours, same))) (which j less'))
        (λ is. ⊎_elim
        (λ first'.
        let mine = ap (λ n. get_or slots' n 0) is ∙ slot_now in
        let yours = slot_kept j first' in
        let old = slotted.within j q first' given' in
        absurd (omega (arith, mine, old, yours, same)))
        (λ is'. is ∙ sym is') (which j less')) (which i less);
  }

pub all_slotted : (places : List Place) (slots : List ℕ) (inner at : ℕ) → Slotted places slots inner at → length places ≤ at → AreSlots places inner (λ i. get_or slots i 0)
all_slotted places slots inner at slotted all = record {
  within = λ i p given. let less = slice_get_within places i p given.0 in slotted.within i p (omega (arith, less, all)) given;
  apart = λ i j p q given given' same.
      let less = slice_get_within places i p given.0 in
      let less' = slice_get_within places j q given'.0 in
      slotted.apart i j p q (omega (arith, less, all)) (omega (arith, less', all)) given given' same;
}
