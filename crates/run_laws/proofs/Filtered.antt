-- Lists of which few items pass a test.
use Rattle.std.proofs.Common.{◌≡◌, ℕ, zero, suc, ◌+◌, ◌<◌, ◌≤◌, refl, ap, sym, ◌∙◌, inl, inr, arith, rules, Bool, true, false, Option, Some, None, List, [], ◌∷◌, ◌++◌, append-nil, filter, length, map}
use Rattle.std.specs.Prelude.{nat_eq, option_map}
use Rattle.std.specs.List.{cons_option, filter_map, flat_map}
use Rattle.std.specs.Option.{option_to_list}
use Rattle.std.proofs.lemmas.Bool.{cases_Bool, eq-eqb}
use Rattle.std.proofs.lemmas.List.Elements.{filter-append}
use Rattle.animation_names.specs.Numbered.{given_below}
use Rattle.computed_style.proofs.Tables.{number_small, same_property}
use Rattle.computed_style.specs.ByProperty.{kept_for}
use Rattle.transition_update.proofs.ByProperty.{by_property_has}
use Rattle.transition_update.specs.Updates.{by_property}
use Rattle.value_types.proofs.PropertyLemmas.{CountsUp, counts_up}
use Rattle.value_types.specs.Properties.{all_properties, number_of}
use Rattle.value_types.specs.declared.property.PropertyId.{PropertyId}

-- ---- items that give nothing

pub none_mapped : {X Y : Type 0} (m : Y → Bool) (f : X → Y) (xs : List X) → ((x : X) → m (f x) ≡ false) → filter m (map f xs) ≡ []
none_mapped m f [] none = refl
none_mapped m f (x ∷ xs) none = rw (none x) (none_mapped m f xs none)

pub all_mapped : {X Y : Type 0} (m : Y → Bool) (f : X → Y) (xs : List X) → ((x : X) → m (f x) ≡ true) → filter m (map f xs) ≡ map f xs
all_mapped m f [] all = refl
all_mapped m f (x ∷ xs) all = rw (all x) (ap (λ ys. f x ∷ ys) (all_mapped m f xs all))

pub none_flat : {X Y : Type 0} (m : Y → Bool) (f : X → List Y) (xs : List X) → ((x : X) → filter m (f x) ≡ []) → filter m (flat_map f xs) ≡ []
none_flat m f [] none = refl
none_flat m f (x ∷ xs) none = filter-append m (f x) (flat_map f xs) ∙ ap (λ ys. ys ++ filter m (flat_map f xs)) (none x) ∙ none_flat m f xs none

pub none_below : {Y : Type 0} (m : Y → Bool) (f : ℕ → Option Y) (n : ℕ) → ((i : ℕ) → filter m (option_to_list (f i)) ≡ []) → filter m (given_below f n) ≡ []
unfolding given_below
none_below m f zero none = refl
none_below m f (suc n) none =
    filter-append m (given_below f n) (option_to_list (f n)) ∙ ap (λ ys. ys ++ filter m (option_to_list (f n))) (none_below m f n none) ∙ none n

-- items that fail a test and give nothing that passes may be left out
pub flat_without : {X Y : Type 0} (m : Y → Bool) (f : X → List Y) (q : X → Bool) (xs : List X) → ((x : X) → q x ≡ false → filter m (f x) ≡ [])
    → filter m (flat_map f xs) ≡ filter m (flat_map f (filter q xs))
flat_without m f q [] none = refl
flat_without m f q (x ∷ xs) none = elim (cases_Bool (q x)) [
  | inl passes ↦
      rw passes (filter-append m (f x) (flat_map f xs) ∙ ap (λ ys. filter m (f x) ++ ys) (flat_without m f q xs none)
      ∙ sym (filter-append m (f x) (flat_map f (filter q xs))))
  | inr fails ↦ rw fails (filter-append m (f x) (flat_map f xs) ∙ ap (λ ys. ys ++ filter m (flat_map f xs)) (none x fails) ∙ flat_without m f q xs none)
]

pub mapped_without : {X Y : Type 0} (m : Y → Bool) (f : X → Y) (q : X → Bool) (xs : List X) → ((x : X) → q x ≡ false → m (f x) ≡ false)
    → filter m (map f xs) ≡ filter m (map f (filter q xs))
mapped_without m f q [] none = refl
mapped_without {X} {Y} m f q (x ∷ xs) none = elim (cases_Bool (q x)) [
  | inl passes ↦ rw passes (one (m (f x)) refl (mapped_without m f q xs none))
  | inr fails ↦ rw (fails, none x fails) (mapped_without m f q xs none)
]
  where
    one : (b : Bool) → m (f x) ≡ b → filter m (map f xs) ≡ filter m (map f (filter q xs)) → filter m (f x ∷ map f xs) ≡ filter m (f x ∷ map f (filter q xs))
    one true is rest = rw is (ap (λ ys. f x ∷ ys) rest)
    one false is rest = rw is rest

-- ---- properties

-- whether it is of the property
abbrev pub is_for : {A : Type 0} → PropertyId → PropertyId × A → Bool
is_for p x = nat_eq (number_of x.0) (number_of p)

-- the list has one item at most for the property
abbrev pub IsOnce : {A : Type 0} → PropertyId → List (PropertyId × A) → Type 0
IsOnce p xs = filter (is_for p) xs ≡ option_to_list (option_map (λ a. (p, a)) (kept_for p xs))

pub same_number : (p : PropertyId) → nat_eq (number_of p) (number_of p) ≡ true
same_number p = eq-eqb (number_of p) (number_of p) refl

unlike : (m n : ℕ) → (m ≡ n → ⊥) → nat_eq m n ≡ false
unlike m n differ = grind (arith, rules)

number : (m n : ℕ) → nat_eq m n ≡ true → m ≡ n
number m n e = grind (arith, rules)

other : (m n : ℕ) → nat_eq m n ≡ false → m ≡ n → ⊥
other m n e = grind (arith, rules)

module _ {Y : Type 0} (m : Y → Bool) (has : PropertyId → Option Y) (p : PropertyId)
    (none : (q : PropertyId) → nat_eq (number_of q) (number_of p) ≡ false → filter m (option_to_list (has q)) ≡ []) where
  one_more : (o : Option Y) (ys : List Y) → filter m (cons_option o ys) ≡ filter m (option_to_list o) ++ filter m ys
  one_more None ys = refl
  one_more (Some y) ys = filter-append m (y ∷ []) ys

  none_before : (ps : List PropertyId) (k : ℕ) → CountsUp k ps → number_of p < k → filter m (filter_map has ps) ≡ []
  none_before [] k counts less = refl
  none_before (q ∷ qs) k counts less =
      one_more (has q) (filter_map has qs)
      ∙ ap (λ ys. ys ++ filter m (filter_map has qs)) (none q (unlike (number_of q) (number_of p) (λ e. omega (arith, e, counts.0, less))))
      ∙ none_before qs (k + 1) counts.1 (omega (arith, less))

  there : (ps : List PropertyId) (k : ℕ) → CountsUp k ps → k ≤ number_of p → number_of p < k + length ps → filter m (filter_map has ps) ≡ filter m (option_to_list (has p))
  there [] k counts low high = absurd (omega (arith, low, high))
  there (q ∷ qs) k counts low high =
      one_more (has q) (filter_map has qs)
      ∙ go (nat_eq (number_of q) (number_of p)) refl (λ apart. there qs (k + 1) counts.1 (omega (arith, apart, counts.0, low)) (omega (arith, high)))
    where
      go : (b : Bool) → nat_eq (number_of q) (number_of p) ≡ b
          → ((number_of q ≡ number_of p → ⊥) → filter m (filter_map has qs) ≡ filter m (option_to_list (has p)))
          → filter m (option_to_list (has q)) ++ filter m (filter_map has qs) ≡ filter m (option_to_list (has p))
      go true e later =
          let same = number (number_of q) (number_of p) e in
          ap (λ ys. filter m (option_to_list (has q)) ++ ys) (none_before qs (k + 1) counts.1 (omega (arith, same, counts.0)))
          ∙ append-nil (filter m (option_to_list (has q))) ∙ ap (λ r. filter m (option_to_list (has r))) (same_property q p same)
      go false e later = ap (λ ys. ys ++ filter m (filter_map has qs)) (none q e) ∙ later (other (number_of q) (number_of p) e)

  -- only what the property has passes
  pub only_property : filter m (filter_map has all_properties) ≡ filter m (option_to_list (has p))
  only_property = there all_properties 0 counts_up (omega arith) (number_small p)

-- a list by property has one item at most
pub once_by_property : {A : Type 0} (has : PropertyId → Option A) (p : PropertyId) → IsOnce p (by_property has)
once_by_property {A} has p =
    only_property (is_for p) with_property p (λ q e. fails q e (has q)) ∙ passes (has p)
    ∙ ap (λ (o : Option A). option_to_list (option_map (λ a. (p, a)) o)) (sym (by_property_has has p))
  where
    with_property : PropertyId → Option (PropertyId × A)
    with_property q = option_map (λ a. (q, a)) (has q)

    fails : (q : PropertyId) → nat_eq (number_of q) (number_of p) ≡ false → (o : Option A) → filter (is_for p) (option_to_list (option_map (λ a. (q, a)) o)) ≡ []
    fails q e None = refl
    fails q e (Some a) = rw e refl

    passes : (o : Option A) → filter (is_for p) (option_to_list (option_map (λ a. (p, a)) o)) ≡ option_to_list (option_map (λ a. (p, a)) o)
    passes None = refl
    passes (Some a) = rw (same_number p) refl
