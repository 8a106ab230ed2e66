-- Lists by property, built again property by property.
use Rattle.std.proofs.Common.{◌≡◌, ℕ, zero, suc, ◌+◌, ◌<◌, ◌≤◌, refl, sym, ◌∙◌, ap, arith, rules}
use Rattle.std.specs.Prelude.{All, AllPairs, Bool, true, false, cond, nat_eq, List, [], ◌∷◌, length, map, Option, None, Some, option_map, find}
use Rattle.std.specs.List.{cons_option, filter_map}
use Rattle.computed_style.proofs.Tables.{number_small, same_property}
use Rattle.computed_style.specs.ByProperty.{IsBefore, kept_for}
use Rattle.transition_update.specs.Updates.{by_property}
use Rattle.value_types.proofs.PropertyLemmas.{CountsUp, counts_up}
use Rattle.value_types.specs.Properties.{all_properties, number_of}
use Rattle.value_types.specs.declared.property.PropertyId.{PropertyId}

unlike : (m n : ℕ) → (m ≡ n → ⊥) → nat_eq m n ≡ false
unlike m n differ = grind (arith, rules)

like : (m n : ℕ) → m ≡ n → nat_eq m n ≡ true
like m n e = grind (arith, rules)

is_number : (m n : ℕ) → nat_eq m n ≡ true → m ≡ n
is_number m n e = grind (arith, rules)

is_other : (m n : ℕ) → nat_eq m n ≡ false → m ≡ n → ⊥
is_other m n e = grind (arith, rules)

tail_all : {A : Type 0} (P : A → Type 0) (x : A) (xs : List A) → All P (x ∷ xs) → All P xs
tail_all P x xs all = λ i d l. all (suc i) d (omega (arith, l))

tail_ascends : {A : Type 0} (x : PropertyId × A) (xs : List (PropertyId × A)) → AllPairs IsBefore (x ∷ xs) → AllPairs IsBefore xs
tail_ascends x xs all i j d less short = all (suc i) (suc j) d (omega (arith, less)) (omega (arith, short))

-- the look-up passes over an item of another property, and finds one of its own
passed : {A : Type 0} (p : PropertyId) (x : PropertyId × A) (xs : List (PropertyId × A)) → (number_of x.0 ≡ number_of p → ⊥) → kept_for p (x ∷ xs) ≡ kept_for p xs
passed p x xs differ = ap (λ b. option_map (λ k. k.1) (cond b (Some x) (find (λ k. nat_eq (number_of k.0) (number_of p)) xs))) (unlike (number_of x.0) (number_of p) differ)

found : {A : Type 0} (p : PropertyId) (x : PropertyId × A) (xs : List (PropertyId × A)) → number_of x.0 ≡ number_of p → kept_for p (x ∷ xs) ≡ Some x.1
found p x xs same = ap (λ b. option_map (λ k. k.1) (cond b (Some x) (find (λ k. nat_eq (number_of k.0) (number_of p)) xs))) (like (number_of x.0) (number_of p) same)

-- items of greater properties are none of the property
none_there : {A : Type 0} (p : PropertyId) (xs : List (PropertyId × A)) → All (λ x. number_of p < number_of x.0) xs → kept_for p xs ≡ None
none_there p [] all = refl
none_there p (x ∷ xs) all =
    let more = all 0 x (omega arith) in
    passed p x xs (λ e. omega (arith, e, more)) ∙ none_there p xs (tail_all (λ x. number_of p < number_of x.0) x xs all)

-- what these properties have of it, where they have what a list has for them, is that list
abbrev Rebuilds : {A : Type 0} → (PropertyId → Option A) → List PropertyId → ℕ → List (PropertyId × A) → Type 0
Rebuilds has ps k xs =
    AllPairs IsBefore xs → All (λ x. k ≤ number_of x.0) xs → All (λ x. number_of x.0 < k + length ps) xs
    → ((p : PropertyId) → k ≤ number_of p → has p ≡ kept_for p xs) → filter_map (λ p. option_map (λ a. (p, a)) (has p)) ps ≡ xs

-- one more property before them
step : {A : Type 0} (has : PropertyId → Option A) (q : PropertyId) (qs : List PropertyId) (k : ℕ) → number_of q ≡ k
    → ((xs : List (PropertyId × A)) → Rebuilds has qs (k + 1) xs) → (xs : List (PropertyId × A)) → Rebuilds has (q ∷ qs) k xs
step has q qs k at rest [] ascends low high same =
    ap (λ o. cons_option (option_map (λ a. (q, a)) o) (filter_map (λ p. option_map (λ a. (p, a)) (has p)) qs)) (same q (omega (arith, at)))
    ∙ rest [] ascends (λ i d l. absurd (omega (arith, l))) (λ i d l. absurd (omega (arith, l))) (λ p more. same p (omega (arith, more)))
step {A} has q qs k at rest (x ∷ xs) ascends low high same = go (nat_eq (number_of x.0) k) refl where
  here : List (PropertyId × A)
  here = filter_map (λ p. option_map (λ a. (p, a)) (has p)) qs

  go : (b : Bool) → nat_eq (number_of x.0) k ≡ b → cons_option (option_map (λ a. (q, a)) (has q)) here ≡ x ∷ xs
  go true e =
      let number = is_number (number_of x.0) k e in
      let later : All (λ y. k + 1 ≤ number_of y.0) xs = λ i d l. let before = ascends 0 (suc i) d (omega arith) (omega (arith, l)) in omega (arith, before, number) in
      ap (λ o. cons_option (option_map (λ a. (q, a)) o) here) (same q (omega (arith, at)) ∙ found q x xs (number ∙ sym at))
      ∙ ap (λ p. (p, x.1) ∷ here) (sym (same_property x.0 q (number ∙ sym at)))
      ∙ ap (λ l. x ∷ l)
      (rest xs (tail_ascends x xs ascends) later (λ i d l. let less = high (suc i) d (omega (arith, l)) in omega (arith, less))
      (λ p more. same p (omega (arith, more)) ∙ passed p x xs (λ e. omega (arith, e, number, more))))
  go false e =
      let other = is_other (number_of x.0) k e in
      let first = low 0 x (omega arith) in
      let more : k + 1 ≤ number_of x.0 = omega (arith, other, first) in
      let all : All (λ y. k + 1 ≤ number_of y.0) (x ∷ xs) = at_least (k + 1) more in
      ap (λ o. cons_option (option_map (λ a. (q, a)) o) here)
      (same q (omega (arith, at)) ∙ none_there q (x ∷ xs) (λ i d l. let least = all i d l in omega (arith, least, at)))
      ∙ rest (x ∷ xs) ascends all (λ i d l. let less = high i d l in omega (arith, less)) (λ p more. same p (omega (arith, more)))
    where
      at_least : (n : ℕ) → n ≤ number_of x.0 → All (λ y. n ≤ number_of y.0) (x ∷ xs)
      at_least n first zero d l = first
      at_least n first (suc i) d l = let before = ascends 0 (suc i) d (omega arith) l in omega (arith, before, first)

rebuilt : {A : Type 0} (has : PropertyId → Option A) (ps : List PropertyId) (k : ℕ) → CountsUp k ps → (xs : List (PropertyId × A)) → Rebuilds has ps k xs
rebuilt has [] k counts [] ascends low high same = refl
rebuilt has [] k counts (x ∷ xs) ascends low high same =
    let first = low 0 x (omega arith) in let last = high 0 x (omega arith) in absurd (omega (arith, first, last))
rebuilt has (q ∷ qs) k counts xs ascends low high same = step has q qs k counts.0 (rebuilt has qs (k + 1) counts.1) xs ascends low high same

-- a list by property is what the properties have of it
pub by_property_is : {A : Type 0} (has : PropertyId → Option A) (xs : List (PropertyId × A)) → AllPairs IsBefore xs
    → ((p : PropertyId) → has p ≡ kept_for p xs) → by_property has ≡ xs
by_property_is has xs ascends same =
    rebuilt has all_properties 0 counts_up xs ascends (λ i d l. omega arith) (λ i d l. number_small _) (λ p more. same p)

-- a look-up in a list of changed items finds what is changed of the item
pub kept_map : {A : Type 0} (f : A → A) (p : PropertyId) (xs : List (PropertyId × A)) → kept_for p (map (λ x. (x.0, f x.1)) xs) ≡ option_map f (kept_for p xs)
kept_map f p [] = refl
kept_map {A} f p (x ∷ xs) = go (nat_eq (number_of x.0) (number_of p)) (kept_map f p xs) where
  go : (b : Bool) → kept_for p (map (λ x. (x.0, f x.1)) xs) ≡ option_map f (kept_for p xs)
      → option_map {T = PropertyId × A} (λ k. k.1) (cond b (Some (x.0, f x.1)) (find (λ k. nat_eq (number_of k.0) (number_of p)) (map (λ x. (x.0, f x.1)) xs)))
      ≡ option_map f (option_map (λ k. k.1) (cond b (Some x) (find (λ k. nat_eq (number_of k.0) (number_of p)) xs)))
  go true rest = refl
  go false rest = rest
