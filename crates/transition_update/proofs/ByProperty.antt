-- Lists that have an item for some of the properties.
use Rattle.std.proofs.Common.{◌≡◌, ℕ, ◌+◌, ◌<◌, ◌≤◌, refl, ◌∙◌, ap, arith, rules}
use Rattle.std.specs.Prelude.{Bool, true, false, cond, nat_eq, List, [], ◌∷◌, length, Option, None, Some, option_map, find}
use Rattle.std.specs.List.{cons_option, filter_map}
use Rattle.computed_style.proofs.Tables.{number_small, same_property}
use Rattle.computed_style.specs.ByProperty.{kept_for}
use Rattle.value_types.proofs.PropertyLemmas.{CountsUp, counts_up}
use Rattle.value_types.specs.Properties.{all_properties, number_of}
use Rattle.value_types.specs.declared.property.PropertyId.{PropertyId}
use Rattle.transition_update.specs.Updates.{by_property}

-- what these properties have of it
abbrev pub of_these : {A : Type 0} → (PropertyId → Option A) → List PropertyId → List (PropertyId × A)
of_these has ps = filter_map (λ p. option_map (λ a. (p, a)) (has p)) ps

pub unlike : (m n : ℕ) → (m ≡ n → ⊥) → nat_eq m n ≡ false
unlike m n differ = grind (arith, rules)

pub like : (m n : ℕ) → m ≡ n → nat_eq m n ≡ true
like m n e = grind (arith, rules)

-- a property of another number is passed over
passed_over : {A : Type 0} (p q : PropertyId) (o : Option A) (rest : List (PropertyId × A)) → nat_eq (number_of q) (number_of p) ≡ false
    → kept_for p (cons_option (option_map (λ a. (q, a)) o) rest) ≡ kept_for p rest
passed_over p q None rest e = refl
passed_over p q (Some a) rest e = ap (λ b. option_map (λ k. k.1) (cond b (Some (q, a)) (find (λ k. nat_eq (number_of k.0) (number_of p)) rest))) e

-- the property itself has its own
found_here : {A : Type 0} (p q : PropertyId) (o : Option A) (rest : List (PropertyId × A)) → nat_eq (number_of q) (number_of p) ≡ true
    → kept_for p rest ≡ None → kept_for p (cons_option (option_map (λ a. (q, a)) o) rest) ≡ o
found_here p q None rest e none = none
found_here p q (Some a) rest e none = ap (λ b. option_map (λ k. k.1) (cond b (Some (q, a)) (find (λ k. nat_eq (number_of k.0) (number_of p)) rest))) e

-- properties of greater numbers have nothing for the property
none_before : {A : Type 0} (has : PropertyId → Option A) (ps : List PropertyId) (k : ℕ) (p : PropertyId) → CountsUp k ps → number_of p < k
    → kept_for p (of_these has ps) ≡ None
none_before has [] k p counts less = refl
none_before has (q ∷ qs) k p counts less =
    passed_over p q (has q) (of_these has qs) (unlike (number_of q) (number_of p) (λ e. omega (arith, e, counts.0, less)))
    ∙ none_before has qs (k + 1) p counts.1 (omega (arith, less))

number : (m n : ℕ) → nat_eq m n ≡ true → m ≡ n
number m n e = grind (arith, rules)

other : (m n : ℕ) → nat_eq m n ≡ false → m ≡ n → ⊥
other m n e = grind (arith, rules)

-- the look-up of a property among those that count up finds what it has
has_there : {A : Type 0} (has : PropertyId → Option A) (ps : List PropertyId) (k : ℕ) (p : PropertyId) → CountsUp k ps → k ≤ number_of p → number_of p < k + length ps
    → kept_for p (of_these has ps) ≡ has p
has_there has [] k p counts low high = absurd (omega (arith, low, high))
has_there {A} has (q ∷ qs) k p counts low high =
    go (nat_eq (number_of q) (number_of p)) refl
    (λ apart. has_there has qs (k + 1) p counts.1 (omega (arith, apart, counts.0, low)) (omega (arith, high)))
  where
    go : (b : Bool) → nat_eq (number_of q) (number_of p) ≡ b → ((number_of q ≡ number_of p → ⊥) → kept_for p (of_these has qs) ≡ has p) → kept_for p (of_these has (q ∷ qs)) ≡ has p
    go true e later =
        let same = number (number_of q) (number_of p) e in
        found_here p q (has q) (of_these has qs) e (none_before has qs (k + 1) p counts.1 (omega (arith, same, counts.0)))
        ∙ ap has (same_property q p same)
    go false e later = passed_over p q (has q) (of_these has qs) e ∙ later (other (number_of q) (number_of p) e)

-- what a property has of a list of all
pub by_property_has : {A : Type 0} (has : PropertyId → Option A) (p : PropertyId) → kept_for p (by_property has) ≡ has p
by_property_has has p = has_there has all_properties 0 p counts_up (omega arith) (number_small p)
