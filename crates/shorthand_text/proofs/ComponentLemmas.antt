-- Components, step by step.
use Rattle.std.proofs.Common.{◌≡◌, ℕ, suc, ◌+◌, ◌-◌, ◌<◌, ◌≤◌, refl, arith, ap, subst, sym, ◌∙◌, List, ◌∷◌, [], ◌++◌, length, get_or, drop, take, map, Bool, true, false, Option, Some, None, append_assoc, append-nil}
use Rattle.std.specs.Prelude.{slice_range}
use Rattle.std.specs.List.{remove}
use Rattle.std.proofs.lemmas.List.{drop_all, drop_more, map-append, take_all, take_more}
use Rattle.token_parts.specs.Parts.{TokenPart}
use Rattle.list_text.specs.ItemReading.{is_inside, onto_first_group}
use Rattle.list_text.proofs.GroupLemmas.{onto_first-append, onto_first-nil, rest_is, slice_more}
use Rattle.shorthand_text.specs.Components.{behind, component_values_of, first_some, fitting, others}

at_end : (done whole : List (List TokenPart)) (front : List TokenPart) (inside : Bool) (p : TokenPart) (rest : List TokenPart) → is_inside inside p ≡ false
    → done ++ onto_first_group front (component_values_of inside (p ∷ rest)) ≡ whole → (done ++ (front ++ p ∷ []) ∷ []) ++ onto_first_group [] (component_values_of false rest) ≡ whole
at_end done whole front inside p rest e h =
    let cut : component_values_of inside (p ∷ rest) ≡ (p ∷ []) ∷ component_values_of false rest = rw e refl in
    let told : done ++ (front ++ p ∷ []) ∷ component_values_of false rest ≡ whole = subst (λ cs. done ++ onto_first_group front cs ≡ whole) cut h in
    rw (onto_first-nil (component_values_of false rest)) (append_assoc done ((front ++ p ∷ []) ∷ []) (component_values_of false rest) ∙ told)

within : (done whole : List (List TokenPart)) (front : List TokenPart) (inside : Bool) (p : TokenPart) (rest : List TokenPart) → is_inside inside p ≡ true
    → done ++ onto_first_group front (component_values_of inside (p ∷ rest)) ≡ whole → done ++ onto_first_group (front ++ p ∷ []) (component_values_of true rest) ≡ whole
within done whole front inside p rest e h =
    let grown : component_values_of inside (p ∷ rest) ≡ onto_first_group (p ∷ []) (component_values_of true rest) = rw e refl in
    let told : done ++ onto_first_group front (onto_first_group (p ∷ []) (component_values_of true rest)) ≡ whole = subst (λ cs. done ++ onto_first_group front cs ≡ whole) grown h in
    subst (λ cs. done ++ cs ≡ whole) (onto_first-append front (p ∷ []) (component_values_of true rest)) told

more_is : {A : Type 0} (f : A → TokenPart) (ps : List A) (from i : ℕ) (d : A) → from ≤ i → i < length ps
    → map f (slice_range ps from (i + 1)) ≡ map f (slice_range ps from i) ++ f (get_or ps i d) ∷ []
more_is f ps from i d low h = ap (map f) (slice_more ps from i d low h) ∙ map-append f (slice_range ps from i) (get_or ps i d ∷ [])

-- a part after which no bracket is open ends a component
pub end_step : {A : Type 0} (f : A → TokenPart) (done whole : List (List TokenPart)) (ps : List A) (from i : ℕ) (inside : Bool) (d : A) → from ≤ i → i < length ps
    → is_inside inside (f (get_or ps i d)) ≡ false
    → done ++ onto_first_group (map f (slice_range ps from i)) (component_values_of inside (map f (drop i ps))) ≡ whole
    → (done ++ map f (slice_range ps from (i + 1)) ∷ []) ++ onto_first_group (map f (slice_range ps (i + 1) (i + 1))) (component_values_of false (map f (drop (i + 1) ps))) ≡ whole
end_step f done whole ps from i inside d low h closed before =
    let none : i + 1 - (i + 1) ≡ 0 = omega arith in
    let told : done ++ onto_first_group (map f (slice_range ps from i)) (component_values_of inside (f (get_or ps i d) ∷ map f (drop (i + 1) ps))) ≡ whole =
    subst (λ l. done ++ onto_first_group (map f (slice_range ps from i)) (component_values_of inside l) ≡ whole) (rest_is f ps i d h) before in
    let after : (done ++ (map f (slice_range ps from i) ++ f (get_or ps i d) ∷ []) ∷ []) ++ onto_first_group [] (component_values_of false (map f (drop (i + 1) ps))) ≡ whole =
    at_end done whole (map f (slice_range ps from i)) inside (f (get_or ps i d)) (map f (drop (i + 1) ps)) closed told in
    let whole_is : (done ++ map f (slice_range ps from (i + 1)) ∷ []) ++ onto_first_group [] (component_values_of false (map f (drop (i + 1) ps))) ≡ whole =
    rw (more_is f ps from i d low h) after in
    subst (λ n. (done ++ map f (slice_range ps from (i + 1)) ∷ []) ++ onto_first_group (map f (take n (drop (i + 1) ps))) (component_values_of false (map f (drop (i + 1) ps))) ≡ whole) (sym none) whole_is

-- any other belongs to the component that is open
pub within_step : {A : Type 0} (f : A → TokenPart) (done whole : List (List TokenPart)) (ps : List A) (from i : ℕ) (inside : Bool) (d : A) → from ≤ i → i < length ps
    → is_inside inside (f (get_or ps i d)) ≡ true
    → done ++ onto_first_group (map f (slice_range ps from i)) (component_values_of inside (map f (drop i ps))) ≡ whole
    → done ++ onto_first_group (map f (slice_range ps from (i + 1))) (component_values_of true (map f (drop (i + 1) ps))) ≡ whole
within_step f done whole ps from i inside d low h open_ before =
    let told : done ++ onto_first_group (map f (slice_range ps from i)) (component_values_of inside (f (get_or ps i d) ∷ map f (drop (i + 1) ps))) ≡ whole =
    subst (λ l. done ++ onto_first_group (map f (slice_range ps from i)) (component_values_of inside l) ≡ whole) (rest_is f ps i d h) before in
    rw (more_is f ps from i d low h) (within done whole (map f (slice_range ps from i)) inside (f (get_or ps i d)) (map f (drop (i + 1) ps)) open_ told)

-- what is open at the end is the last component
pub open_end : (done whole : List (List TokenPart)) (front : List TokenPart) → done ++ onto_first_group front (component_values_of true []) ≡ whole → done ++ front ∷ [] ≡ whole
open_end done whole front h = subst (λ c. done ++ c ∷ [] ≡ whole) (append-nil front) h

pub closed_end : (done whole : List (List TokenPart)) (front : List TokenPart) → done ++ onto_first_group front (component_values_of false []) ≡ whole → done ≡ whole
closed_end done whole front h = sym (append-nil done) ∙ h

-- ---- what fits

pub fits_here : {T : Type 0} (meaning : List TokenPart → Option T) (x : T) (c : List TokenPart) (cs : List (List TokenPart)) → meaning c ≡ Some x
    → (fitting meaning (c ∷ cs) ≡ Some x) × (others meaning (c ∷ cs) ≡ cs)
fits_here meaning x c cs e = (ap (λ o. first_some o (fitting meaning cs)) e, ap (λ o. behind o cs (c ∷ others meaning cs)) e)

pub fits_later : {T : Type 0} (meaning : List TokenPart → Option T) (c : List TokenPart) (cs : List (List TokenPart)) → meaning c ≡ None
    → (fitting meaning (c ∷ cs) ≡ fitting meaning cs) × (others meaning (c ∷ cs) ≡ c ∷ others meaning cs)
fits_later meaning c cs e = (ap (λ o. first_some o (fitting meaning cs)) e, ap (λ o. behind o cs (c ∷ others meaning cs)) e)

-- none of the first i fits
pub record ArePassed {A T : Type 0} (meaning : List TokenPart → Option T) (f : A → List TokenPart) (xs : List A) (i : ℕ) : Type 0 where
  pub fit : fitting meaning (map f (drop i xs)) ≡ fitting meaning (map f xs)
  pub rest : map f (take i xs) ++ others meaning (map f (drop i xs)) ≡ others meaning (map f xs)

pub none_passed : {A T : Type 0} (meaning : List TokenPart → Option T) (f : A → List TokenPart) (xs : List A) → ArePassed meaning f xs 0
none_passed meaning f xs = record { fit = refl; rest = refl }

pub one_passed : {A T : Type 0} (meaning : List TokenPart → Option T) (f : A → List TokenPart) (xs : List A) (i : ℕ) (d : A) → i < length xs
    → meaning (f (get_or xs i d)) ≡ None → ArePassed meaning f xs i → ArePassed meaning f xs (i + 1)
one_passed meaning f xs i d h none p =
    let next = map f (drop (i + 1) xs) in
    let here : map f (drop i xs) ≡ f (get_or xs i d) ∷ next = ap (map f) (drop_more xs i d h) in
    let later = fits_later meaning (f (get_or xs i d)) next none in
    let front : map f (take (i + 1) xs) ≡ map f (take i xs) ++ f (get_or xs i d) ∷ [] =
    ap (map f) (take_more xs i d h) ∙ map-append f (take i xs) (get_or xs i d ∷ []) in
    record {
      fit = sym later.0 ∙ sym (ap (fitting meaning) here) ∙ p.fit;
      rest = ap (λ l. l ++ others meaning next) front
          ∙ append_assoc (map f (take i xs)) (f (get_or xs i d) ∷ []) (others meaning next)
          ∙ ap (λ l. map f (take i xs) ++ l) (sym later.1 ∙ sym (ap (others meaning) here)) ∙ p.rest;
    }

pub first_here : {A T : Type 0} (meaning : List TokenPart → Option T) (f : A → List TokenPart) (xs : List A) (i : ℕ) (d : A) (x : T) → i < length xs
    → meaning (f (get_or xs i d)) ≡ Some x → ArePassed meaning f xs i
    → (Some x ≡ fitting meaning (map f xs)) × (map f (remove xs i) ≡ others meaning (map f xs))
first_here meaning f xs i d x h fits p =
    let next = map f (drop (i + 1) xs) in
    let here : map f (drop i xs) ≡ f (get_or xs i d) ∷ next = ap (map f) (drop_more xs i d h) in
    let now = fits_here meaning x (f (get_or xs i d)) next fits in
    let one : suc i ≡ i + 1 = omega arith in (
      sym (sym p.fit ∙ ap (fitting meaning) here ∙ now.0),
      map-append f (take i xs) (drop (suc i) xs) ∙ ap (λ n. map f (take i xs) ++ map f (drop n xs)) one
          ∙ ap (λ l. map f (take i xs) ++ l) (sym (ap (others meaning) here ∙ now.1)) ∙ p.rest,
    )

pub all_passed : {A T : Type 0} (meaning : List TokenPart → Option T) (f : A → List TokenPart) (xs : List A) (i : ℕ) → length xs ≤ i → ArePassed meaning f xs i
    → (None ≡ fitting meaning (map f xs)) × (map f xs ≡ others meaning (map f xs))
all_passed meaning f xs i h p =
    let nothing : drop i xs ≡ [] = drop_all i xs h in
    let everything : take i xs ≡ xs = take_all i xs h in (
      ap (λ l. fitting meaning (map f l)) (sym nothing) ∙ p.fit,
      sym (append-nil (map f xs)) ∙ ap (λ l. map f l ++ []) (sym everything) ∙ ap (λ l. map f (take i xs) ++ others meaning (map f l)) (sym nothing) ∙ p.rest,
    )
