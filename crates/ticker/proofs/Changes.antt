-- Lists of which the first items are changed.
use Rattle.std.proofs.Common.{◌≡◌, ℕ, zero, suc, ◌<◌, ◌≤◌, refl, sym, ◌∙◌, ap, arith}
use Rattle.std.specs.Prelude.{List, [], ◌∷◌, AllPairs, length, map, set, slice_index_or}
use Rattle.style_data.specs.TransitionSets.{with_changed_item}

-- the list with this made of its first items
abbrev pub changed_first : {A : Type 0} → (A → A) → List A → ℕ → List A
changed_first g [] i = []
changed_first g (x ∷ xs) zero = x ∷ xs
changed_first g (x ∷ xs) (suc i) = g x ∷ changed_first g xs i

pub none_changed : {A : Type 0} (g : A → A) (xs : List A) → changed_first g xs 0 ≡ xs
none_changed g [] = refl
none_changed g (x ∷ xs) = refl

pub all_changed : {A : Type 0} (g : A → A) (xs : List A) (i : ℕ) → length xs ≤ i → changed_first g xs i ≡ map g xs
all_changed g [] i all = refl
all_changed g (x ∷ xs) zero all = absurd (omega (arith, all))
all_changed g (x ∷ xs) (suc i) all = ap (λ ys. g x ∷ ys) (all_changed g xs i (omega (arith, all)))

pub length-changed_first : {A : Type 0} (g : A → A) (xs : List A) (i : ℕ) → length (changed_first g xs i) ≡ length xs
length-changed_first g [] i = refl
length-changed_first g (x ∷ xs) zero = refl
length-changed_first g (x ∷ xs) (suc i) = ap (λ n. suc n) (length-changed_first g xs i)

-- the item after the changed ones is as it was
pub at_changed_first : {A : Type 0} (g : A → A) (xs : List A) (i : ℕ) (d : A) → slice_index_or (changed_first g xs i) i d ≡ slice_index_or xs i d
at_changed_first g [] i d = refl
at_changed_first g (x ∷ xs) zero d = refl
at_changed_first g (x ∷ xs) (suc i) d = at_changed_first g xs i d

-- a change of that item is one more
pub next_changed : {A : Type 0} (f g : A → A) (xs : List A) (i : ℕ) (d : A) → f (slice_index_or xs i d) ≡ g (slice_index_or xs i d) → i < length xs
    → with_changed_item f (changed_first g xs i) i ≡ changed_first g xs (suc i)
next_changed f g [] i d same less = absurd (omega (arith, less))
next_changed f g (x ∷ xs) zero d same less = ap (λ y. y ∷ xs) same ∙ ap (λ ys. g x ∷ ys) (sym (none_changed g xs))
next_changed f g (x ∷ xs) (suc i) d same less = ap (λ ys. g x ∷ ys) (next_changed f g xs i d same (omega (arith, less)))

pub next_set : {A : Type 0} (g : A → A) (xs : List A) (i : ℕ) (d : A) → i < length xs → set (changed_first g xs i) i (g (slice_index_or xs i d)) ≡ changed_first g xs (suc i)
next_set g [] i d less = absurd (omega (arith, less))
next_set g (x ∷ xs) zero d less = ap (λ ys. g x ∷ ys) (sym (none_changed g xs))
next_set g (x ∷ xs) (suc i) d less = ap (λ ys. g x ∷ ys) (next_set g xs i d (omega (arith, less)))

-- ---- lists of which each item is changed

pub at_map : {A : Type 0} (f : A → A) (xs : List A) (i : ℕ) (d : A) → i < length xs → slice_index_or (map f xs) i d ≡ f (slice_index_or xs i d)
at_map f [] i d less = absurd (omega (arith, less))
at_map f (x ∷ xs) zero d less = refl
at_map f (x ∷ xs) (suc i) d less = at_map f xs i d (omega (arith, less))

pub length_map : {A : Type 0} (f : A → A) (xs : List A) → length (map f xs) ≡ length xs
length_map f [] = refl
length_map f (x ∷ xs) = ap (λ n. suc n) (length_map f xs)

pub AllPairs-map : {A : Type 0} (f : A → A) (R : A → A → Type 0) → ((x y : A) → R x y → R (f x) (f y)) → (xs : List A) → AllPairs R xs → AllPairs R (map f xs)
AllPairs-map f R keeps xs all i j d less short =
    let within : j < length xs = omega (arith, length_map f xs, short) in
    rw (at_map f xs i d (omega (arith, less, within)), at_map f xs j d within) (keeps _ _ (all i j d less within))
