-- Lists of which one item is changed.
use Rattle.std.proofs.Common.{◌≡◌, ℕ, zero, suc, ◌<◌, refl, ap, arith}
use Rattle.std.specs.Prelude.{List, [], ◌∷◌, All, AllPairs, length, slice_index_or, set}
use Rattle.style_data.specs.TransitionSets.{with_changed_item}

pub set-changed : {A : Type 0} (f : A → A) (xs : List A) (i : ℕ) (d : A) → i < length xs → set xs i (f (slice_index_or xs i d)) ≡ with_changed_item f xs i
set-changed f [] i d within = absurd (omega arith)
set-changed f (x ∷ xs) zero d within = refl
set-changed f (x ∷ xs) (suc i) d within = ap (λ ys. x ∷ ys) (set-changed f xs i d (omega arith))

pub length-with_changed_item : {A : Type 0} (f : A → A) (xs : List A) (i : ℕ) → length (with_changed_item f xs i) ≡ length xs
length-with_changed_item f [] i = refl
length-with_changed_item f (x ∷ xs) zero = refl
length-with_changed_item f (x ∷ xs) (suc i) = ap (λ n. suc n) (length-with_changed_item f xs i)

-- what a change keeps of every item holds of each item after it
pub at_changed : {A : Type 0} (f : A → A) (P : A → Type 0) → ((x : A) → P x → P (f x)) → (xs : List A) (i k : ℕ) (d : A)
    → P (slice_index_or xs k d) → P (slice_index_or (with_changed_item f xs i) k d)
at_changed f P keeps [] i k d has = has
at_changed f P keeps (x ∷ xs) zero zero d has = keeps x has
at_changed f P keeps (x ∷ xs) zero (suc k) d has = has
at_changed f P keeps (x ∷ xs) (suc i) zero d has = has
at_changed f P keeps (x ∷ xs) (suc i) (suc k) d has = at_changed f P keeps xs i k d has

pub All-with_changed_item : {A : Type 0} (f : A → A) (P : A → Type 0) → ((x : A) → P x → P (f x)) → (xs : List A) (i : ℕ) → All P xs → All P (with_changed_item f xs i)
All-with_changed_item f P keeps xs i all k d within = at_changed f P keeps xs i k d (all k d (rw (← length-with_changed_item f xs i) within))

pub AllPairs-with_changed_item : {A : Type 0} (f : A → A) (R : A → A → Type 0) → ((x y : A) → R x y → R (f x) y) → ((x y : A) → R x y → R x (f y))
    → (xs : List A) (i : ℕ) → AllPairs R xs → AllPairs R (with_changed_item f xs i)
AllPairs-with_changed_item f R first second xs i all j k d less within =
    at_changed f (λ x. R x (slice_index_or (with_changed_item f xs i) k d)) (λ x. first x _) xs i j d
    (at_changed f (λ y. R (slice_index_or xs j d) y) (λ y. second _ y) xs i k d (all j k d less (rw (← length-with_changed_item f xs i) within)))
