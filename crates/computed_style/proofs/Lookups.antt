-- Looking up what a list has for a property.
use Rattle.std.proofs.Common.{◌≡◌, ℕ, zero, suc, ◌<◌, refl, ◌∙◌, ap, arith, rules, subst}
use Rattle.std.specs.Prelude.{Bool, true, false, nat_eq, List, [], ◌∷◌, All, AllPairs, Option, None, Some, IfSome, option_map, find, cond}
use Rattle.std.specs.List.{Contains}
use Rattle.value_types.specs.Properties.{number_of}
use Rattle.value_types.specs.declared.property.PropertyId.{PropertyId}
use Rattle.computed_style.specs.ByProperty.{IsBefore, kept_for}
use Rattle.computed_style.proofs.Tables.{same_property}

same_number : (m n : ℕ) → nat_eq m n ≡ true → m ≡ n
same_number m n e = grind (arith, rules)

pair : {A : Type 0} (x : PropertyId × A) (p : PropertyId) (a : A) → x.0 ≡ p → x.1 ≡ a → x ≡ (p, a)
pair (q, b) p a e f = rw (e, f) refl

unlike : (m n : ℕ) → m < n → nat_eq m n ≡ false
unlike m n less = grind (arith, rules)

like : (m n : ℕ) → m ≡ n → nat_eq m n ≡ true
like m n e = grind (arith, rules)

pub kept_found : {A : Type 0} (xs : List (PropertyId × A)) (p : PropertyId) (a : A) → AllPairs IsBefore xs → Contains xs (p, a) → kept_for p xs ≡ Some a
kept_found [] p a h (k, l, e) = absurd (omega arith)
kept_found (x ∷ xs) p a h (zero, l, e) =
    ap (λ b. option_map (λ k. k.1) (cond b (Some x) (find (λ k. nat_eq (number_of k.0) (number_of p)) xs)))
    (like (number_of x.0) (number_of p) (ap (λ k. number_of k.0) e)) ∙ ap (λ k. Some k.1) e
kept_found (x ∷ xs) p a h (suc k, l, e) =
    ap (λ b. option_map (λ k. k.1) (cond b (Some x) (find (λ k. nat_eq (number_of k.0) (number_of p)) xs)))
    (unlike (number_of x.0) (number_of p) (subst (λ q. number_of x.0 < number_of q.0) e (h 0 (suc k) (p, a) (omega arith) l)))
    ∙ kept_found xs p a (λ i j d less short. h (suc i) (suc j) d (omega arith) (omega arith)) (k, omega arith, e)

-- what a test of the first item and a look-up in the others find
found_by : {A : Type 0} (x : PropertyId × A) (xs : List (PropertyId × A)) (p : PropertyId) (a : A) (b : Bool) → nat_eq (number_of x.0) (number_of p) ≡ b
    → (kept_for p xs ≡ Some a → Contains xs (p, a)) → option_map (λ k. k.1) (cond b (Some x) (find (λ k. nat_eq (number_of k.0) (number_of p)) xs)) ≡ Some a
    → Contains (x ∷ xs) (p, a)
found_by x xs p a true is rest e =
    let same : x.0 ≡ p = same_property x.0 p (same_number (number_of x.0) (number_of p) is) in
    let value : x.1 ≡ a = cc in
    (0, omega arith, pair x p a same value)
found_by x xs p a false is rest e =
    let (k, l, there) = rest e in
    (suc k, omega arith, there)

pub found_kept : {A : Type 0} (xs : List (PropertyId × A)) (p : PropertyId) (a : A) → kept_for p xs ≡ Some a → Contains xs (p, a)
found_kept [] p a e = absurd (cc)
found_kept (x ∷ xs) p a e = found_by x xs p a (nat_eq (number_of x.0) (number_of p)) refl (found_kept xs p a) e

-- what a look-up gives has what each has
pub found_has : {A : Type 0} (P : PropertyId → A → Type 0) (xs : List (PropertyId × A)) (p : PropertyId) (o : Option A) → kept_for p xs ≡ o → All (λ k. P k.0 k.1) xs → IfSome o (P p)
found_has P xs p None e all = tt
found_has {A} P xs p (Some a) e all =
    let (k, l, is) = found_kept xs p a e in
    subst (λ (x : PropertyId × A). P x.0 x.1) is (all k (p, a) l)
