-- Lists of numbers that differ, and what stands at an index.
use Rattle.std.proofs.Common.{◌≡◌, ◌≢◌, ℕ, ◌<◌, ◌≤◌, ◌||◌, true, false, eqb, List, [], ◌∷◌, ◌++◌, length, get_or, set, zero, suc, refl, sym, ap, ◌∙◌, subst, inl, inr, arith}
use Rattle.std.specs.Prelude.{nat_lt}
use Rattle.std.specs.List.{list_all}
use Rattle.std.proofs.lemmas.Bool.{cases_Bool, eqb-true, eq-eqb, ne_eqb, lt-ltb, ltb-true, and_parts, and_from, or_cases, or_parts, or_from, or_left, or_right, false≢true}
use Rattle.std.proofs.lemmas.List.{length-append, length-set, get_or-set_same, get_or-set_other, get_or_append_left}
use Rattle.std.proofs.lemmas.List.Folds.{list_any-append}
use Rattle.doc_tree.specs.Marks.{has, AreDifferent, IsAt}

pub has-append : (n : ℕ) (xs ys : List ℕ) → has n (xs ++ ys) ≡ (has n xs || has n ys)
has-append n xs ys = list_any-append (eqb n) xs ys

pub has-self : (n : ℕ) (xs : List ℕ) → has n (n ∷ xs) ≡ true
has-self n xs = or_left (eqb n n) (has n xs) (eq-eqb n n refl)

-- two numbers of which one is in a list and one isn't differ
pub apart_from : (x y : ℕ) (xs : List ℕ) → has x xs ≡ true → has y xs ≡ false → x ≢ y
apart_from x y xs hx hy same = false≢true (sym hy ∙ subst (λ (z : ℕ). has z xs ≡ true) same hx)

pub different-front : (xs ys : List ℕ) → AreDifferent (xs ++ ys) → AreDifferent xs
different-front [] ys d = tt
different-front (x ∷ xs) ys d = ((or_parts _ _ (sym (has-append x xs ys) ∙ d.0)).0, different-front xs ys d.1)

pub different-back : (xs ys : List ℕ) → AreDifferent (xs ++ ys) → AreDifferent ys
different-back [] ys d = d
different-back (x ∷ xs) ys d = different-back xs ys d.1

pub different-apart : (xs ys : List ℕ) (n : ℕ) → AreDifferent (xs ++ ys) → has n xs ≡ true → has n ys ≡ false
different-apart [] ys n d h = absurd (false≢true h)
different-apart (x ∷ xs) ys n d h =
    elim (or_cases (eqb n x) (has n xs) h) [
      | inl same ↦ subst (λ (z : ℕ). has z ys ≡ false) (sym (eqb-true _ _ same)) (or_parts _ _ (sym (has-append x xs ys) ∙ d.0)).1
      | inr later ↦ different-apart xs ys n d.1 later
    ]

-- a number that isn't in the whole isn't in the parts
pub absent-parts : (n : ℕ) (xs ys : List ℕ) → has n (xs ++ ys) ≡ false → (has n xs ≡ false) × (has n ys ≡ false)
absent-parts n xs ys h = or_parts _ _ (sym (has-append n xs ys) ∙ h)

pub absent-from : (n : ℕ) (xs ys : List ℕ) → has n xs ≡ false → has n ys ≡ false → has n (xs ++ ys) ≡ false
absent-from n xs ys h k = has-append n xs ys ∙ or_from _ _ h k

pub different-put : (xs ys : List ℕ) (a : ℕ) → AreDifferent (xs ++ ys) → has a (xs ++ ys) ≡ false → AreDifferent (xs ++ a ∷ ys)
different-put [] ys a d fresh = (fresh, d)
different-put (x ∷ xs) ys a d fresh =
    let parts = or_parts (eqb a x) (has a (xs ++ ys)) fresh in
    let own = absent-parts x xs ys d.0 in
    let other : eqb x a ≡ false = ne_eqb x a (λ same. false≢true (sym parts.0 ∙ eq-eqb a x (sym same))) in
    (absent-from x xs (a ∷ ys) own.0 (or_from _ _ other own.1), different-put xs ys a d.1 parts.1)

pub different-cut : (xs zs ys : List ℕ) → AreDifferent (xs ++ (zs ++ ys)) → AreDifferent (xs ++ ys)
different-cut [] zs ys d = different-back zs ys d
different-cut (x ∷ xs) zs ys d =
    let own = absent-parts x xs (zs ++ ys) d.0 in
    (absent-from x xs ys own.0 (absent-parts x zs ys own.1).1, different-cut xs zs ys d.1)

-- at an index

pub at-set_same : (xs : List ℕ) (i v : ℕ) → i < length xs → IsAt (set xs i v) i v
at-set_same xs i v h = record { within = omega (arith, length-set xs i v, h); is = get_or-set_same xs i v 0 h }

pub at-set_other : (xs : List ℕ) (i j v w : ℕ) → j ≢ i → IsAt xs j v → IsAt (set xs i w) j v
at-set_other xs i j v w other at = record { within = omega (arith, length-set xs i w, at.within); is = get_or-set_other xs i j w 0 other ∙ at.is }

pub at-append : (xs ys : List ℕ) (i v : ℕ) → IsAt xs i v → IsAt (xs ++ ys) i v
at-append xs ys i v at = record { within = omega (arith, length-append xs ys, at.within); is = get_or_append_left xs ys 0 i at.within ∙ at.is }

pub at-seam : (xs ys : List ℕ) (i v : ℕ) → i ≡ length xs → IsAt (xs ++ v ∷ ys) i v
at-seam [] ys zero v e = record { within = omega arith; is = refl }
at-seam [] ys (suc i) v e = absurd (omega arith)
at-seam (x ∷ xs) ys zero v e = absurd (omega arith)
at-seam (x ∷ xs) ys (suc i) v e =
    let rest = at-seam xs ys i v (omega arith) in
    record { within = omega (arith, rest.within); is = rest.is }

pub at-same : (xs : List ℕ) (i v w : ℕ) → IsAt xs i v → IsAt xs i w → v ≡ w
at-same xs i v w a b = sym a.is ∙ b.is

-- a bound on all numbers of a list

pub below-weaker : (xs : List ℕ) (m n : ℕ) → m ≤ n → list_all (λ x. nat_lt x m) xs ≡ true → list_all (λ x. nat_lt x n) xs ≡ true
below-weaker [] m n h all = refl
below-weaker (x ∷ xs) m n h all =
    let parts = and_parts (nat_lt x m) _ all in
    and_from _ _ (lt-ltb x n (omega (arith, ltb-true _ _ parts.0))) (below-weaker xs m n h parts.1)

pub below-set : (xs : List ℕ) (i v n : ℕ) → v < n → list_all (λ x. nat_lt x n) xs ≡ true → list_all (λ x. nat_lt x n) (set xs i v) ≡ true
below-set [] i v n h all = refl
below-set (x ∷ xs) zero v n h all = and_from _ _ (lt-ltb v n h) (and_parts (nat_lt x n) _ all).1
below-set (x ∷ xs) (suc i) v n h all =
    let parts = and_parts (nat_lt x n) _ all in
    and_from _ _ parts.0 (below-set xs i v n h parts.1)

pub below-at : (xs : List ℕ) (i n : ℕ) → i < length xs → list_all (λ x. nat_lt x n) xs ≡ true → get_or xs i 0 < n
below-at [] i n h all = absurd (omega arith)
below-at (x ∷ xs) zero n h all = ltb-true _ _ (and_parts (nat_lt x n) _ all).0
below-at (x ∷ xs) (suc i) n h all = below-at xs i n (omega arith) (and_parts (nat_lt x n) _ all).1

-- a number that stands once stands nowhere else
pub different-before : (xs : List ℕ) (n : ℕ) (ys : List ℕ) → AreDifferent (xs ++ n ∷ ys) → has n xs ≡ false
different-before xs n ys d =
    elim (cases_Bool (has n xs)) [ inl there ↦ absurd (false≢true (sym (different-apart xs (n ∷ ys) n d there) ∙ has-self n ys)) | inr none ↦ none ]

pub different-after : (xs : List ℕ) (n : ℕ) (ys : List ℕ) → AreDifferent (xs ++ n ∷ ys) → has n ys ≡ false
different-after xs n ys d = (different-back xs (n ∷ ys) d).0

pub at-has : (xs : List ℕ) (i v : ℕ) → IsAt xs i v → has v xs ≡ true
at-has [] i v at = absurd (omega (arith, at.within))
at-has (x ∷ xs) zero v at = or_left _ _ (eq-eqb v x (sym at.is))
at-has (x ∷ xs) (suc i) v at = or_right _ _ (at-has xs i v (record { within = omega (arith, at.within); is = at.is }))

-- a number that differs from all others is at one index
pub different-index : (xs : List ℕ) (i j v : ℕ) → AreDifferent xs → IsAt xs i v → IsAt xs j v → i ≡ j
different-index [] i j v d a b = absurd (omega (arith, a.within))
different-index (x ∷ xs) zero zero v d a b = refl
different-index (x ∷ xs) zero (suc j) v d a b =
    let later : has v xs ≡ true = at-has xs j v (record { within = omega (arith, b.within); is = b.is }) in
    absurd (false≢true (sym d.0 ∙ subst (λ (y : ℕ). has y xs ≡ true) (sym a.is) later))
different-index (x ∷ xs) (suc i) zero v d a b =
    let later : has v xs ≡ true = at-has xs i v (record { within = omega (arith, a.within); is = a.is }) in
    absurd (false≢true (sym d.0 ∙ subst (λ (y : ℕ). has y xs ≡ true) (sym b.is) later))
different-index (x ∷ xs) (suc i) (suc j) v d a b =
    ap (λ (n : ℕ). suc n) (different-index xs i j v d.1 (record { within = omega (arith, a.within); is = a.is }) (record { within = omega (arith, b.within); is = b.is }))
