-- Digits: their front, and their value with a cap.
use Rattle.std.proofs.Common.{◌≡◌, ℕ, ◌+◌, ◌-◌, ◌*◌, ◌<◌, ◌≤◌, min, zero, suc, refl, arith, ap, sym, ◌∙◌, ◌∷◌, [], ◌++◌, List, Bool, true, false, cond, take, drop, get_or, replicate, length, append_assoc, add-one, inl, inr}
use Rattle.std.specs.Prelude.{take_while, IsTrue, ◌&&◌}
use Rattle.std.specs.List.{list_all}
use Rattle.std.specs.Str.Parse.{digits_value_after}
use Rattle.std.specs.Char.{digit_value, is_ascii_digit}
use Rattle.std.proofs.lemmas.Bool.{cases_lt, false≢true}
use Rattle.std.proofs.lemmas.Bool.Decides.{nat_tests}
use Rattle.std.proofs.lemmas.List.{take-replicate, take_all}
use Rattle.std.proofs.Math.Seq.{drop-cons, take-length}
use Rattle.std.proofs.lemmas.List.Sums.{take_while-cons}
use Rattle.fix_num.specs.Digits.{are_digits}

-- ---- digits

first_passes : (p : ℕ → Bool) (x : ℕ) (xs : List ℕ) (b : Bool) → p x ≡ b → list_all p xs ≡ true → list_all p (cond b (x ∷ xs) []) ≡ true
first_passes p x xs true e h = rw e h
first_passes p x xs false e h = refl

pub front_passes : (p : ℕ → Bool) (xs : List ℕ) → list_all p (take_while p xs) ≡ true
front_passes p [] = refl
front_passes p (x ∷ xs) = rw (take_while-cons p x xs) (first_passes p x (take_while p xs) (p x) refl (front_passes p xs))

first_taken : (p : ℕ → Bool) (x : ℕ) (xs front : List ℕ) (b : Bool) → take (length front) xs ≡ front → take (length (cond b (x ∷ front) [])) (x ∷ xs) ≡ cond b (x ∷ front) []
first_taken p x xs front true h = ap (λ l. x ∷ l) h
first_taken p x xs front false h = refl

pub front_taken : (p : ℕ → Bool) (xs : List ℕ) → take (length (take_while p xs)) xs ≡ take_while p xs
front_taken p [] = refl
front_taken p (x ∷ xs) = rw (take_while-cons p x xs) (first_taken p x xs (take_while p xs) (p x) (front_taken p xs))

-- the digits that the text begins with
pub are_digits_front : (xs : List ℕ) → IsTrue (are_digits (take (length (take_while is_ascii_digit xs)) xs))
are_digits_front xs = rw (front_taken is_ascii_digit xs) (front_passes is_ascii_digit xs)

and_then : (a b c : Bool) → (b ≡ true → c ≡ true) → (a && b) ≡ true → (a && c) ≡ true
and_then true b c f h = f h
and_then false b c f h = h

and_left : (a b : Bool) → (a && b) ≡ true → a ≡ true
and_left true b h = refl
and_left false b h = h

and_right : (a b : Bool) → (a && b) ≡ true → b ≡ true
and_right true b h = h
and_right false b h = absurd (false≢true h)

pub digit_is : (d : ℕ) → is_ascii_digit d ≡ true → digit_value d ≡ d - 48
digit_is d h = grind (arith, nat_tests)

pub digit_from : (d : ℕ) → is_ascii_digit d ≡ true → 48 ≤ d
digit_from d h = grind (arith, nat_tests)

take_passes : (p : ℕ → Bool) (n : ℕ) (xs : List ℕ) → list_all p xs ≡ true → list_all p (take n xs) ≡ true
take_passes p zero xs h = refl
take_passes p (suc n) [] h = refl
take_passes p (suc n) (x ∷ xs) h = and_then (p x) _ _ (take_passes p n xs) h

pub are_digits_take : (n : ℕ) (xs : List ℕ) → IsTrue (are_digits xs) → IsTrue (are_digits (take n xs))
are_digits_take n xs h = take_passes is_ascii_digit n xs h

pub are_digits_zeros : (n : ℕ) → IsTrue (are_digits (take n (48 ∷ 48 ∷ 48 ∷ 48 ∷ 48 ∷ 48 ∷ 48 ∷ 48 ∷ 48 ∷ [])))
are_digits_zeros n = take_passes is_ascii_digit n (48 ∷ 48 ∷ 48 ∷ 48 ∷ 48 ∷ 48 ∷ 48 ∷ 48 ∷ 48 ∷ []) refl

-- ---- their value

pub digits_value_after-ge : (n : ℕ) (ds : List ℕ) → n ≤ digits_value_after 10 n ds
digits_value_after-ge n [] = omega arith
digits_value_after-ge n (d ∷ ds) = omega (arith, digits_value_after-ge (n * 10 + digit_value d) ds)

pub digits_value_after-append : (n : ℕ) (xs ys : List ℕ) → digits_value_after 10 n (xs ++ ys) ≡ digits_value_after 10 (digits_value_after 10 n xs) ys
digits_value_after-append n [] ys = refl
digits_value_after-append n (x ∷ xs) ys = digits_value_after-append (n * 10 + digit_value x) xs ys

-- a cap on the way changes nothing at the end
pub capped : (n most : ℕ) (ds : List ℕ) → min (digits_value_after 10 (min n most) ds) most ≡ min (digits_value_after 10 n ds) most
capped n most ds = elim (cases_lt n most) [
  | inl low ↦ let e : min n most ≡ n = omega arith in rw e refl
  | inr high ↦ omega (arith, digits_value_after-ge (min n most) ds, digits_value_after-ge n ds)
]

-- three runs of digits with a cap after each
pub capped_thrice : (whole fraction zeros : List ℕ) (most w e r : ℕ)
    → w ≡ min (digits_value_after 10 0 whole) most → e ≡ min (digits_value_after 10 w fraction) most → r ≡ min (digits_value_after 10 e zeros) most
    → r ≡ min (digits_value_after 10 0 ((whole ++ fraction) ++ zeros)) most
capped_thrice whole fraction zeros most w e r p q s =
    s ∙ ap (λ v. min (digits_value_after 10 v zeros) most) q ∙ capped (digits_value_after 10 w fraction) most zeros
    ∙ ap (λ v. min v most) (sym (digits_value_after-append w fraction zeros))
    ∙ ap (λ v. min (digits_value_after 10 v (fraction ++ zeros)) most) p ∙ capped (digits_value_after 10 0 whole) most (fraction ++ zeros)
    ∙ ap (λ v. min v most) (sym (digits_value_after-append 0 whole (fraction ++ zeros)))
    ∙ ap (λ ds. min (digits_value_after 10 0 ds) most) (sym (append_assoc whole fraction zeros))

-- a digit's value
pub digit_at : (ds : List ℕ) (i : ℕ) → IsTrue (are_digits ds) → i < length ds → digit_value (get_or ds i 0) ≡ get_or ds i 0 - 48
digit_at [] i h below = absurd (omega arith)
digit_at (d ∷ ds) zero h below = digit_is d (and_left _ _ h)
digit_at (d ∷ ds) (suc i) h below = digit_at ds i (and_right _ _ h) (omega arith)

-- one more digit
pub digit_taken : (ds : List ℕ) (i value next most : ℕ) → IsTrue (are_digits ds) → i < length ds → next ≡ min (value * 10 + (get_or ds i 0 - 48)) most
    → min (digits_value_after 10 next (drop (i + 1) ds)) most ≡ min (digits_value_after 10 value (drop i ds)) most
digit_taken ds i value next most h below e =
    rw (add-one) (
    ap (λ v. min (digits_value_after 10 v (drop (suc i) ds)) most) (e ∙ ap (λ d. min (value * 10 + d) most) (sym (digit_at ds i h below)))
    ∙ capped (value * 10 + digit_value (get_or ds i 0)) most (drop (suc i) ds)
    ∙ ap (λ rest. min (digits_value_after 10 value rest) most) (sym (drop-cons ds i 0 below)))

pub take_min : (n : ℕ) (xs : List ℕ) → take (min (length xs) n) xs ≡ take n xs
take_min n xs = elim (cases_lt (length xs) n) [
  | inl low ↦ let e : min (length xs) n ≡ length xs = omega arith in rw e (take-length xs ∙ sym (take_all n xs (omega arith)))
  | inr high ↦ let e : min (length xs) n ≡ n = omega arith in rw e refl
]

pub zeros_are : (n : ℕ) → n ≤ 9 → take {A = ℕ} n (48 ∷ 48 ∷ 48 ∷ 48 ∷ 48 ∷ 48 ∷ 48 ∷ 48 ∷ 48 ∷ []) ≡ replicate n 48
zeros_are n few = take-replicate n 9 48 few

abbrev nine_zeros : List ℕ
nine_zeros = 48 ∷ 48 ∷ 48 ∷ 48 ∷ 48 ∷ 48 ∷ 48 ∷ 48 ∷ 48 ∷ []

-- the digits before the point, those after it that count, and zeros for those that are missing
pub units_read : (whole fraction : List ℕ) (places kept most w e r : ℕ) → places ≤ 9 → kept ≡ min (length fraction) places
    → w ≡ min (digits_value_after 10 0 whole) most → e ≡ min (digits_value_after 10 w (take kept fraction)) most
    → r ≡ min (digits_value_after 10 e (take {A = ℕ} (places - kept) nine_zeros)) most
    → r ≡ min (digits_value_after 10 0 ((whole ++ take places fraction) ++ replicate (places - length fraction) 48)) most
units_read whole fraction places kept most w e r few k p q s =
    let missing : places - kept ≡ places - length fraction = omega arith in
    capped_thrice whole (take kept fraction) (take (places - kept) nine_zeros) most w e r p q s
    ∙ ap (λ front. min (digits_value_after 10 0 ((whole ++ front) ++ take (places - kept) nine_zeros)) most) (ap (λ n. take n fraction) k ∙ take_min places fraction)
    ∙ ap (λ zeros. min (digits_value_after 10 0 ((whole ++ take places fraction) ++ zeros)) most) (zeros_are (places - kept) (omega arith) ∙ ap (λ n. replicate n 48) missing)
