-- The printed text: what it spells, and in how few characters.
use Rattle.std.proofs.Common.{IsTrue, subst, zero-mul, ◌≢◌, ◌↔◌, ◌<ℤ◌, slice_index, if◌then◌else◌, ◌≡◌, ℕ, ◌+◌, ◌-◌, ◌*◌, ◌/◌, ◌%◌, ◌^◌, ◌<◌, ◌≤◌, zero, suc, refl, arith, ap, sym, ◌∙◌, ◌∷◌, [], ◌++◌, List, Bool, true, false, replicate, length, append_assoc, inl, inr, pow-suc, mod-lt, div-add-mod', div-lt_iff_lt-mul, div-le_self, ◌==◌, decimal, ℤ, pos, negsuc, unsigned_abs}
use Rattle.std.specs.Char.{digit_value, is_ascii_digit}
use Rattle.std.specs.Str.Parse.{AllDigits, digits_value, digits_value_after}
use Rattle.std.proofs.lemmas.Bool.{cases_eq, false≢true, and_from, cases_Bool, eqb-false, eqb-true}
use Rattle.std.proofs.lemmas.Bool.Decides.{nat_tests}
use Rattle.std.proofs.lemmas.Fmt.{decimal_digit, decimal_is_IsNumeral, first_decimal}
use Rattle.std.proofs.lemmas.Int.{ints}
use Rattle.std.proofs.lemmas.List.{drop_all, length-append, take_all}
use Rattle.std.specs.List.{list_all}
use Rattle.fix_num.specs.Digits.{are_digits}
use Rattle.fix_num.specs.Decimal.{Decimal, IsDecimal, IsSign, Stands, point_and_digits, signed_number, units_of}
use Rattle.fix_num.specs.Print.{IsShortest, fraction_of, fraction_text, minus_of, decimal_text}
use Rattle.fix_num.proofs.DecimalLemmas.{digits_value_after-append}
use Rattle.fix_num.proofs.PrintLemmas.{power_positive}
use Rattle.fix_num.proofs.ValueLemmas.{zeros_worth}

-- ---- the digits after the point

-- the first digit is one, and what is left is below the next power
first_small : (places r : ℕ) → r < 10 ^ suc places → r / 10 ^ places < 10
first_small places r small = let some = power_positive places in (div-lt_iff_lt-mul {k = 10 ^ places} {x = r} {y = 10} some).1 (omega (arith, pow-suc 10 places))

rest_small : (places r : ℕ) → r % 10 ^ places < 10 ^ places
rest_small places r = mod-lt r (power_positive places)

fraction_zero : (places r : ℕ) → (r == 0) ≡ true → fraction_of (suc places) r ≡ []
fraction_zero places r e = rw e refl

fraction_more : (places r : ℕ) → (r == 0) ≡ false → fraction_of (suc places) r ≡ (48 + r / 10 ^ places) ∷ fraction_of places (r % 10 ^ places)
fraction_more places r e = rw e refl

digit_glyph : (n : ℕ) → n < 10 → (is_ascii_digit (48 + n) ≡ true) × (digit_value (48 + n) ≡ n)
digit_glyph n small = grind (arith, nat_tests)

fraction_digits : (places r : ℕ) → r < 10 ^ places → are_digits (fraction_of places r) ≡ true
fraction_digits zero r small = refl
fraction_digits (suc places) r small = elim (cases_Bool (r == 0)) [
  | inl none ↦ ap are_digits (fraction_zero places r none)
  | inr some ↦ ap are_digits (fraction_more places r some)
      ∙ and_from _ _ (digit_glyph (r / 10 ^ places) (first_small places r small)).0 (fraction_digits places (r % 10 ^ places) (rest_small places r))
]

fraction_length : (places r : ℕ) → length (fraction_of places r) ≤ places
fraction_length zero r = omega arith
fraction_length (suc places) r = elim (cases_Bool (r == 0)) [
  | inl none ↦ let e = ap length (fraction_zero places r none) in omega arith
  | inr some ↦ let e = ap length (fraction_more places r some) in omega (arith, fraction_length places (r % 10 ^ places))
]

-- the fraction with the zeros that are left out
abbrev filled : ℕ → List ℕ → List ℕ
filled places ds = ds ++ replicate (places - length ds) 48

place_worth : (n d rest unit next r : ℕ) → next ≡ unit * 10 → d * unit + rest ≡ r → (n * 10 + d) * unit + rest ≡ n * next + r
place_worth n d rest unit next r power sum = rw power (omega arith)

fraction_worth : (n places r : ℕ) → r < 10 ^ places → digits_value_after 10 n (filled places (fraction_of places r)) ≡ n * 10 ^ places + r
fraction_worth n zero r small = omega arith
fraction_worth n (suc places) r small = elim (cases_Bool (r == 0)) [
  | inl none ↦
      let nothing = eqb-true r 0 none in
      let all : suc places - 0 ≡ suc places = omega arith in
      ap (λ ds. digits_value_after 10 n (filled (suc places) ds)) (fraction_zero places r none) ∙ ap (λ k. digits_value_after 10 n (replicate k 48)) all ∙ zeros_worth n (suc places) ∙ omega arith
  | inr some ↦
      let glyph = digit_glyph (r / 10 ^ places) (first_small places r small) in
      let less : suc places - suc (length (fraction_of places (r % 10 ^ places))) ≡ places - length (fraction_of places (r % 10 ^ places)) = omega arith in
      ap (λ ds. digits_value_after 10 n (filled (suc places) ds)) (fraction_more places r some)
      ∙ ap (λ k. digits_value_after 10 (n * 10 + digit_value (48 + r / 10 ^ places)) (fraction_of places (r % 10 ^ places) ++ replicate k 48)) less
      ∙ fraction_worth (n * 10 + digit_value (48 + r / 10 ^ places)) places (r % 10 ^ places) (rest_small places r)
      ∙ ap (λ d. (n * 10 + d) * 10 ^ places + r % 10 ^ places) glyph.1
      ∙ place_worth n (r / 10 ^ places) (r % 10 ^ places) (10 ^ places) (10 ^ suc places) r (pow-suc 10 places) (div-add-mod' r (10 ^ places))
]

point_of : (places r : ℕ) → r < 10 ^ places → fraction_text places r ≡ point_and_digits (fraction_of places r)
point_of zero r small = let none : r ≡ 0 = omega arith in rw none refl
point_of (suc places) r small = elim (cases_Bool (r == 0)) [
  | inl none ↦ rw none refl
  | inr some ↦ rw some refl
]

-- ---- the digits before it

all_are : (ds : List ℕ) → AllDigits 10 ds → are_digits ds ≡ true
all_are [] h = refl
all_are (d ∷ ds) h = let first = h.0 in and_from _ _ (grind (arith, nat_tests)) (all_are ds h.1)

whole_digits : (n : ℕ) → n < 2 ^ 64 → are_digits (decimal n) ≡ true
whole_digits n small = all_are (decimal n) (decimal_is_IsNumeral n small).0.1

-- ---- the text

abbrev pub is_minus : ℤ → Bool
is_minus (pos n) = false
is_minus (negsuc n) = true

abbrev pub printed : ℕ → ℤ → Decimal
printed places v = record {
  negative = is_minus v;
  whole = decimal (unsigned_abs v / 10 ^ places);
  fraction = fraction_of places (unsigned_abs v % 10 ^ places);
}

minus_is : (v : ℤ) → IsSign (minus_of v) (is_minus v)
minus_is (pos n) = refl
minus_is (negsuc n) = inr (refl, refl)

size_is : (v : ℤ) → v ≡ signed_number (is_minus v) (unsigned_abs v)
size_is (pos n) = refl
size_is (negsuc n) = refl

printed_text : (places : ℕ) (v : ℤ) → decimal_text places v ≡ minus_of v ++ ((printed places v).whole ++ point_and_digits (printed places v).fraction)
unfolding decimal_text
printed_text places v = append_assoc (minus_of v) _ _ ∙ ap (λ l. minus_of v ++ (decimal (unsigned_abs v / 10 ^ places) ++ l)) (point_of places (unsigned_abs v % 10 ^ places) (rest_small places (unsigned_abs v)))

whole_small : (places n : ℕ) → n < 2 ^ 64 → n / 10 ^ places < 2 ^ 64
whole_small places n small = omega (arith, div-le_self n (10 ^ places))

pub printed_spells : (places : ℕ) (v : ℤ) → unsigned_abs v < 2 ^ 64 → IsDecimal (decimal_text places v) (printed places v)
printed_spells places v small =
    let below = whole_small places (unsigned_abs v) small in
    let numeral = (decimal_is_IsNumeral (unsigned_abs v / 10 ^ places) below).0 in
    record {
      spelled = (minus_of v, minus_is v, printed_text places v);
      whole = whole_digits (unsigned_abs v / 10 ^ places) below;
      fraction = fraction_digits places (unsigned_abs v % 10 ^ places) (rest_small places (unsigned_abs v));
      some = omega (arith, numeral.0, length-append (printed places v).whole (printed places v).fraction);
    }

printed_units : (places : ℕ) (v : ℤ) → unsigned_abs v < 2 ^ 64 → units_of places (printed places v) ≡ unsigned_abs v
unfolding units_of
printed_units places v small =
    let q = unsigned_abs v / 10 ^ places in
    let ds = fraction_of places (unsigned_abs v % 10 ^ places) in
    let zeros : List ℕ = replicate (places - length ds) 48 in
    let value = (decimal_is_IsNumeral q (whole_small places (unsigned_abs v) small)).1 in
    ap (λ l. digits_value 10 (decimal q ++ l ++ zeros)) (take_all places ds (fraction_length places (unsigned_abs v % 10 ^ places)))
    ∙ ap (digits_value 10) (append_assoc (decimal q) ds zeros)
    ∙ digits_value_after-append 0 (decimal q) (ds ++ zeros)
    ∙ fraction_worth (digits_value 10 (decimal q)) places (unsigned_abs v % 10 ^ places) (rest_small places (unsigned_abs v))
    ∙ ap (λ n. n * 10 ^ places + unsigned_abs v % 10 ^ places) value
    ∙ div-add-mod' (unsigned_abs v) (10 ^ places)

pub printed_stands : (places : ℕ) (v : ℤ) → unsigned_abs v < 2 ^ 64 → Stands places (decimal_text places v) v
printed_stands places v small =
    let ds = fraction_of places (unsigned_abs v % 10 ^ places) in (
      printed places v,
      printed_spells places v small,
      ap (λ l. list_all (λ c. c == 48) l) (drop_all places ds (fraction_length places (unsigned_abs v % 10 ^ places))),
      size_is v ∙ ap (signed_number (is_minus v)) (sym (printed_units places v small)),
    )

-- ---- no character too many

last_after : (d : ℕ) (ds : List ℕ) → 0 < length ds → slice_index (d ∷ ds) (length (d ∷ ds) - 1) ≡ slice_index ds (length ds - 1)
last_after d [] some = absurd (omega arith)
last_after d (x ∷ xs) some =
    let far : suc (suc (length xs)) - 1 ≡ suc (length xs) = omega arith in
    let near : suc (length xs) - 1 ≡ length xs = omega arith in
    rw (far, near) refl

fraction_none : (places : ℕ) → fraction_of places 0 ≡ []
fraction_none zero = refl
fraction_none (suc places) = refl

fraction_some : (places r : ℕ) → r < 10 ^ places → 0 < r → 0 < length (fraction_of places r)
fraction_some zero r small some = absurd (omega arith)
fraction_some (suc places) r small some = elim (cases_Bool (r == 0)) [
  | inl none ↦ let e = eqb-true r 0 none in absurd (omega arith)
  | inr more ↦ let e = ap length (fraction_more places r more) in omega arith
]

abbrev NoZeroLast : List ℕ → Type 0
NoZeroLast ds = slice_index ds (length ds - 1) ≢ 48

-- a digit with nothing left after it isn't 0
alone : (q unit rest r : ℕ) → q * unit + rest ≡ r → (r ≡ 0 → ⊥) → rest ≡ 0 → NoZeroLast ((48 + q) ∷ [])
alone zero unit rest r sum some none = absurd (some (omega (arith, zero-mul unit)))
alone (suc q) unit rest r sum some none = λ e. absurd (omega arith)

no_zero_last : (places r : ℕ) → r < 10 ^ places → NoZeroLast (fraction_of places r)
no_zero_last zero r small = λ e. cc
no_zero_last (suc places) r small = elim (cases_Bool (r == 0)) [
  | inl none ↦ subst NoZeroLast (sym (fraction_zero places r none)) (λ e. cc)
  | inr more ↦
      let rest : ℕ = r % 10 ^ places in
      let some = eqb-false r 0 more in
      subst NoZeroLast (sym (fraction_more places r more)) (elim (cases_eq rest 0) [
        | inl none ↦
            subst (λ ds. NoZeroLast ((48 + r / 10 ^ places) ∷ ds)) (sym (ap (fraction_of places) none ∙ fraction_none places))
            (alone (r / 10 ^ places) (10 ^ places) rest r (div-add-mod' r (10 ^ places)) some none)
        | inr left ↦
            let later = last_after (48 + r / 10 ^ places) (fraction_of places rest) (fraction_some places rest (rest_small places r) (omega arith)) in
            λ e. no_zero_last places rest (rest_small places r) (sym later ∙ e)
      ])
]

no_zero_first : (n : ℕ) → n < 2 ^ 64 → slice_index (decimal n) 0 ≡ 48 → length (decimal n) ≡ 1
no_zero_first zero small e = ap length (decimal_digit 0 (omega arith))
no_zero_first (suc n) small e = let first = first_decimal (suc n) (omega arith) small in absurd (omega arith)

minus_by_sign : (v : ℤ) → minus_of v ≡ (if is_minus v then 45 ∷ [] else [])
minus_by_sign (pos n) = refl
minus_by_sign (negsuc n) = refl

is_minus_tells : (v : ℤ) → IsTrue (is_minus v) ↔ (v <ℤ pos 0)
is_minus_tells (pos n) = (λ h. absurd (false≢true h), λ h. absurd (omega (arith, ints)))
is_minus_tells (negsuc n) = (λ h. omega (arith, ints), λ h. refl)

pub printed_is_short : (places : ℕ) (v : ℤ) → unsigned_abs v < 2 ^ 64 → IsShortest (decimal_text places v) (printed places v)
printed_is_short places v small =
    let below = whole_small places (unsigned_abs v) small in
    record {
      spelled = printed_text places v ∙ ap (λ l. l ++ ((printed places v).whole ++ point_and_digits (printed places v).fraction)) (minus_by_sign v);
      whole = (decimal_is_IsNumeral (unsigned_abs v / 10 ^ places) below).0.0;
      no_zero_first = no_zero_first (unsigned_abs v / 10 ^ places) below;
      no_zero_last = no_zero_last places (unsigned_abs v % 10 ^ places) (rest_small places (unsigned_abs v));
    }

pub printed_shortest : (places : ℕ) (v : ℤ) → unsigned_abs v < 2 ^ 64
    → (d : Decimal) × IsDecimal (decimal_text places v) d × IsShortest (decimal_text places v) d × (IsTrue d.negative ↔ (v <ℤ pos 0))
printed_shortest places v small = (printed places v, printed_spells places v small, printed_is_short places v small, is_minus_tells v)
