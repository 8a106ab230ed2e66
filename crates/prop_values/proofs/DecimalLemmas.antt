-- Printed numbers: they are numbers of CSS, and are read as what was printed.
use Rattle.std.proofs.Common.{◌≡◌, ℕ, ◌/◌, ◌%◌, ◌^◌, ◌<◌, ◌≤◌, ◌==◌, Bool, true, not, List, [], ◌∷◌, ◌++◌, length, inl, inr, Ok, Some, ℤ, pos, negsuc, unsigned_abs, decimal, refl, sym, ap, ◌∙◌, subst, arith, mod-lt}
use Rattle.std.specs.Prelude.{◌≤ℤ◌}
use Rattle.std.specs.List.{list_all}
use Rattle.std.specs.Char.{is_ascii_digit}
use Rattle.std.proofs.lemmas.Bool.{and_parts, and_from, cond-true}
use Rattle.std.proofs.lemmas.Bool.Decides.{nat_tests}
use Rattle.std.proofs.lemmas.Int.{ints}
use Rattle.std.proofs.lemmas.List.{append-nil}
use Rattle.std.proofs.lemmas.List.Folds.{list_all-append}
use Rattle.css_token.specs.Characters.{is_sign}
use Rattle.css_token.specs.Productions.{IsRun, IsUnsigned, IsNumber}
use Rattle.fix_num.specs.Decimal.{Decimal, IsSign, point_and_digits}
use Rattle.fix_num.specs.Digits.{are_digits}
use Rattle.fix_num.specs.Integer.{has_no_point}
use Rattle.fix_num.specs.Print.{decimal_text, fraction_text, minus_of}
use Rattle.fix_num.specs.Rounded.{rounded_reading_of}
use Rattle.fix_num.specs.declared.limits.TheConstants.{MAX_INTEGER, MAX_NUMBER}
use Rattle.fix_num.specs.declared.units.Fix.{Fix}
use Rattle.fix_num.proofs.PrintedLemmas.{printed, printed_is_short, printed_spells, printed_stands}
use Rattle.fix_num.proofs.ReadingLemmas.{number_from}
use Rattle.fix_num.proofs.RestLemmas.{same_reading}
use Rattle.value_types.specs.Ranges.{IsInRange, IsInteger, IsWithinLimit, is_in_range}
use Rattle.value_types.specs.declared.range.ValueRange.{ValueRange}
use Rattle.value_types.specs.declared.range.ValueRange.TheVariants as range
use Rattle.value_text.specs.NumberReading.{channel_of, integer_from, integer_in, natural_from, number_from as from_digits, number_in}

-- ---- they are numbers of CSS

unsigned_is : (whole fraction : List ℕ) → are_digits whole ≡ true → are_digits fraction ≡ true → 0 < length whole → IsUnsigned (whole ++ point_and_digits fraction)
unsigned_is whole [] first second some = inl (subst (IsRun is_ascii_digit) (sym (append-nil whole)) (some, first))
unsigned_is whole (d ∷ ds) first second some = inr (whole, d ∷ ds, first, (omega arith, second), refl)

sign_byte : (c : ℕ) (negative : Bool) → IsSign (c ∷ []) negative → is_sign c ≡ true
sign_byte c negative (inl h) = ap is_sign h.0
sign_byte c negative (inr h) = ap is_sign h.0

signed_is : (sign unsigned : List ℕ) (negative : Bool) → IsSign sign negative → IsUnsigned unsigned → IsNumber (sign ++ unsigned)
signed_is [] unsigned negative signed digits = inl digits
signed_is (c ∷ []) unsigned negative signed digits = inr (c, unsigned, sign_byte c negative signed, digits, refl)
signed_is (c ∷ d ∷ cs) unsigned negative signed digits = absurd signed

pub printed_is_number : (places : ℕ) (v : ℤ) → unsigned_abs v < 2 ^ 64 → IsNumber (decimal_text places v)
printed_is_number places v small =
    let d : Decimal = printed places v in
    let spells = printed_spells places v small in
    let short = printed_is_short places v small in
    subst IsNumber (sym spells.spelled.2) (signed_is spells.spelled.0 _ d.negative spells.spelled.1 (unsigned_is d.whole d.fraction spells.whole spells.fraction short.whole))

-- ---- numbers are read

not_negative : (n : ℤ) → pos 0 ≤ℤ n → is_in_range range.NotNegative n ≡ true
not_negative (pos n) low = refl
not_negative (negsuc n) low = absurd (omega (arith, ints))

zero_to_one : (n : ℤ) → pos 0 ≤ℤ n → n ≤ℤ pos (10 ^ 6) → is_in_range range.ZeroToOne n ≡ true
zero_to_one (pos n) low high = let small : n ≤ 1000000 = omega (arith, ints) in grind (arith, nat_tests)
zero_to_one (negsuc n) low high = absurd (omega (arith, ints))

in_range : (r : ValueRange) (n : Fix) → IsInRange r n → is_in_range r n.0 ≡ true
in_range range.All n h = refl
in_range range.NotNegative n h = not_negative n.0 h
in_range range.ZeroToOne n h = zero_to_one n.0 h.0 h.1
in_range range.Nothing n h = refl

pub number_read : (r : ValueRange) (n : Fix) → IsWithinLimit n → IsInRange r n → number_in r (decimal_text 6 n.0) ≡ Ok n
unfolding number_in
number_read r n limit within =
    let text = decimal_text 6 n.0 in
    let read : rounded_reading_of 6 MAX_NUMBER (decimal_text 6 n.0) ≡ Ok n.0 =
    same_reading 6 MAX_NUMBER text n.0 (number_from 6 MAX_NUMBER text n.0 (printed_stands 6 n.0 (omega arith), limit)) in
    ap (from_digits r text) read ∙ cond-true (is_in_range r n.0) _ _ (in_range r n within)

-- ---- integers are read

digit_is_no_point : (b : ℕ) → is_ascii_digit b ≡ true → not (b == 46) ≡ true
digit_is_no_point b h = grind (arith, nat_tests)

digits_have_no_point : (ds : List ℕ) → list_all is_ascii_digit ds ≡ true → has_no_point ds ≡ true
digits_have_no_point [] h = refl
digits_have_no_point (d ∷ ds) h =
    let parts = and_parts (is_ascii_digit d) (list_all is_ascii_digit ds) h in
    and_from _ _ (digit_is_no_point d parts.0) (digits_have_no_point ds parts.1)

minus_has_no_point : (v : ℤ) → has_no_point (minus_of v) ≡ true
minus_has_no_point (pos n) = refl
minus_has_no_point (negsuc n) = refl

no_places : (n : ℕ) → fraction_text 0 (n % 10 ^ 0) ≡ []
no_places n =
    let none : n % 1 ≡ 0 = omega (arith, mod-lt n {m = 1} (omega arith)) in
    ap (fraction_text 0) none

pub whole_has_no_point : (v : ℤ) → unsigned_abs v < 2 ^ 64 → has_no_point (decimal_text 0 v) ≡ true
unfolding decimal_text
whole_has_no_point v small =
    let whole : has_no_point (decimal (unsigned_abs v / 10 ^ 0)) ≡ true = digits_have_no_point (decimal (unsigned_abs v / 10 ^ 0)) (printed_spells 0 v small).whole in
    let test : ℕ → Bool = λ b. not (b == 46) in
    list_all-append test (minus_of v ++ decimal (unsigned_abs v / 10 ^ 0)) _
    ∙ and_from _ _ (list_all-append test (minus_of v) _ ∙ and_from _ _ (minus_has_no_point v) whole) (ap has_no_point (no_places (unsigned_abs v)))

pub integer_read : (i : ℤ) → IsInteger i → integer_in (decimal_text 0 i) ≡ Ok i
unfolding integer_in
integer_read i limit =
    let text = decimal_text 0 i in
    cond-true (has_no_point text) _ _ (whole_has_no_point i (omega arith))
    ∙ ap integer_from (number_from 0 MAX_INTEGER text i (printed_stands 0 i (omega arith), limit))

pub channel_read : (n : ℕ) → n ≤ 255 → channel_of (decimal_text 0 (pos n)) ≡ Some n
unfolding channel_of
channel_read n limit =
    let text = decimal_text 0 (pos n) in
    cond-true (has_no_point text) _ _ (whole_has_no_point (pos n) (omega (arith, ints)))
    ∙ ap natural_from (number_from 0 255 text (pos n) (printed_stands 0 (pos n) (omega (arith, ints)), omega (arith, ints)))
