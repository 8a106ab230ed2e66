-- The nearest number from the units that are kept and the digits after them.
use Rattle.std.proofs.Common.{◌≡◌, ℕ, ◌+◌, ◌-◌, ◌*◌, ◌^◌, ◌<◌, ◌≤◌, min, zero, suc, refl, arith, ap, subst, sym, ◌∙◌, List, Bool, true, false, cond, drop, length, nat_le, nat_lt, inl, inr, mul-le-mul_right, mul-lt-mul_of_pos_right, ℤ, pos, neg_ℤ, ◌*ℤ◌, ltb-true, ltb-false, leb-true, leb-false, le-ltb, le-leb, lt-ltb, eqb-true, add-zero, le_refl, pow-suc, get_or, take, Ok, Err, not, ◌||◌, ◌==◌, ◌∷◌, []}
use Rattle.std.specs.Str.Parse.{digits_value, digits_value_after}
use Rattle.std.specs.List.{list_all}
use Rattle.std.proofs.lemmas.Bool.{and_parts, cases_Bool, cases_lt, eqb-false, lt-leb}
use Rattle.std.proofs.lemmas.List.{drop_more, take-append-drop}
use Rattle.std.proofs.lemmas.Nat.{mul-le}
use Rattle.std.proofs.lemmas.List.Folds.{list_all-append}
use Rattle.std.specs.Char.{digit_value, is_ascii_digit}
use Rattle.std.proofs.lemmas.Int.{ints}
use Rattle.fix_num.specs.Digits.{are_digits}
use Rattle.fix_num.specs.Decimal.{Decimal, is_exact, reading_of, signed_number, units_of, number_within}
use Rattle.fix_num.specs.Rounded.{passes_half, rounded_reading_of, rounded_units}
use Rattle.fix_num.specs.declared.decimal.NumFault.TheVariants.{TooLarge}
use Rattle.fix_num.specs.Rounding.{IsNearest}
use Rattle.fix_num.proofs.PrintLemmas.{power_positive}
use Rattle.fix_num.proofs.RoundingLemmas.{nearest_only}
use Rattle.fix_num.proofs.ValueLemmas.{units_with_rest, power_split, digits_below, digits_value_after_is, no_worth}
use Rattle.fix_num.proofs.DecimalLemmas.{digit_from, digit_is, digits_value_after-ge}
use Rattle.fix_num.proofs.ReadingLemmas.{number_told, within_large, within_number}
use Rattle.fix_num.proofs.RoundedReadingLemmas.{rounded_reading_at}
use Rattle.fix_num.proofs.SignLemmas.{size_of_signed}
use Rattle.fix_num.proofs.SpellingLemmas.{found}

signed_times : (negative : Bool) (n b : ℕ) → signed_number negative n *ℤ pos b ≡ signed_number negative (n * b)
signed_times false n b = refl
signed_times true zero b = omega (arith, ints)
signed_times true (suc n) b = omega (arith, ints)

-- one more unit, or none, as the test says
abbrev pub counted : Bool → ℕ
counted b = cond b 1 0

-- u units and s parts of one in m, all taken p times
near_above : (u m s p : ℕ) (more : Bool) → nat_le m (2 * s) ≡ more → s < m → 0 < p
    → IsNearest (pos ((u * m + s) * p)) (pos (m * p)) (pos (u + counted more))
near_above u m s p true e part some =
    let half = mul-le-mul_right p (leb-true m (2 * s) e) in
    let less = mul-lt-mul_of_pos_right part some in
    record { not_above = omega (arith, ints); not_below = omega (arith, ints) }
near_above u m s p false e part some =
    let half = mul-lt-mul_of_pos_right (leb-false m (2 * s) e) some in
    record { not_above = omega (arith, ints); not_below = omega (arith, ints) }

near_below : (u m s p : ℕ) (more : Bool) → nat_lt m (2 * s) ≡ more → s < m → 0 < p
    → IsNearest (neg_ℤ (pos ((u * m + s) * p))) (pos (m * p)) (neg_ℤ (pos (u + counted more)))
near_below u m s p true e part some =
    let half = mul-lt-mul_of_pos_right (ltb-true m (2 * s) e) some in
    let less = mul-lt-mul_of_pos_right part some in
    let product = signed_times true (u + 1) (m * p) in
    record { not_above = omega (arith, ints); not_below = omega (arith, ints) }
near_below u m s p false e part some =
    let half = mul-le-mul_right p (ltb-false m (2 * s) e) in
    let less = mul-lt-mul_of_pos_right part some in
    let product = signed_times true (u + 0) (m * p) in
    record { not_above = omega (arith, ints); not_below = omega (arith, ints) }

near_at : (negative : Bool) (u p : ℕ) (rest : List ℕ) → are_digits rest ≡ true → 0 < p
    → IsNearest (signed_number negative ((u * 10 ^ length rest + digits_value 10 rest) * p)) (pos (10 ^ length rest * p)) (signed_number negative (u + counted (passes_half negative rest)))
near_at true u p rest h some = near_below u (10 ^ length rest) (digits_value 10 rest) p _ refl (digits_below rest h) some
near_at false u p rest h some = near_above u (10 ^ length rest) (digits_value 10 rest) p _ refl (digits_below rest h) some

pub are_digits_drop : (n : ℕ) (ds : List ℕ) → are_digits ds ≡ true → are_digits (drop n ds) ≡ true
are_digits_drop n ds h =
    (and_parts _ _ (sym (list_all-append is_ascii_digit (take n ds) (drop n ds)) ∙ ap are_digits (take-append-drop n ds) ∙ h)).1

-- the rounded number is the units that are kept, and one more where the rest counts
pub rounded_by_units : (places : ℕ) (d : Decimal) → are_digits d.fraction ≡ true
    → rounded_units places d ≡ signed_number d.negative (units_of places d + counted (passes_half d.negative (drop places d.fraction)))
unfolding rounded_units
rounded_by_units places d digits =
    let rest : List ℕ = drop places d.fraction in
    let r : ℤ = signed_number d.negative (units_of places d + counted (passes_half d.negative rest)) in
    let parts : ℕ = (units_of places d * 10 ^ length rest + digits_value 10 rest) * 10 ^ min places (length d.fraction) in
    let near : IsNearest (signed_number d.negative parts) (pos (10 ^ length rest * 10 ^ min places (length d.fraction))) r =
    near_at d.negative (units_of places d) (10 ^ min places (length d.fraction)) rest (are_digits_drop places d.fraction digits) (power_positive (min places (length d.fraction))) in
    let over : IsNearest (signed_number d.negative parts) (pos (10 ^ length d.fraction)) r = subst (λ n. IsNearest (signed_number d.negative parts) (pos n) r) (power_split places d.fraction) near in
    let positive = power_positive (length d.fraction) in
    sym (nearest_only _ _ r (omega (arith, ints)) (subst (λ n. IsNearest (signed_number d.negative n) (pos (10 ^ length d.fraction)) r) (units_with_rest places d) over))

-- ---- a rest of zeros

zero_rest : (negative : Bool) (rest : List ℕ) → digits_value 10 rest ≡ 0 → passes_half negative rest ≡ false
zero_rest true rest none = let some = power_positive (length rest) in le-ltb (10 ^ length rest) (2 * digits_value 10 rest) (omega arith)
zero_rest false rest none = let some = power_positive (length rest) in lt-leb (10 ^ length rest) (2 * digits_value 10 rest) (omega arith)

pub exact_is_rounded : (places : ℕ) (d : Decimal) → are_digits d.fraction ≡ true → is_exact places d ≡ true → rounded_units places d ≡ signed_number d.negative (units_of places d)
exact_is_rounded places d digits exact =
    rounded_by_units places d digits
    ∙ ap (λ b. signed_number d.negative (units_of places d + counted b)) (zero_rest d.negative (drop places d.fraction) (no_worth (drop places d.fraction) exact))
    ∙ ap (λ n. signed_number d.negative n) (add-zero (units_of places d))

pub same_reading : (places limit : ℕ) (text : List ℕ) (v : ℤ) → reading_of places limit text ≡ Ok v → rounded_reading_of places limit text ≡ Ok v
same_reading places limit text v e =
    let told = number_told places limit text v e in
    let d : Decimal = told.0.0 in
    let read = found text d told.0.1 in
    rounded_reading_at places limit text d read ∙ ap (number_within limit) (exact_is_rounded places d told.0.1.fraction told.0.2)
    ∙ ap (number_within limit) (sym told.0.3) ∙ sym (within_number places limit text v told.0) ∙ e

-- ---- the first digit of the rest

-- digits that aren't all zeros are worth something
some_worth : (ds : List ℕ) → are_digits ds ≡ true → list_all (λ c. c == 48) ds ≡ false → 0 < digits_value 10 ds
some_worth [] h other = absurd (cc)
some_worth (d ∷ ds) h other = elim (cases_Bool (d == 48)) [
  | inl is_zero ↦
      let same = eqb-true d 48 is_zero in
      subst (λ x. 0 < digits_value_after 10 (0 * 10 + digit_value x) ds) (sym same)
      (some_worth ds (and_parts (is_ascii_digit d) _ h).1 (rw is_zero at other))
  | inr more ↦
      let first = digit_is d (and_parts (is_ascii_digit d) _ h).0 in
      let digit = digit_from d (and_parts (is_ascii_digit d) _ h).0 in
      let not_zero = eqb-false d 48 more in
      omega (arith, digits_value_after-ge (0 * 10 + digit_value d) ds)
]

-- what a digit and those after it are worth
first_worth : (d : ℕ) (ds : List ℕ) → is_ascii_digit d ≡ true → digits_value 10 (d ∷ ds) ≡ (d - 48) * 10 ^ length ds + digits_value 10 ds
first_worth d ds h =
    digits_value_after_is (0 * 10 + digit_value d) ds
    ∙ ap (λ n. n * 10 ^ length ds + digits_value 10 ds) (let is = digit_is d h in omega arith)

half_of : (negative : Bool) (rest : List ℕ) → 10 ^ length rest < 2 * digits_value 10 rest → passes_half negative rest ≡ true
half_of true rest h = lt-ltb (10 ^ length rest) (2 * digits_value 10 rest) h
half_of false rest h = le-leb (10 ^ length rest) (2 * digits_value 10 rest) (omega arith)

none_of : (negative : Bool) (rest : List ℕ) → 2 * digits_value 10 rest < 10 ^ length rest → passes_half negative rest ≡ false
none_of true rest h = le-ltb (10 ^ length rest) (2 * digits_value 10 rest) (omega arith)
none_of false rest h = lt-leb (10 ^ length rest) (2 * digits_value 10 rest) h

pub low_digit : (negative : Bool) (d : ℕ) (ds : List ℕ) → are_digits (d ∷ ds) ≡ true → d ≤ 52 → passes_half negative (d ∷ ds) ≡ false
low_digit negative d ds h low =
    let parts = and_parts (is_ascii_digit d) _ h in
    let small = mul-le (d - 48) (10 ^ length ds) 4 (10 ^ length ds) (omega arith) (le_refl _) in
    let worth = first_worth d ds parts.0 in
    let below = digits_below ds parts.1 in
    none_of negative (d ∷ ds) (omega (arith, pow-suc 10 (length ds)))

pub high_digit : (negative : Bool) (d : ℕ) (ds : List ℕ) → are_digits (d ∷ ds) ≡ true → 54 ≤ d → passes_half negative (d ∷ ds) ≡ true
high_digit negative d ds h high =
    let parts = and_parts (is_ascii_digit d) _ h in
    let large = mul-le 6 (10 ^ length ds) (d - 48) (10 ^ length ds) (omega arith) (le_refl _) in
    let worth = first_worth d ds parts.0 in
    let some = power_positive (length ds) in
    half_of negative (d ∷ ds) (omega (arith, pow-suc 10 (length ds)))

-- a five is a half: what stands after it tells
pub middle_digit : (negative : Bool) (ds : List ℕ) → are_digits (53 ∷ ds) ≡ true
    → passes_half negative (53 ∷ ds) ≡ (not negative || not (list_all (λ c. c == 48) ds))
middle_digit false ds h =
    let worth = first_worth 53 ds refl in
    le-leb (10 ^ length (53 ∷ ds)) (2 * digits_value 10 (53 ∷ ds)) (omega (arith, pow-suc 10 (length ds)))
middle_digit true ds h = elim (cases_Bool (list_all (λ c. c == 48) ds)) [
  | inl zeros ↦
      let worth = first_worth 53 ds refl in
      let none = no_worth ds zeros in
      le-ltb (10 ^ length (53 ∷ ds)) (2 * digits_value 10 (53 ∷ ds)) (omega (arith, pow-suc 10 (length ds))) ∙ ap not (sym zeros)
  | inr others ↦
      let worth = first_worth 53 ds refl in
      let some = some_worth ds (and_parts (is_ascii_digit 53) _ h).1 others in
      lt-ltb (10 ^ length (53 ∷ ds)) (2 * digits_value 10 (53 ∷ ds)) (omega (arith, pow-suc 10 (length ds))) ∙ ap not (sym others)
]

-- the rest by its first digit
pub rest_at : (places : ℕ) (ds : List ℕ) → places < length ds → drop places ds ≡ get_or ds places 0 ∷ drop (places + 1) ds
rest_at places ds within = drop_more ds places 0 within

rest_digits : (places : ℕ) (ds : List ℕ) → are_digits ds ≡ true → places < length ds → are_digits (get_or ds places 0 ∷ drop (places + 1) ds) ≡ true
rest_digits places ds h within = ap are_digits (sym (rest_at places ds within)) ∙ are_digits_drop places ds h

pub low_rest : (negative : Bool) (places : ℕ) (ds : List ℕ) → are_digits ds ≡ true → places < length ds → get_or ds places 0 ≤ 52 → passes_half negative (drop places ds) ≡ false
low_rest negative places ds h within low =
    ap (passes_half negative) (rest_at places ds within) ∙ low_digit negative _ _ (rest_digits places ds h within) low

pub high_rest : (negative : Bool) (places : ℕ) (ds : List ℕ) → are_digits ds ≡ true → places < length ds → 54 ≤ get_or ds places 0 → passes_half negative (drop places ds) ≡ true
high_rest negative places ds h within high =
    ap (passes_half negative) (rest_at places ds within) ∙ high_digit negative _ _ (rest_digits places ds h within) high

pub middle_rest : (negative : Bool) (places : ℕ) (ds : List ℕ) → are_digits ds ≡ true → places < length ds → get_or ds places 0 ≡ 53
    → passes_half negative (drop places ds) ≡ (not negative || not (list_all (λ c. c == 48) (drop (places + 1) ds)))
middle_rest negative places ds h within five =
    let same : get_or ds places 0 ∷ drop (places + 1) ds ≡ 53 ∷ drop (places + 1) ds = ap (λ d. d ∷ drop (places + 1) ds) five in
    ap (passes_half negative) (rest_at places ds within ∙ same)
    ∙ middle_digit negative (drop (places + 1) ds) (ap are_digits (sym same) ∙ rest_digits places ds h within)

pub other_rest : (negative : Bool) (places : ℕ) (ds : List ℕ) → are_digits ds ≡ true → places < length ds → (get_or ds places 0 ≡ 53 → ⊥)
    → nat_lt 53 (get_or ds places 0) ≡ passes_half negative (drop places ds)
other_rest negative places ds h within no_five = elim (cases_lt 53 (get_or ds places 0)) [
  | inl high ↦ lt-ltb 53 (get_or ds places 0) high ∙ sym (high_rest negative places ds h within high)
  | inr low ↦ le-ltb 53 (get_or ds places 0) low ∙ sym (low_rest negative places ds h within (omega arith))
]

-- ---- the limit

past_limit : (negative : Bool) (limit n : ℕ) → limit < n → number_within limit (signed_number negative n) ≡ Err TooLarge
past_limit negative limit n over =
    let size = size_of_signed negative n in
    within_large limit (signed_number negative n) (omega arith)

-- a cap above the limit on the units that are kept changes nothing
pub capped_reading : (places limit size most : ℕ) (d : Decimal) → are_digits d.fraction ≡ true → limit < most
    → size ≡ min (units_of places d) most + counted (passes_half d.negative (drop places d.fraction))
    → number_within limit (signed_number d.negative size) ≡ number_within limit (rounded_units places d)
capped_reading places limit size most d digits over e =
    let exact = rounded_by_units places d digits in
    elim (cases_lt (units_of places d) most) [
      | inl fits ↦
          let same : size ≡ units_of places d + counted (passes_half d.negative (drop places d.fraction)) = omega arith in
          ap (λ n. number_within limit (signed_number d.negative n)) same ∙ ap (number_within limit) (sym exact)
      | inr large ↦
          past_limit d.negative limit size (omega arith)
          ∙ sym (past_limit d.negative limit (units_of places d + counted (passes_half d.negative (drop places d.fraction))) (omega arith))
          ∙ ap (number_within limit) (sym exact)
    ]
