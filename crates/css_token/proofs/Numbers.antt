-- Numbers: the length at the front of a text and the production.
use Rattle.std.proofs.Common.{◌≡◌, ℕ, ◌+◌, ◌<◌, ◌≤◌, suc, Bool, true, false, ◌&&◌, ◌||◌, List, [], ◌∷◌, ◌++◌, length, get_or, take, drop, cond, eqb, inl, inr, refl, sym, ap, ◌∙◌, subst, arith, append_assoc, length-append, length-drop}
use Rattle.std.specs.List.{prefix_len, list_all}
use Rattle.std.specs.Char.{is_ascii_digit}
use Rattle.std.proofs.lemmas.Bool.{and_parts, and_left, or_left, or_right, eqb-true, eq-eqb, ne_eqb, cases_lt, cases_Bool, cond-true, cond-false, cond_both}
use Rattle.std.proofs.lemmas.List.{get_or-drop}
use Rattle.std.proofs.lemmas.List.Folds.{length-prefix_len}
use Rattle.std.proofs.lemmas.List.Sums.{prefix_len-le-length}
use Rattle.std.proofs.Math.Seq.{take-add}
use Rattle.css_token.specs.Characters.{is_sign}
use Rattle.css_token.specs.Productions.{IsRun, IsUnsigned, IsNumber, begins_identifier}
use Rattle.css_token.proofs.Names.{begins_with}
use Rattle.css_token.specs.Fronts.{fraction_len, unsigned_len, number_len}
use Rattle.css_token.proofs.Runs.{run_reaches, run_stops, after_run, run_all, no_run, run_sound, first_and_rest, take-one-more}

-- a fraction at the front
fraction_at : (fraction rest : List ℕ) → IsRun is_ascii_digit fraction → fraction_len (46 ∷ fraction ++ rest) ≡ 1 + prefix_len is_ascii_digit (fraction ++ rest)
unfolding fraction_len
fraction_at [] rest run = absurd (omega (arith, run.0))
fraction_at (d ∷ ds) rest run = cond-true (is_ascii_digit d) _ 0 (and_parts (is_ascii_digit d) (list_all is_ascii_digit ds) run.1).0

-- none at another byte than a point
no_fraction : (b : ℕ) (rest : List ℕ) → eqb b 46 ≡ false → fraction_len (b ∷ rest) ≡ 0
unfolding fraction_len
no_fraction b rest other = cond-false (eqb b 46 && is_ascii_digit (get_or rest 0 0)) _ 0 (and_left _ _ other)

-- digits, and what stands after them
unsigned_parts : (whole : List ℕ) (b : ℕ) (rest : List ℕ) → list_all is_ascii_digit whole ≡ true → is_ascii_digit b ≡ false
    → unsigned_len (whole ++ b ∷ rest) ≡ length whole + fraction_len (b ∷ rest)
unfolding unsigned_len
unsigned_parts whole b rest all other =
    λ i. run_stops is_ascii_digit whole b rest all other i + fraction_len (after_run is_ascii_digit whole b rest all other i)

unsigned_reaches : (bs rest : List ℕ) → IsUnsigned bs → length bs ≤ unsigned_len (bs ++ rest)
unfolding unsigned_len
unsigned_reaches bs rest (inl run) = omega (arith, run_reaches is_ascii_digit bs rest run.1)
unsigned_reaches bs rest (inr (whole, fraction, all, run, is)) =
    let regrouped : bs ++ rest ≡ whole ++ 46 ∷ (fraction ++ rest) = ap (λ l. l ++ rest) is ∙ append_assoc whole (46 ∷ fraction) rest in
    omega (
      arith,
      ap unsigned_len regrouped,
      unsigned_parts whole 46 (fraction ++ rest) all refl,
      fraction_at fraction rest run,
      run_reaches is_ascii_digit fraction rest run.1,
      ap length is,
      length-append whole (46 ∷ fraction),
    )

unsigned_stops : (bs : List ℕ) (b : ℕ) (rest : List ℕ) → IsUnsigned bs → is_ascii_digit b ≡ false → eqb b 46 ≡ false → unsigned_len (bs ++ b ∷ rest) ≡ length bs
unsigned_stops bs b rest (inl run) digit point = omega (arith, unsigned_parts bs b rest run.1 digit, no_fraction b rest point)
unsigned_stops bs b rest (inr (whole, fraction, all, run, is)) digit point =
    let regrouped : bs ++ b ∷ rest ≡ whole ++ 46 ∷ (fraction ++ b ∷ rest) = ap (λ l. l ++ b ∷ rest) is ∙ append_assoc whole (46 ∷ fraction) (b ∷ rest) in
    omega (
      arith,
      ap unsigned_len regrouped,
      unsigned_parts whole 46 (fraction ++ b ∷ rest) all refl,
      fraction_at fraction (b ∷ rest) run,
      run_stops is_ascii_digit fraction b rest run.1 digit,
      ap length is,
      length-append whole (46 ∷ fraction),
    )

-- whether a fraction begins
fraction_test : List ℕ → Bool
fraction_test bs = eqb (get_or bs 0 0) 46 && is_ascii_digit (get_or bs 1 0)

fraction_there : (bs : List ℕ) → fraction_test bs ≡ true → fraction_len bs ≡ 1 + prefix_len is_ascii_digit (drop 1 bs)
unfolding fraction_len fraction_test
fraction_there bs is = cond-true (fraction_test bs) _ 0 is

fraction_not_there : (bs : List ℕ) → fraction_test bs ≡ false → fraction_len bs ≡ 0
unfolding fraction_len fraction_test
fraction_not_there bs isnt = cond-false (fraction_test bs) _ 0 isnt

fraction_digits : (bs : List ℕ) → fraction_test bs ≡ true → (bs ≡ 46 ∷ drop 1 bs) × IsRun is_ascii_digit (take (prefix_len is_ascii_digit (drop 1 bs)) (drop 1 bs))
unfolding fraction_test
fraction_digits bs is =
    let parts = and_parts (eqb (get_or bs 0 0) 46) (is_ascii_digit (get_or bs 1 0)) is in (
      first_and_rest bs 46 (eqb-true _ 46 parts.0) (omega arith),
      run_sound is_ascii_digit (drop 1 bs) refl (ap is_ascii_digit (get_or-drop 1 bs 0 0) ∙ parts.1),
    )

unsigned_sound : (bs : List ℕ) → 0 < unsigned_len bs → IsUnsigned (take (unsigned_len bs) bs)
unfolding unsigned_len
unsigned_sound bs some =
    let whole = prefix_len is_ascii_digit bs in
    let rest = drop whole bs in
    elim (cases_Bool (fraction_test rest)) [
      | inl is ↦
          let digits = fraction_digits rest is in
          let len = prefix_len is_ascii_digit (drop 1 rest) in
          let text : take (unsigned_len bs) bs ≡ take whole bs ++ 46 ∷ take len (drop 1 rest) =
          ap (λ n. take (whole + n) bs) (fraction_there rest is) ∙ take-add whole (1 + len) bs
          ∙ ap (λ l. take whole bs ++ l) (ap (λ l. take (1 + len) l) digits.0 ∙ take-one-more 46 len (drop 1 rest)) in
          inr (take whole bs, take len (drop 1 rest), run_all is_ascii_digit bs, digits.1, text)
      | inr isnt ↦
          let len : unsigned_len bs ≡ whole = omega (arith, fraction_not_there rest isnt) in
          inl (subst (λ n. IsRun is_ascii_digit (take n bs)) (sym len) (omega (arith, length-prefix_len is_ascii_digit bs), run_all is_ascii_digit bs))
    ]

-- a number with a sign, and one without
number_signed : (b : ℕ) (rest : List ℕ) → is_sign b ≡ true → 0 < unsigned_len rest → number_len (b ∷ rest) ≡ 1 + unsigned_len rest
unfolding number_len
number_signed b rest sign some = cond-true (is_sign b) _ _ sign ∙ cond-false (eqb (unsigned_len rest) 0) 0 _ (ne_eqb _ 0 (omega arith))

number_unsigned : (bs : List ℕ) → is_sign (get_or bs 0 0) ≡ false → number_len bs ≡ unsigned_len bs
unfolding number_len
number_unsigned bs sign = cond-false (is_sign (get_or bs 0 0)) _ _ sign

sign_there : (b : ℕ) → is_sign b ≡ true → 0 < b
sign_there b is = grind arith

pub unsigned_some : (bs : List ℕ) → IsUnsigned bs → 0 < length bs
unsigned_some bs (inl run) = run.0
unsigned_some bs (inr (whole, fraction, all, run, is)) = omega (arith, ap length is, length-append whole (46 ∷ fraction))

unsigned_after_sign : (b : ℕ) (rest : List ℕ) → is_sign b ≡ true → 0 < number_len (b ∷ rest) → 0 < unsigned_len rest
unfolding number_len
unsigned_after_sign b rest sign some = elim (cases_lt 0 (unsigned_len rest)) [
  | inl digits ↦ digits
  | inr none ↦ absurd (omega (arith, cond-true (is_sign b) (cond (eqb (unsigned_len rest) 0) 0 (1 + unsigned_len rest)) (unsigned_len (b ∷ rest)) sign, cond-true (eqb (unsigned_len rest) 0) 0 (1 + unsigned_len rest) (eq-eqb _ 0 (omega arith))))
]

-- what a number begins with
unfoldable pub begins_number : ℕ → Bool
begins_number b = is_sign b || (is_ascii_digit b || eqb b 46)

unsigned_first : (bs rest : List ℕ) → IsUnsigned bs → (is_ascii_digit (get_or (bs ++ rest) 0 0) || eqb (get_or (bs ++ rest) 0 0) 46) ≡ true
unsigned_first [] rest (inl run) = absurd (omega (arith, run.0))
unsigned_first (b ∷ bs) rest (inl run) = or_left (is_ascii_digit b) _ (and_parts (is_ascii_digit b) (list_all is_ascii_digit bs) run.1).0
unsigned_first bs rest (inr ([], fraction, all, run, is)) = ap (λ l. is_ascii_digit (get_or (l ++ rest) 0 0) || eqb (get_or (l ++ rest) 0 0) 46) is
unsigned_first bs rest (inr (b ∷ whole, fraction, all, run, is)) =
    ap (λ l. is_ascii_digit (get_or (l ++ rest) 0 0) || eqb (get_or (l ++ rest) 0 0) 46) is
    ∙ or_left (is_ascii_digit b) _ (and_parts (is_ascii_digit b) (list_all is_ascii_digit whole) all).0

no_sign : (b : ℕ) → (is_ascii_digit b || eqb b 46) ≡ true → is_sign b ≡ false
no_sign b is = grind arith

pub number_first : (bs rest : List ℕ) → IsNumber bs → begins_number (get_or (bs ++ rest) 0 0) ≡ true
unfolding begins_number
number_first bs rest (inl unsigned) = or_right (is_sign (get_or (bs ++ rest) 0 0)) _ (unsigned_first bs rest unsigned)
number_first bs rest (inr (sign, unsigned, is_sign, digits, is)) = ap (λ l. begins_number (get_or (l ++ rest) 0 0)) is ∙ or_left _ _ is_sign

pub number_some : (bs : List ℕ) → IsNumber bs → 0 < length bs
number_some bs (inl unsigned) = unsigned_some bs unsigned
number_some bs (inr (sign, unsigned, signed, digits, is)) = omega (arith, ap length is)

pub number_reaches : (bs rest : List ℕ) → IsNumber bs → length bs ≤ number_len (bs ++ rest)
number_reaches bs rest (inl unsigned) =
    omega (arith, number_unsigned (bs ++ rest) (no_sign (get_or (bs ++ rest) 0 0) (unsigned_first bs rest unsigned)), unsigned_reaches bs rest unsigned)
number_reaches bs rest (inr (sign, unsigned, signed, digits, is)) =
    let reaches = unsigned_reaches unsigned rest digits in
    let some = unsigned_some unsigned digits in
    omega (arith, ap (λ l. number_len (l ++ rest)) is, ap length is, number_signed sign (unsigned ++ rest) signed (omega arith))

-- the number ends before a byte that is no digit and no point
pub number_stops : (bs : List ℕ) (b : ℕ) (rest : List ℕ) → IsNumber bs → is_ascii_digit b ≡ false → eqb b 46 ≡ false → number_len (bs ++ b ∷ rest) ≡ length bs
number_stops bs b rest (inl unsigned) digit point =
    number_unsigned (bs ++ b ∷ rest) (no_sign (get_or (bs ++ b ∷ rest) 0 0) (unsigned_first bs (b ∷ rest) unsigned)) ∙ unsigned_stops bs b rest unsigned digit point
number_stops bs b rest (inr (sign, unsigned, signed, digits, is)) digit point =
    let stops = unsigned_stops unsigned b rest digits digit point in
    let some = unsigned_some unsigned digits in
    omega (arith, ap (λ l. number_len (l ++ b ∷ rest)) is, ap length is, number_signed sign (unsigned ++ b ∷ rest) signed (omega arith))

pub number_sound : (bs : List ℕ) → 0 < number_len bs → IsNumber (take (number_len bs) bs)
number_sound bs some = elim (cases_Bool (is_sign (get_or bs 0 0))) [
  | inl signed ↦
      let sign = get_or bs 0 0 in
      let there : 0 < sign = sign_there sign signed in
      let parts : bs ≡ sign ∷ drop 1 bs = first_and_rest bs sign refl there in
      let digits : 0 < unsigned_len (drop 1 bs) = unsigned_after_sign sign (drop 1 bs) signed (omega (arith, ap number_len parts)) in
      let len : number_len bs ≡ 1 + unsigned_len (drop 1 bs) = ap number_len parts ∙ number_signed sign (drop 1 bs) signed digits in
      let text : take (number_len bs) bs ≡ sign ∷ take (unsigned_len (drop 1 bs)) (drop 1 bs) =
      (λ i. take (len i) (parts i)) ∙ take-one-more sign _ (drop 1 bs) in
      inr (sign, take (unsigned_len (drop 1 bs)) (drop 1 bs), signed, unsigned_sound (drop 1 bs) digits, text)
  | inr unsigned ↦
      let len = number_unsigned bs unsigned in
      inl (subst (λ n. IsUnsigned (take n bs)) (sym len) (unsigned_sound bs (omega arith)))
]

-- where no digit and no point stands, there is no number without a sign
no_unsigned : (bs : List ℕ) → is_ascii_digit (get_or bs 0 0) ≡ false → eqb (get_or bs 0 0) 46 ≡ false → unsigned_len bs ≡ 0
unfolding unsigned_len fraction_test
no_unsigned bs digit point =
    let none : prefix_len is_ascii_digit bs ≡ 0 = no_run is_ascii_digit bs refl digit in
    let no_fraction : fraction_len bs ≡ 0 = fraction_not_there bs (and_left _ _ point) in
    (λ i. none i + fraction_len (drop (none i) bs)) ∙ omega arith

-- the first two bytes of an identifier
second_of_name : (a b : ℕ) → begins_with a b ≡ true → is_sign a ≡ true → (is_ascii_digit b ≡ false) × (eqb b 46 ≡ false)
unfolding begins_with
second_of_name a b begins signed = (grind arith, grind arith)

first_of_name : (a b : ℕ) → begins_with a b ≡ true → is_sign a ≡ false → (is_ascii_digit a ≡ false) × (eqb a 46 ≡ false)
unfolding begins_with
first_of_name a b begins unsigned = (grind arith, grind arith)

-- what begins an identifier begins no number
pub no_number : (bs : List ℕ) → begins_identifier bs ≡ true → number_len bs ≡ 0
unfolding number_len begins_with
no_number bs begins = elim (cases_Bool (is_sign (get_or bs 0 0))) [
  | inl signed ↦
      let b = get_or bs 1 0 in
      let second : (is_ascii_digit (get_or bs 1 0) ≡ false) × (eqb (get_or bs 1 0) 46 ≡ false) = second_of_name (get_or bs 0 0) (get_or bs 1 0) begins signed in
      let at : get_or (drop 1 bs) 0 0 ≡ get_or bs 1 0 = get_or-drop 1 bs 0 0 in
      let none = no_unsigned (drop 1 bs) (ap is_ascii_digit at ∙ second.0) (ap (λ x. eqb x 46) at ∙ second.1) in
      cond-true (is_sign (get_or bs 0 0)) _ (unsigned_len bs) signed ∙ cond-true (eqb (unsigned_len (drop 1 bs)) 0) 0 (1 + unsigned_len (drop 1 bs)) (eq-eqb _ 0 none)
  | inr unsigned ↦
      let first = first_of_name (get_or bs 0 0) (get_or bs 1 0) begins unsigned in
      number_unsigned bs unsigned ∙ no_unsigned bs first.0 first.1
]

-- a number is no longer than the text
fraction_within : (bs : List ℕ) → fraction_len bs ≤ length bs
unfolding fraction_len
fraction_within [] = omega arith
fraction_within (b ∷ bs) = cond_both (eqb b 46 && is_ascii_digit (get_or bs 0 0)) (1 + prefix_len is_ascii_digit bs) 0 (λ n. n ≤ suc (length bs))
    (λ _. omega (arith, prefix_len-le-length is_ascii_digit bs)) (λ _. omega arith)

unsigned_within : (bs : List ℕ) → unsigned_len bs ≤ length bs
unfolding unsigned_len
unsigned_within bs =
    let whole = prefix_len is_ascii_digit bs in
    omega (arith, prefix_len-le-length is_ascii_digit bs, fraction_within (drop whole bs), length-drop whole bs)

pub number_within : (bs : List ℕ) → number_len bs ≤ length bs
number_within bs = elim (cases_lt 0 (number_len bs)) [
  | inr none ↦ omega arith
  | inl some ↦ elim (cases_Bool (is_sign (get_or bs 0 0))) [
    | inr unsigned ↦ omega (arith, number_unsigned bs unsigned, unsigned_within bs)
    | inl signed ↦
        let there = sign_there (get_or bs 0 0) signed in
        let parts : bs ≡ get_or bs 0 0 ∷ drop 1 bs = first_and_rest bs (get_or bs 0 0) refl there in
        let digits = unsigned_after_sign (get_or bs 0 0) (drop 1 bs) signed (omega (arith, ap number_len parts)) in
        omega (arith, ap number_len parts, ap length parts, number_signed (get_or bs 0 0) (drop 1 bs) signed digits, unsigned_within (drop 1 bs))
  ]
]
