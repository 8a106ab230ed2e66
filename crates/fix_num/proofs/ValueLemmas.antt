-- What the digits that are kept and those after them are worth.
use Rattle.std.proofs.Common.{◌≡◌, ℕ, ◌+◌, ◌-◌, ◌*◌, ◌^◌, ◌<◌, ◌≤◌, min, zero, suc, refl, arith, ap, sym, ◌∙◌, ◌∷◌, [], ◌++◌, List, true, take, drop, replicate, length, append_assoc, inl, inr, pow-suc, le_refl, mul_assoc, IsTrue, ◌==◌}
use Rattle.std.specs.List.{list_all}
use Rattle.std.specs.Char.{digit_value, is_ascii_digit}
use Rattle.std.specs.Str.Parse.{digits_value, digits_value_after}
use Rattle.std.proofs.lemmas.Nat.{mul-le, pow-add}
use Rattle.std.proofs.lemmas.Bool.{and_parts, eqb-true, cases_lt}
use Rattle.std.proofs.lemmas.Bool.Decides.{nat_tests}
use Rattle.std.proofs.lemmas.List.{length-drop, take-append-drop, drop_all}
use Rattle.fix_num.specs.Digits.{are_digits}
use Rattle.fix_num.specs.Decimal.{Decimal, is_exact, units_of}
use Rattle.fix_num.proofs.DecimalLemmas.{digits_value_after-append}

digit_below : (d : ℕ) → is_ascii_digit d ≡ true → digit_value d < 10
digit_below d h = grind (arith, nat_tests)

-- digits after n
pub digits_value_after_is : (n : ℕ) (ds : List ℕ) → digits_value_after 10 n ds ≡ n * 10 ^ length ds + digits_value 10 ds
digits_value_after_is n [] = omega arith
digits_value_after_is n (d ∷ ds) =
    let far = digits_value_after_is (n * 10 + digit_value d) ds in
    let near = digits_value_after_is (0 * 10 + digit_value d) ds in
    omega (arith, far, near, ap (λ x. n * x) (pow-suc 10 (length ds)))

pub digits_value-append : (xs ys : List ℕ) → digits_value 10 (xs ++ ys) ≡ digits_value 10 xs * 10 ^ length ys + digits_value 10 ys
digits_value-append xs ys = digits_value_after-append 0 xs ys ∙ digits_value_after_is (digits_value 10 xs) ys

-- digits are worth less than a one before them
pub digits_below : (ds : List ℕ) → are_digits ds ≡ true → digits_value 10 ds < 10 ^ length ds
digits_below [] h = omega arith
digits_below (d ∷ ds) h =
    let parts = and_parts (is_ascii_digit d) _ h in
    let rest = digits_below ds parts.1 in
    let first = digit_below d parts.0 in
    let less = mul-le (digit_value d) (10 ^ length ds) 9 (10 ^ length ds) (omega arith) (le_refl _) in
    omega (arith, digits_value_after_is (0 * 10 + digit_value d) ds, pow-suc 10 (length ds))

-- zeros are worth nothing, and nothing else is
pub zeros_worth : (n k : ℕ) → digits_value_after 10 n (replicate k 48) ≡ n * 10 ^ k
zeros_worth n zero = omega arith
zeros_worth n (suc k) = omega (arith, zeros_worth (n * 10 + digit_value 48) k, ap (λ x. n * x) (pow-suc 10 k))

pub no_worth : (ds : List ℕ) → list_all (λ c. c == 48) ds ≡ true → digits_value 10 ds ≡ 0
no_worth [] h = refl
no_worth (d ∷ ds) h =
    let parts = and_parts (d == 48) _ h in
    ap (λ x. digits_value_after 10 (0 * 10 + digit_value x) ds) (eqb-true d 48 parts.0) ∙ no_worth ds parts.1

scaled_up : (w p f : ℕ) → f ≤ p → w * 10 ^ (p - f) * 10 ^ f ≡ w * 10 ^ p
scaled_up w p f enough =
    let sum : p - f + f ≡ p = omega arith in
    mul_assoc w (10 ^ (p - f)) (10 ^ f) ∙ ap (λ x. w * x) (sym (pow-add 10 (p - f) f) ∙ ap (λ n. 10 ^ n) sum)

-- either no zeros are missing, or nothing stands after
scaled : (w k r p f : ℕ) → (f ≤ p → (k ≡ 0) × (r ≡ 0)) → (w * 10 ^ (p - f) * 10 ^ k + r) * 10 ^ min p f ≡ (w * 10 ^ k + r) * 10 ^ p
scaled w k r p f nothing = elim (cases_lt p f) [
  | inl fine ↦
      let none : p - f ≡ 0 = omega arith in
      let all : min p f ≡ p = omega arith in
      rw (none, all) (omega arith)
  | inr coarse ↦
      let all : min p f ≡ f = omega arith in
      let zero_k = (nothing coarse).0 in
      let zero_r = (nothing coarse).1 in
      rw (zero_k, zero_r, all) (omega (arith, scaled_up w p f coarse))
]

-- the digits kept and the zeros for missing ones, times a one at the first place that isn't kept, with what stands after
pub units_with_rest : (places : ℕ) (d : Decimal)
    → (units_of places d * 10 ^ length (drop places d.fraction) + digits_value 10 (drop places d.fraction)) * 10 ^ min places (length d.fraction)
    ≡ digits_value 10 (d.whole ++ d.fraction) * 10 ^ places
unfolding units_of
units_with_rest places d =
    let front : List ℕ = d.whole ++ take places d.fraction in
    let rest : List ℕ = drop places d.fraction in
    let units : digits_value 10 (front ++ replicate (places - length d.fraction) 48) ≡ digits_value 10 front * 10 ^ (places - length d.fraction) =
    digits_value_after-append 0 front (replicate (places - length d.fraction) 48) ∙ zeros_worth (digits_value 10 front) (places - length d.fraction) in
    let value : digits_value 10 front * 10 ^ length rest + digits_value 10 rest ≡ digits_value 10 (d.whole ++ d.fraction) =
    sym (digits_value-append front rest) ∙ ap (digits_value 10) (append_assoc d.whole (take places d.fraction) rest)
    ∙ ap (λ l. digits_value 10 (d.whole ++ l)) (take-append-drop places d.fraction) in
    ap (λ n. (n * 10 ^ length rest + digits_value 10 rest) * 10 ^ min places (length d.fraction)) units
    ∙ scaled (digits_value 10 front) (length rest) (digits_value 10 rest) places (length d.fraction)
    (λ coarse. let none = drop_all places d.fraction coarse in (ap length none, ap (digits_value 10) none))
    ∙ ap (λ n. n * 10 ^ places) value

pub power_split : (places : ℕ) (ds : List ℕ) → 10 ^ length (drop places ds) * 10 ^ min places (length ds) ≡ 10 ^ length ds
power_split places ds =
    let sum : length (drop places ds) + min places (length ds) ≡ length ds = omega (arith, length-drop places ds) in
    sym (pow-add 10 (length (drop places ds)) (min places (length ds))) ∙ ap (λ n. 10 ^ n) sum

pub exact_units : (places : ℕ) (d : Decimal) → IsTrue (is_exact places d) → units_of places d * 10 ^ length d.fraction ≡ digits_value 10 (d.whole ++ d.fraction) * 10 ^ places
exact_units places d h =
    let nothing = no_worth (drop places d.fraction) h in
    let split = units_with_rest places d in
    let power = ap (λ x. units_of places d * x) (power_split places d.fraction) in
    omega (arith, rw nothing at split, power)
