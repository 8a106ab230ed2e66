-- Texts of integers, and that a text stands for one number.
use Rattle.std.proofs.Common.{◌≡◌, ℕ, ◌+◌, refl, arith, ap, sym, ◌∙◌, List, [], ◌∷◌, ◌++◌, ◌==◌, Bool, true, not, ℤ, unsigned_abs, IsTrue}
use Rattle.std.specs.List.{list_all}
use Rattle.std.proofs.lemmas.Bool.{and_parts}
use Rattle.std.proofs.lemmas.List.Folds.{list_all-append}
use Rattle.fix_num.specs.Decimal.{Decimal, Stands, is_exact, point_and_digits}
use Rattle.fix_num.specs.Integer.{has_no_point}
use Rattle.fix_num.specs.Rounded.{StandsNear}
use Rattle.fix_num.proofs.ReadingLemmas.{number_from}
use Rattle.fix_num.proofs.RestLemmas.{exact_is_rounded, same_reading}
use Rattle.fix_num.proofs.RoundedReadingLemmas.{near_from, near_only, near_told}

-- ---- one number

pub one_stands : (places : ℕ) (text : List ℕ) (v w : ℤ) → Stands places text v → Stands places text w → v ≡ w
one_stands places text v w a b =
    let limit : ℕ = unsigned_abs v + unsigned_abs w in
    let first = number_from places limit text v (a, omega arith) in
    let second = number_from places limit text w (b, omega arith) in
    cc

pub one_near : (places : ℕ) (text : List ℕ) (v w : ℤ) → StandsNear places text v → StandsNear places text w → v ≡ w
one_near places text v w a b =
    let limit : ℕ = unsigned_abs v + unsigned_abs w in
    let first = near_from places limit text v (a, omega arith) in
    let second = near_from places limit text w (b, omega arith) in
    cc

-- ---- integers

-- the text ends in a point and digits that aren't there
no_fraction : (sign whole fraction : List ℕ) → has_no_point (sign ++ (whole ++ point_and_digits fraction)) ≡ true → fraction ≡ []
no_fraction sign whole [] h = refl
no_fraction sign whole (d ∷ ds) h =
    let test : ℕ → Bool = λ b. not (b == 46) in
    let rest = (and_parts (list_all test sign) _ (sym (list_all-append test sign _) ∙ h)).1 in
    let end = (and_parts (list_all test whole) _ (sym (list_all-append test whole _) ∙ rest)).1 in
    absurd (cc)

exact_without : (fraction : List ℕ) (places : ℕ) (d : Decimal) → d.fraction ≡ fraction → fraction ≡ [] → is_exact 0 d ≡ true
exact_without fraction places d same none = rw (same, none) refl

-- an integer is read alike exactly and to the nearest
pub integer_near : (text : List ℕ) (v : ℤ) → IsTrue (has_no_point text) → StandsNear 0 text v → Stands 0 text v
integer_near text v digits near =
    let d : Decimal = near.0 in
    let none : d.fraction ≡ [] = no_fraction near.1.spelled.0 d.whole d.fraction (ap has_no_point (sym near.1.spelled.2) ∙ digits) in
    let exact : is_exact 0 d ≡ true = exact_without d.fraction 0 d refl none in
    (d, near.1, exact, near_only 0 text v near ∙ exact_is_rounded 0 d near.1.fraction exact)

pub integer_stands : (text : List ℕ) (v : ℤ) → Stands 0 text v → StandsNear 0 text v
integer_stands text v stands =
    let read = number_from 0 (unsigned_abs v) text v (stands, omega arith) in
    (near_told 0 (unsigned_abs v) text v (same_reading 0 (unsigned_abs v) text v read)).0
