-- What stands between valid values is valid.
use Rattle.std.proofs.Common.{◌≡◌, ℕ, ◌^◌, ◌≤◌, refl, arith}
use Rattle.std.specs.Prelude.{ℤ, pos, neg_ℤ, ◌*ℤ◌, ◌≤ℤ◌, Bool, true, false, if◌then◌else◌, ◌||◌, MatchBool}
use Rattle.std.specs.Ordering.{int_eq}
use Rattle.std.proofs.lemmas.Int.{ints}
use Rattle.fix_num.specs.Clamping.{clamped_number}
use Rattle.fix_num.specs.Rounding.{rounded_quotient}
use Rattle.fix_num.specs.declared.limits.TheConstants.{MAX_INTEGER}
use Rattle.fix_num.specs.declared.units.Fix.{Fix}
use Rattle.fix_num.specs.declared.units.TheConstants.Bill as bill
use Rattle.fix_num.specs.declared.units.TheConstants.Fix.{ONE}
use Rattle.value_types.specs.Table.{fix, black, range_of, keeps_percent}
use Rattle.value_types.specs.Ranges.{IsInRange, IsInteger, IsWithinLimit, highest_of, lowest_of}
use Rattle.value_types.specs.Validity.{IsAlpha, IsNumberFor, IsPercentFor, IsValid}
use Rattle.value_types.specs.declared.property.PropertyId.{PropertyId}
use Rattle.value_types.specs.declared.range.ValueRange.{ValueRange}
use Rattle.value_types.specs.declared.range.ValueRange.TheVariants.{All, NotNegative, ZeroToOne, Nothing}
use Rattle.value_types.specs.declared.value.Value.{Value}
use Rattle.value_types.specs.declared.value.Value.TheVariants as value
use Rattle.interpolation.specs.Colors.{alpha_between, straight_channel, color_with}
use Rattle.interpolation.specs.Equality.{is_same}
use Rattle.interpolation.specs.Interpolation.{counted_beside, by_parts, value_between}
use Rattle.interpolation.specs.Numbers.{on_the_way, number_between, integer_between}
use Rattle.fix_num.proofs.ClampLemmas.{clamped_low, clamped_high}

-- a number from the lowest to the highest of a range
pub record IsFrom (r : ValueRange) (v : ℤ) : Type 0 where
  pub low : lowest_of r ≤ℤ v
  pub high : v ≤ℤ highest_of r

zero_in : (r : ValueRange) → IsFrom r (pos 0)
zero_in All = record { low = omega (arith, ints); high = omega (arith, ints) }
zero_in NotNegative = record { low = omega (arith, ints); high = omega (arith, ints) }
zero_in ZeroToOne = record { low = omega (arith, ints); high = omega (arith, ints) }
zero_in Nothing = record { low = omega (arith, ints); high = omega (arith, ints) }

clamped_in : (r : ValueRange) (v : ℤ) → IsFrom r (clamped_number v (lowest_of r) (highest_of r))
clamped_in r v =
    let zero = zero_in r in
    let ordered : lowest_of r ≤ℤ highest_of r = omega (arith, ints) in
    record { low = clamped_low v (lowest_of r) (highest_of r) ordered; high = clamped_high v (lowest_of r) (highest_of r) ordered }

limit_from : (r : ValueRange) (n : Fix) → IsFrom r n.0 → IsWithinLimit n
limit_from All n h = omega (arith, ints)
limit_from NotNegative n h = omega (arith, ints)
limit_from ZeroToOne n h = omega (arith, ints)
limit_from Nothing n h = omega (arith, ints)

range_from : (r : ValueRange) (n : Fix) → IsFrom r n.0 → IsInRange r n
range_from All n h = tt
range_from NotNegative n h = h.low
range_from ZeroToOne n h = (h.low, h.high)
range_from Nothing n h = tt

from_range : (r : ValueRange) (n : Fix) → IsWithinLimit n → IsInRange r n → IsFrom r n.0
from_range All n h k = record { low = omega (arith, ints); high = omega (arith, ints) }
from_range NotNegative n h k = record { low = k; high = omega (arith, ints) }
from_range ZeroToOne n h k = record { low = k.0; high = k.1 }
from_range Nothing n h k = record { low = omega (arith, ints); high = omega (arith, ints) }

number_for : (p : PropertyId) (n : Fix) → IsFrom (range_of p) n.0 → IsNumberFor p n
number_for p n h = record { limit = limit_from (range_of p) n h; in_range = range_from (range_of p) n h }

pub from_number : (p : PropertyId) (n : Fix) → IsNumberFor p n → IsFrom (range_of p) n.0
from_number p n h = from_range (range_of p) n h.limit h.in_range

pub from_percent : (p : PropertyId) (n : Fix) → IsPercentFor p n → IsFrom (range_of p) n.0
from_percent p n h = go (keeps_percent p) h where
  go : (b : Bool) → MatchBool b (IsNumberFor p n) (n.0 ≡ pos 0) → IsFrom (range_of p) n.0
  go true k = from_number p n k
  go false k = rw k (zero_in (range_of p))

zero_valid : (p : PropertyId) → IsNumberFor p (fix 0)
zero_valid p = number_for p (fix 0) (zero_in (range_of p))

number_valid : (p : PropertyId) (m n : Fix) (q : ℤ) → IsNumberFor p (number_between p m n q)
unfolding number_between
number_valid p m n q = number_for p (number_between p m n q) (clamped_in (range_of p) (on_the_way m.0 n.0 q))

-- between percents that are 0 stands 0
zero_way : (q : ℤ) → on_the_way (pos 0) (pos 0) q ≡ pos 0
unfolding on_the_way rounded_quotient
zero_way q = let e : pos 0 *ℤ q ≡ pos 0 = omega (arith, ints) in rw e refl

clamped_zero : (r : ValueRange) → clamped_number (pos 0) (lowest_of r) (highest_of r) ≡ pos 0
unfolding clamped_number
clamped_zero All = refl
clamped_zero NotNegative = refl
clamped_zero ZeroToOne = refl
clamped_zero Nothing = refl

zero_stays : (r : ValueRange) (a b q : ℤ) → a ≡ pos 0 → b ≡ pos 0 → clamped_number (on_the_way a b q) (lowest_of r) (highest_of r) ≡ pos 0
zero_stays r a b q e f = rw (e, f, zero_way q) (clamped_zero r)

percent_valid : (p : PropertyId) (m n : Fix) (q : ℤ) → IsPercentFor p m → IsPercentFor p n → IsPercentFor p (number_between p m n q)
unfolding number_between
percent_valid p m n q h k = go (keeps_percent p) h k where
  go : (b : Bool) → MatchBool b (IsNumberFor p m) (m.0 ≡ pos 0) → MatchBool b (IsNumberFor p n) (n.0 ≡ pos 0)
      → MatchBool b (IsNumberFor p (number_between p m n q)) ((number_between p m n q).0 ≡ pos 0)
  go true e f = number_valid p m n q
  go false e f = zero_stays (range_of p) m.0 n.0 q e f

integer_valid : (i j q : ℤ) → IsInteger (integer_between i j q)
unfolding integer_between
integer_valid i j q =
    let low = clamped_low (on_the_way i j q) (neg_ℤ (pos MAX_INTEGER)) (pos MAX_INTEGER) (omega (arith, ints)) in
    let high = clamped_high (on_the_way i j q) (neg_ℤ (pos MAX_INTEGER)) (pos MAX_INTEGER) (omega (arith, ints)) in
    omega (arith, ints)

alpha_valid : (a b : Fix) (q : ℤ) → IsAlpha (alpha_between a b q)
unfolding alpha_between
alpha_valid a b q =
    let high : pos 0 ≤ℤ ONE.0 = omega (arith, ints) in
    (clamped_low (on_the_way a.0 b.0 q) (pos 0) ONE.0 high, clamped_high (on_the_way a.0 b.0 q) (pos 0) ONE.0 high)

-- what holds of both branches holds of the choice
pub either : {T : Type 0} (P : T → Type 0) (b : Bool) (x y : T) → P x → P y → P (if b then x else y)
either P true x y h k = h
either P false x y h k = k

channel_small : (v : ℤ) (alpha : Fix) → straight_channel v alpha ≤ 255
unfolding straight_channel
channel_small v alpha =
    let channel = rounded_quotient v (bill.ONE.0 *ℤ alpha.0) in
    let low = clamped_low channel (pos 0) (pos 255) (omega (arith, ints)) in
    let high = clamped_high channel (pos 0) (pos 255) (omega (arith, ints)) in
    omega (arith, ints, low, high)

color_valid : (p : PropertyId) (r g b : ℕ) (a : Fix) (r' g' b' : ℕ) (a' : Fix) (q : ℤ) (alpha : Fix) → IsAlpha alpha
    → IsValid p (value.Color r g b a) → IsValid p (color_with r g b a r' g' b' a' q alpha)
unfolding color_with
color_valid p r g b a r' g' b' a' q alpha fits h =
    either (IsValid p) (int_eq alpha.0 (pos 0)) (black (fix 0)) _
    (h.0, record { red = omega arith; green = omega arith; blue = omega arith; alpha = (omega (arith, ints), omega (arith, ints)) })
    (h.0, record { red = channel_small _ alpha; green = channel_small _ alpha; blue = channel_small _ alpha; alpha = fits })

pub beside_valid : (p : PropertyId) (w v : Value) → IsValid p w → IsValid p v → IsValid p (counted_beside w v)
beside_valid p (value.Angle n) value.Absent h k = (h.0, zero_valid p)
beside_valid p (value.Pair x xp y yp) value.Absent h k = (h.0, zero_valid p, zero_valid p, zero_valid p, zero_valid p)
beside_valid p w v h k = k

pub parts_valid : (p : PropertyId) (a b : Value) (q : ℤ) → IsValid p a → IsValid p b → IsValid p (by_parts p a b q)
parts_valid p (value.Number m) (value.Number n) q h k = (h.0, number_valid p m n q)
parts_valid p (value.Length px pct) (value.Length px' pct') q h k = (h.0, number_valid p px px' q, percent_valid p pct pct' q h.2 k.2)
parts_valid p (value.Int i) (value.Int j) q h k = (h.0, integer_valid i j q)
parts_valid p (value.Color r g b a) (value.Color r' g' b' a') q h k =
    color_valid p r g b a r' g' b' a' q (alpha_between a a' q) (alpha_valid a a' q) h
parts_valid p (value.Angle m) (value.Angle n) q h k = (h.0, number_valid p m n q)
parts_valid p (value.Pair x xp y yp) (value.Pair x' xp' y' yp') q h k =
    (h.0, number_valid p x x' q, number_valid p xp xp' q, number_valid p y y' q, number_valid p yp yp' q)
parts_valid p (value.Visible v) (value.Visible w) q h k = h
parts_valid p a b q h k = h

-- what holds of the ends and of what stands between them by parts holds at every output
pub at_each_output : (P : Value → Type 0) (p : PropertyId) (a b : Value) (q : ℤ) → P a → P b → P (by_parts p (counted_beside b a) (counted_beside a b) q) → P (value_between p a b q)
unfolding value_between
at_each_output P p a b q h k l = either P (int_eq q (pos 0) || is_same a b) a _ h (either P (int_eq q (pos (10 ^ 9))) b _ k l)

pub value_valid : (p : PropertyId) (a b : Value) (q : ℤ) → IsValid p a → IsValid p b → IsValid p (value_between p a b q)
value_valid p a b q h k =
    at_each_output (IsValid p) p a b q h k (parts_valid p (counted_beside b a) (counted_beside a b) q (beside_valid p b a k h) (beside_valid p a b h k))
