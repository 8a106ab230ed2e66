-- Ranges of numbers, and the limits of numbers.
use Rattle.std.specs.Prelude.{◌≤◌, ℤ, pos, negsuc, neg_ℤ, ◌≤ℤ◌, unsigned_abs, Bool, true, false, nat_le, ⊤}
use Rattle.fix_num.specs.declared.limits.TheConstants.{MAX_INTEGER, MAX_NUMBER}
use Rattle.fix_num.specs.declared.units.Fix.{Fix}
use Rattle.fix_num.specs.declared.units.TheConstants.Fix.{ONE}
use Rattle.value_types.specs.declared.range.ValueRange.{ValueRange}
use Rattle.value_types.specs.declared.range.ValueRange.TheVariants.{All, NotNegative, ZeroToOne, Nothing}

-- a number, a length, a percent or an angle within the limit of a million
abbrev pub IsWithinLimit : Fix → Type 0
IsWithinLimit n = unsigned_abs n.0 ≤ MAX_NUMBER

-- an integer within the limit
abbrev pub IsInteger : ℤ → Type 0
IsInteger i = unsigned_abs i ≤ MAX_INTEGER

-- a size: a length that isn't negative, within the limit
pub record IsSize (s : Fix) : Type 0 where
  pub low : pos 0 ≤ℤ s.0
  pub high : s.0 ≤ℤ pos MAX_NUMBER

-- the number lies in the range
abbrev pub IsInRange : ValueRange → Fix → Type 0
IsInRange All n = ⊤
IsInRange NotNegative n = pos 0 ≤ℤ n.0
IsInRange ZeroToOne n = (pos 0 ≤ℤ n.0) × (n.0 ≤ℤ ONE.0)
IsInRange Nothing n = ⊤

-- ---- the same as functions

-- the number of millionths lies in the range
abbrev pub is_in_range : ValueRange → ℤ → Bool
is_in_range All n = true
is_in_range NotNegative (pos n) = true
is_in_range NotNegative (negsuc n) = false
is_in_range ZeroToOne (pos n) = nat_le n (unsigned_abs ONE.0)
is_in_range ZeroToOne (negsuc n) = false
is_in_range Nothing n = true

-- the least number of the range within the limit
abbrev pub lowest_of : ValueRange → ℤ
lowest_of All = neg_ℤ (pos MAX_NUMBER)
lowest_of NotNegative = pos 0
lowest_of ZeroToOne = pos 0
lowest_of Nothing = neg_ℤ (pos MAX_NUMBER)

-- the greatest number of the range within the limit
abbrev pub highest_of : ValueRange → ℤ
highest_of All = pos MAX_NUMBER
highest_of NotNegative = pos MAX_NUMBER
highest_of ZeroToOne = ONE.0
highest_of Nothing = pos MAX_NUMBER
