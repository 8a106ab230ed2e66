-- The one rounding: to the nearest whole number, halves towards plus infinity.
use Rattle.std.specs.Prelude.{ℤ, pos, ◌+ℤ◌, ◌*ℤ◌, ◌≤ℤ◌, ◌<ℤ◌}
use Rattle.std.specs.Int.{int_div_euclid}

-- the whole number nearest to a / b, for a positive b: the floor of (2a + b) / (2b)
unfoldable pub rounded_quotient : ℤ → ℤ → ℤ
rounded_quotient a b = int_div_euclid (pos 2 *ℤ a +ℤ b) (pos 2 *ℤ b)

-- r is at most a half above a / b, and less than a half below it
pub record IsNearest (a b r : ℤ) : Type 0 where
  pub not_above : (pos 2 *ℤ (r *ℤ b)) ≤ℤ (pos 2 *ℤ a +ℤ b)
  pub not_below : (pos 2 *ℤ a) <ℤ (pos 2 *ℤ (r *ℤ b) +ℤ b)
