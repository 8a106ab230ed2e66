-- Numbers clamped to a range (CSS Values and Units Level 4, "Comparison Functions: min(), max(), and clamp()").
use Rattle.std.specs.Prelude.{ℤ}
use Rattle.std.specs.Int.{int_min, int_max}

-- the number from low to high that is nearest to v
unfoldable pub clamped_number : ℤ → ℤ → ℤ → ℤ
clamped_number v low high = int_max (int_min v high) low
