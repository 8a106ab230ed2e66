-- Bounds of numbers that are clamped and rounded.
use Rattle.std.proofs.Common.{ℕ, ◌+◌, ◌^◌, ◌≤◌, arith}
use Rattle.std.specs.Prelude.{ℤ, pos, negsuc, ◌-ℤ◌, ◌*ℤ◌, ◌≤ℤ◌}
use Rattle.std.proofs.lemmas.Int.{ints, clamps}
use Rattle.std.proofs.Math.Nat.{mul-le-mul_left}
use Rattle.fix_num.specs.Clamping.{clamped_number}
use Rattle.fix_num.specs.Rounding.{rounded_quotient, IsNearest}
use Rattle.fix_num.proofs.RoundingLemmas.{nearest}
use Rattle.interpolation.specs.Interpolation.{IsBetween}
use Rattle.interpolation.specs.Numbers.{on_the_way}

-- ---- between the ends

-- a product with a part of n lies from 0 to that with n
product_fits : (d : ℤ) (q n : ℕ) → q ≤ n → IsBetween (pos 0) (d *ℤ pos n) (d *ℤ pos q)
product_fits (pos d) q n h = let more = mul-le-mul_left d h in record { low = omega (arith, ints, clamps, more); high = omega (arith, ints, clamps, more) }
product_fits (negsuc d) q n h = let more = mul-le-mul_left (d + 1) h in record { low = omega (arith, ints, clamps, more); high = omega (arith, ints, clamps, more) }

-- what is nearest to a part of d lies from 0 to d
part_fits : (d t r : ℤ) → IsBetween (pos 0) (d *ℤ pos (10 ^ 9)) t → IsNearest t (pos (10 ^ 9)) r → IsBetween (pos 0) d r
part_fits d t r h k = record { low = omega (arith, ints, clamps); high = omega (arith, ints, clamps) }

pub way_fits : (a b q : ℤ) → pos 0 ≤ℤ q → q ≤ℤ pos (10 ^ 9) → IsBetween a b (on_the_way a b q)
unfolding on_the_way
way_fits a b (pos q) low high =
    let t = (b -ℤ a) *ℤ pos q in
    let part = part_fits (b -ℤ a) t (rounded_quotient t (pos (10 ^ 9))) (product_fits (b -ℤ a) q (10 ^ 9) (omega (arith, ints))) (nearest t (pos (10 ^ 9)) (omega (arith, ints))) in
    record { low = omega (arith, ints, clamps); high = omega (arith, ints, clamps) }
way_fits a b (negsuc q) low high = absurd (omega (arith, ints))

pub clamped_fits : (low high a b v : ℤ) → low ≤ℤ a → a ≤ℤ high → low ≤ℤ b → b ≤ℤ high → IsBetween a b v → IsBetween a b (clamped_number v low high)
unfolding clamped_number
clamped_fits low high a b v p q r s h = record { low = omega (arith, ints, clamps); high = omega (arith, ints, clamps) }
