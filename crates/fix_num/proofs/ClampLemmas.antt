-- Bounds of clamped numbers.
use Rattle.std.proofs.Common.{arith}
use Rattle.std.specs.Prelude.{ℤ, pos, negsuc, ◌≤ℤ◌}
use Rattle.std.specs.Int.{w64}
use Rattle.std.proofs.lemmas.Int.{ints, clamps}
use mir.Val.{SFits}
use Rattle.fix_num.specs.Clamping.{clamped_number}

-- a clamped number is no less than the least, and no greater than the greatest
pub clamped_low : (v low high : ℤ) → low ≤ℤ high → low ≤ℤ clamped_number v low high
unfolding clamped_number
clamped_low v low high h = omega (arith, ints, clamps)

pub clamped_high : (v low high : ℤ) → low ≤ℤ high → clamped_number v low high ≤ℤ high
unfolding clamped_number
clamped_high v low high h = omega (arith, ints, clamps)

-- what lies between numbers that fit fits
pub fits_between : (low high v : ℤ) → SFits w64 low → SFits w64 high → low ≤ℤ v → v ≤ℤ high → SFits w64 v
fits_between low (pos m) (pos n) f g l h = let k = g.sfits in record { sfits = omega (arith, ints, k) }
fits_between low (negsuc m) (pos n) f g l h = absurd (omega (arith, ints))
fits_between (pos m) high (negsuc n) f g l h = absurd (omega (arith, ints))
fits_between (negsuc m) high (negsuc n) f g l h = let k = f.sfits in record { sfits = omega (arith, ints, k) }
