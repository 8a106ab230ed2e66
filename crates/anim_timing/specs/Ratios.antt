-- The sizes of the numbers that count iterations.
use Rattle.std.specs.Prelude.{◌*◌, pos, ◌≤ℤ◌, ◌<ℤ◌}
use Rattle.fix_num.specs.declared.limits.TheConstants.{MAX_TIME}
use Rattle.anim_timing.specs.declared.iterations.Ratio.{Ratio}

-- a number that isn't negative: at most a moment and a delay, of an iteration of at most the longest time
pub record IsRatio (r : Ratio) : Type 0 where
  pub low : pos 0 ≤ℤ r.num
  pub high : r.num ≤ℤ pos (2 * MAX_TIME)
  pub positive : pos 0 <ℤ r.den
  pub small : r.den ≤ℤ pos MAX_TIME

-- a part of an iteration
pub record IsPart (r : Ratio) : Type 0 where
  pub low : pos 0 ≤ℤ r.num
  pub high : r.num ≤ℤ r.den
  pub positive : pos 0 <ℤ r.den
  pub small : r.den ≤ℤ pos MAX_TIME
