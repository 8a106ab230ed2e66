-- The bounds of easings and of the items of timing lists (CSS Easing 1; CSS Transitions 1, "Transitions"; CSS Animations 1,
-- "Declaring Animations").
use Rattle.std.specs.Prelude.{ℕ, ◌≤◌, ℤ, pos, ◌≤ℤ◌, unsigned_abs, ⊤}
use Rattle.fix_num.specs.declared.limits.TheConstants.{MAX_NUMBER, MAX_TIME}
use Rattle.fix_num.specs.declared.units.Micros.{Micros}
use Rattle.timing_types.specs.declared.easing.Easing.{Easing}
use Rattle.timing_types.specs.declared.easing.Easing.TheVariants.{Linear, Cubic, Steps}
use Rattle.timing_types.specs.declared.easing.Jump.{Jump}
use Rattle.timing_types.specs.declared.easing.Jump.TheVariants.{Start, End, Both, Nowhere}
use Rattle.timing_types.specs.declared.limits.TheConstants.{MAX_ORDINATE, MAX_STEPS}
use Rattle.timing_types.specs.declared.timing.Count.{Count}
use Rattle.timing_types.specs.declared.timing.Count.TheVariants.{Times, Infinite}

-- a control point of a curve in thousandths: x is 0 to 1, y within 10
pub record IsControlPoint (x y : ℤ) : Type 0 where
  pub low : pos 0 ≤ℤ x
  pub high : x ≤ℤ pos 1000
  pub height : unsigned_abs y ≤ MAX_ORDINATE

-- jump-none needs a second step
abbrev pub fewest_steps : Jump → ℕ
fewest_steps Start = 1
fewest_steps End = 1
fewest_steps Both = 1
fewest_steps Nowhere = 2

-- an easing function within its bounds
abbrev pub IsEasing : Easing → Type 0
IsEasing Linear = ⊤
IsEasing (Cubic x1 y1 x2 y2) = IsControlPoint x1 y1 × IsControlPoint x2 y2
IsEasing (Steps count jump) = (fewest_steps jump ≤ count) × (count ≤ MAX_STEPS)

-- the keyword ease (CSS Easing 1, "Cubic Bézier easing functions")
abbrev pub ease : Easing
ease = Cubic (pos 250) (pos 100) (pos 250) (pos 1000)

-- a duration in microseconds
pub record IsDuration (d : Micros) : Type 0 where
  pub low : pos 0 ≤ℤ d.0
  pub high : d.0 ≤ℤ pos MAX_TIME

-- a delay in microseconds
pub record IsDelay (d : Micros) : Type 0 where
  pub size : unsigned_abs d.0 ≤ MAX_TIME

-- an iteration count in millionths, or without end
abbrev pub IsCount : Count → Type 0
IsCount (Times n) = (pos 0 ≤ℤ n.0) × (n.0 ≤ℤ pos MAX_NUMBER)
IsCount Infinite = ⊤

-- an item without bounds
abbrev pub IsAny : {T : Type 0} → T → Type 0
IsAny x = ⊤
