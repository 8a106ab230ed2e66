-- The bounds of transitions (CSS Transitions 1, section 3).
use Rattle.std.specs.Prelude.{◌*◌, ◌≤◌, ℤ, pos, ◌≤ℤ◌, unsigned_abs}
use Rattle.fix_num.specs.declared.limits.TheConstants.{MAX_TIME}
use Rattle.reversing.specs.Reversal.{IsFactor}
use Rattle.timing_types.specs.Timing.{IsEasing}
use Rattle.style_data.specs.declared.transition.Transition.{Transition}

-- a moment of a document, in microseconds
pub record IsMoment (t : ℤ) : Type 0 where
  pub low : pos 0 ≤ℤ t
  pub high : t ≤ℤ pos MAX_TIME

-- a transition within its bounds: a moment, a delay and a duration together are within three times the longest
pub record IsTransition (r : Transition) : Type 0 where
  pub created : IsMoment r.created.0
  pub ordered : r.start.0 ≤ℤ r.end.0
  pub start : unsigned_abs r.start.0 ≤ 3 * MAX_TIME
  pub end : unsigned_abs r.end.0 ≤ 3 * MAX_TIME
  pub easing : IsEasing r.easing
  pub factor : IsFactor r.factor.0
