-- The bounds of animations (CSS Animations 1, section 4).
use Rattle.std.specs.Prelude.{IfSome}
use Rattle.timing_types.specs.Timing.{IsCount, IsDelay, IsDuration, IsEasing}
use Rattle.style_data.specs.declared.animation.AnimationState.{AnimationState}
use Rattle.style_data.specs.declared.timing.AnimationTiming.{AnimationTiming}
use Rattle.style_data.specs.Transitions.{IsMoment}

-- a timing as the lists hold it
pub record IsTiming (t : AnimationTiming) : Type 0 where
  pub duration : IsDuration t.duration
  pub delay : IsDelay t.delay
  pub count : IsCount t.count
  pub easing : IsEasing t.easing

-- an animation within its bounds
pub record IsAnimation (a : AnimationState) : Type 0 where
  pub created : IsMoment a.created.0
  pub start : IsMoment a.start.0
  pub hold : IfSome a.hold (λ h. IsMoment h.0)
