-- The bounds of what is sampled.
use Rattle.std.specs.Prelude.{◌≡◌, ℤ, pos, ◌≤ℤ◌, ◌<ℤ◌}
use Rattle.fix_num.specs.declared.limits.TheConstants.{MAX_TIME}
use Rattle.value_types.specs.Keyframes.{IsFrame}
use Rattle.value_types.specs.Ranges.{IsSize}
use Rattle.value_types.specs.Validity.{IsValid}
use Rattle.value_types.specs.declared.frame.Frame.{Frame}
use Rattle.value_types.specs.declared.property.PropertyId.{PropertyId}
use Rattle.timing_types.specs.Timing.{IsEasing}
use Rattle.keyframes.specs.declared.keyframe.EffectContext.{EffectContext}
use Rattle.keyframes.specs.declared.keyframe.Keyframe.{Keyframe}

-- a context within its bounds: its underlying value is a value of the property
pub record IsContext (x : EffectContext) : Type 0 where
  pub easing : IsEasing x.easing
  pub parent : IsSize x.parent_size
  pub own : IsSize x.own_size
  pub root : IsSize x.root_size
  pub under : IsValid x.property x.under

-- a keyframe with a value of the property
pub record IsKeyframe (p : PropertyId) (k : Keyframe) : Type 0 where
  pub value : IsValid p k.value
  pub easing : IsEasing k.easing

-- a progress num / den, from 0 to 1
pub record IsProgress (num den : ℤ) : Type 0 where
  pub low : pos 0 ≤ℤ num
  pub high : num ≤ℤ den
  pub positive : pos 0 <ℤ den
  pub small : den ≤ℤ pos MAX_TIME

-- a frame within its bounds, of the property
pub record IsFrameOf (p : PropertyId) (f : Frame) : Type 0 where
  pub frame : IsFrame f
  pub property : f.property ≡ p
