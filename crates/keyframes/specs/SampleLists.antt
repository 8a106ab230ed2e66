-- What the animations of an element give a property, each at its own progress.
use Rattle.std.specs.Prelude.{List, Option, All, IfSome}
use Rattle.fix_num.specs.declared.units.Fix.{Fix}
use Rattle.timing_types.specs.Timing.{IsEasing}
use Rattle.value_types.specs.Keyframes.{IsFrame}
use Rattle.value_types.specs.Ranges.{IsSize}
use Rattle.value_types.specs.Validity.{IsValid}
use Rattle.value_types.specs.declared.property.PropertyId.{PropertyId}
use Rattle.value_types.specs.declared.value.Value.{Value}
use Rattle.keyframes.specs.declared.animation_sample.SampleParts.{SampleParts}
use Rattle.keyframes.specs.EffectValues.{sample_of}
use Rattle.keyframes.specs.Last.{last_given}
use Rattle.keyframes.specs.PropertyKeyframes.{effect_context}
use Rattle.keyframes.specs.Validity.{IsProgress}

-- the frames of a rule, an easing and a progress within their bounds
pub record IsSample (s : SampleParts) : Type 0 where
  pub frames : All IsFrame s.frames
  pub easing : IsEasing s.easing
  pub progress : IsProgress s.num s.den

-- the value that one animation gives a property
abbrev pub value_given_by : PropertyId → Fix → Fix → Fix → Value → SampleParts → Option Value
value_given_by p parent own root under s = sample_of s.frames (effect_context p s.easing parent own root under) s.num s.den

-- the value that the animations give a property: that of the last one in the list which gives one (CSS Animations Level 1, "Animations")
abbrev pub value_of_samples : List SampleParts → PropertyId → Fix → Fix → Fix → Value → Option Value
value_of_samples samples p parent own root under = last_given (value_given_by p parent own root under) samples

-- what the samples give a property is a value of it
abbrev pub GiveValid : List SampleParts → Type 0
GiveValid samples =
    (p : PropertyId) (parent own root : Fix) (under : Value) → IsValid p under → IsSize parent → IsSize own → IsSize root
    → IfSome (value_of_samples samples p parent own root under) (IsValid p)
