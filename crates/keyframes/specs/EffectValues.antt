-- The effect value of a keyframe effect (Web Animations Level 1, "The effect value of a keyframe effect"). The iteration progress is num / den.
use Rattle.std.specs.Prelude.{ℤ, pos, ◌-ℤ◌, ◌*ℤ◌, int_le, int_lt, Bool, false, not, ◌&&◌, List, [], ◌∷◌, find, Option, None, option_map, option_and_then, if◌then◌else◌}
use Rattle.easing.specs.Easings.{output_of}
use Rattle.fix_num.specs.declared.units.TheConstants.Bill.{ONE}
use Rattle.interpolation.specs.Interpolation.{is_interpolable, value_between}
use Rattle.value_types.specs.declared.frame.Frame.{Frame}
use Rattle.value_types.specs.declared.property.PropertyId.{PropertyId}
use Rattle.value_types.specs.declared.value.Value.{Value}
use Rattle.keyframes.specs.declared.keyframe.EffectContext.{EffectContext}
use Rattle.keyframes.specs.declared.keyframe.Keyframe.{Keyframe}
use Rattle.keyframes.specs.Last.{last_passing}
use Rattle.keyframes.specs.PropertyKeyframes.{frames_of, keyframes_of}

-- ---- the interval endpoints

-- whether an offset is at or before the progress, and before 1
abbrev pub is_reached : ℤ → ℤ → ℤ → Bool
is_reached num den offset = int_le (offset *ℤ den) (ONE.0 *ℤ num) && int_lt offset ONE.0

-- the interval endpoints: the last keyframe that is reached, and the first that isn't
abbrev pub start_of : List Keyframe → ℤ → ℤ → Option Keyframe
start_of keyframes num den = last_passing (λ k. is_reached num den k.offset.0) keyframes

abbrev pub end_of : List Keyframe → ℤ → ℤ → Option Keyframe
end_of keyframes num den = find (λ k. not (is_reached num den k.offset.0)) keyframes

-- ---- the value between them

-- the values' combination at an output, in billionths: by interpolation, or where there is none the first value before the middle and the second
-- from there on (Web Animations Level 1, "Discrete")
abbrev pub combined_value : PropertyId → Value → Value → ℤ → Value
combined_value p a b q = (if is_interpolable p a b then value_between p a b q else if int_lt (pos 2 *ℤ q) ONE.0 then a else b)

-- the output of the starting keyframe's easing at the distance of the progress in the interval
abbrev pub output_between : ℤ → ℤ → Keyframe → Keyframe → ℤ
output_between num den a b = output_of a.easing (ONE.0 *ℤ num -ℤ a.offset.0 *ℤ den) ((b.offset.0 -ℤ a.offset.0) *ℤ den) false

-- the value between two keyframes
abbrev pub interval_value : PropertyId → ℤ → ℤ → Keyframe → Keyframe → Value
interval_value p num den a b = combined_value p a.value b.value (output_between num den a b)

-- the effect value of keyframes
abbrev pub effect_value : PropertyId → List Keyframe → ℤ → ℤ → Option Value
effect_value p keyframes num den =
    option_and_then (λ a. option_map (interval_value p num den a) (end_of keyframes num den)) (start_of keyframes num den)

-- ---- the sample of a keyframes rule

-- a value, where there are frames
abbrev pub where_any : List Frame → Option Value → Option Value
where_any [] value = None
where_any (f ∷ frames) value = value

-- the value that a keyframes rule gives the property: none where no frame gives one
unfoldable pub sample_of : List Frame → EffectContext → ℤ → ℤ → Option Value
sample_of frames x num den = where_any (frames_of x.property frames) (effect_value x.property (keyframes_of x frames) num den)
