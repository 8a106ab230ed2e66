-- Sampling a running transition.
use Rattle.std.specs.Prelude.{◌^◌, ℤ, pos, ◌-ℤ◌, int_le, false, if◌then◌else◌}
use Rattle.easing.specs.Easings.{output_of}
use Rattle.interpolation.specs.Interpolation.{value_between}
use Rattle.style_data.specs.declared.transition.Transition.{Transition}
use Rattle.value_types.specs.declared.property.PropertyId.{PropertyId}
use Rattle.value_types.specs.declared.value.Value.{Value}

-- the output of a transition at time t: 1 from its end on, 0 up to its start, else its easing's at the elapsed part
-- (CSS Transitions Level 1, section 4, "Application of transitions")
unfoldable pub output_at : Transition → ℤ → ℤ
output_at r t =
    (if int_le r.end.0 t then pos (10 ^ 9)
    else if int_le t r.start.0 then pos 0
    else output_of r.easing (t -ℤ r.start.0) (r.end.0 -ℤ r.start.0) false)

-- the value of a transition of the property at time t
abbrev pub sample_of : PropertyId → Transition → ℤ → Value
sample_of p r t = value_between p r.from r.to (output_at r t)
