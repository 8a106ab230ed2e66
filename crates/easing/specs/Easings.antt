-- The output of an easing function, after CSS Easing Functions Level 1, "Easing functions".
use Rattle.std.specs.Prelude.{ℤ, pos, Bool, ⊤}
use Rattle.timing_types.specs.declared.easing.Easing.{Easing}
use Rattle.timing_types.specs.declared.easing.Easing.TheVariants.{Linear, Cubic, Steps}
use Rattle.easing.specs.Billionths.{billionths}
use Rattle.easing.specs.Bezier.{input_billionths, parameter_of, ordinate_output, IsUnitCoordinate}
use Rattle.easing.specs.Stepping.{jumps_of, step_of}

-- the output in billionths at the input num / den, which is from 0 to 1; before is the before flag
unfoldable pub output_of : Easing → ℤ → ℤ → Bool → ℤ
output_of Linear num den before = billionths num den
output_of (Cubic x1 y1 x2 y2) num den before = ordinate_output y1 y2 (parameter_of x1 x2 (input_billionths num den))
output_of (Steps count jump) num den before = billionths (step_of count jump num den before) (pos (jumps_of jump count))

-- an easing whose output doesn't leave 0 to 1: of a curve, both ordinates are from 0 to 1
abbrev pub KeepsUnit : Easing → Type 0
KeepsUnit Linear = ⊤
KeepsUnit (Cubic x1 y1 x2 y2) = IsUnitCoordinate y1 × IsUnitCoordinate y2
KeepsUnit (Steps count jump) = ⊤
