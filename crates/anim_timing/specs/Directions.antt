-- The direction of an iteration (Web Animations Level 1, "Calculating the directed progress").
use Rattle.std.specs.Prelude.{ℤ, pos, ◌+ℤ◌, ◌-ℤ◌, Bool, true, false, Option, None, Some, option_map, if◌then◌else◌}
use Rattle.std.specs.Int.{int_rem_euclid}
use Rattle.std.specs.Ordering.{int_eq}
use Rattle.style_data.specs.declared.timing.AnimationTiming.{AnimationTiming}
use Rattle.timing_types.specs.declared.timing.Direction.{Direction}
use Rattle.timing_types.specs.declared.timing.Direction.TheVariants.{Normal, Reverse, Alternate, AlternateReverse}
use Rattle.anim_timing.specs.declared.iterations.Ratio.{Ratio}
use Rattle.anim_timing.specs.Iterations.{ratio}

-- whether an iteration is even; an infinite one counts as even
abbrev pub is_even : Option ℤ → Bool
is_even None = true
is_even (Some iteration) = int_eq (int_rem_euclid iteration (pos 2)) (pos 0)

-- whether an iteration runs forwards
abbrev pub is_forwards : Direction → Option ℤ → Bool
is_forwards Normal iteration = true
is_forwards Reverse iteration = false
is_forwards Alternate iteration = is_even iteration
is_forwards AlternateReverse iteration = is_even (option_map (λ i. i +ℤ pos 1) iteration)

-- the directed progress of a simple iteration progress
abbrev pub directed_progress : Direction → Option ℤ → Ratio → Ratio
directed_progress direction iteration simple = (if is_forwards direction iteration then simple else ratio (simple.den -ℤ simple.num) simple.den)

-- the same timing in another direction
abbrev pub with_direction : AnimationTiming → Direction → AnimationTiming
with_direction t direction = record t { direction = direction }
