-- How far an animation is in how many iterations. None is infinite.
use Rattle.std.specs.Prelude.{ℤ, pos, ◌-ℤ◌, Bool, true, false, not, ◌&&◌, Option, None, Some, option_map, if◌then◌else◌}
use Rattle.std.specs.Int.{int_div_euclid, int_rem_euclid}
use Rattle.std.specs.Option.{option_map_or}
use Rattle.std.specs.Ordering.{int_eq}
use Rattle.fix_num.specs.declared.units.TheConstants.Fix.{ONE}
use Rattle.style_data.specs.declared.timing.AnimationTiming.{AnimationTiming}
use Rattle.style_data.specs.declared.transition.Phase.{Phase}
use Rattle.style_data.specs.declared.transition.Phase.TheVariants.{Idle, Before, Active, After}
use Rattle.timing_types.specs.declared.timing.Count.{Count}
use Rattle.timing_types.specs.declared.timing.Count.TheVariants.{Times, Infinite}
use Rattle.anim_timing.specs.declared.iterations.Ratio.{Ratio}
use Rattle.anim_timing.specs.Durations.{active_duration}

-- the number num / den
abbrev pub ratio : ℤ → ℤ → Ratio
ratio num den = record { num = num; den = den }

-- the whole part of a number, and what is left of it beside that
abbrev pub whole_part : Ratio → ℤ
whole_part r = int_div_euclid r.num r.den

abbrev pub fraction_part : Ratio → Ratio
fraction_part r = ratio (int_rem_euclid r.num r.den) r.den

-- whether the phase is that before
abbrev pub is_before : Phase → Bool
is_before Idle = false
is_before Before = true
is_before Active = false
is_before After = false

-- the iteration count as a number
abbrev pub count_of : Count → Option Ratio
count_of (Times n) = Some (ratio n.0 ONE.0)
count_of Infinite = None

-- the overall progress in a phase at an active time: iterations done, those begun in part (Web Animations Level 1,
-- "Calculating the overall progress")
abbrev pub overall_progress : AnimationTiming → Phase → ℤ → Option Ratio
overall_progress t phase active =
    (if int_eq t.duration.0 (pos 0) then (if is_before phase then Some (ratio (pos 0) ONE.0) else count_of t.count)
    else Some (ratio active t.duration.0))

-- what is left of an overall progress beside whole iterations: of an infinite one nothing
abbrev pub modulo_one : Option Ratio → Ratio
modulo_one None = ratio (pos 0) ONE.0
modulo_one (Some overall) = fraction_part overall

-- whether an overall progress is of whole iterations, of one at least
abbrev pub is_whole : Option Ratio → Bool
is_whole None = true
is_whole (Some overall) = not (int_eq overall.num (pos 0)) && int_eq (fraction_part overall).num (pos 0)

-- whether the animation is at the end of its last iteration: active or after, at an active time of the whole active duration, and
-- with no iteration begun in part
abbrev pub ends_iteration : AnimationTiming → Phase → ℤ → Bool
ends_iteration t phase active =
    not (is_before phase) && (option_map_or (λ lasting. int_eq active lasting) (active_duration t) false && is_whole (overall_progress t phase active))

-- the simple iteration progress of an overall progress: 1 at the end of the last iteration, which is no start of another (Web
-- Animations Level 1, "Calculating the simple iteration progress")
abbrev pub simple_iteration_progress : Option Ratio → Bool → Ratio
simple_iteration_progress overall ends = (if ends then ratio (modulo_one overall).den (modulo_one overall).den else modulo_one overall)

-- the current iteration, from 0 (Web Animations Level 1, "Calculating the current iteration")
abbrev pub current_iteration : Option Ratio → Bool → Option ℤ
current_iteration overall ends = option_map (λ done. if ends then whole_part done -ℤ pos 1 else whole_part done) overall

-- the current iteration in a phase at an active time, and the progress in it
abbrev pub iteration_in : AnimationTiming → Phase → ℤ → Option ℤ
iteration_in t phase active = current_iteration (overall_progress t phase active) (ends_iteration t phase active)

abbrev pub progress_in_iteration : AnimationTiming → Phase → ℤ → Ratio
progress_in_iteration t phase active = simple_iteration_progress (overall_progress t phase active) (ends_iteration t phase active)
