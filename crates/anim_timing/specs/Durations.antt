-- How long an animation is active, and the local times that bound its phases, in microseconds. None is infinite.
use Rattle.std.specs.Prelude.{ℤ, pos, ◌+ℤ◌, ◌*ℤ◌, Option, None, Some, option_map, if◌then◌else◌}
use Rattle.std.specs.Int.{int_max, int_min}
use Rattle.std.specs.Ordering.{int_eq}
use Rattle.fix_num.specs.Rounding.{rounded_quotient}
use Rattle.fix_num.specs.declared.units.TheConstants.Fix.{ONE}
use Rattle.style_data.specs.declared.timing.AnimationTiming.{AnimationTiming}
use Rattle.timing_types.specs.declared.timing.Count.{Count}
use Rattle.timing_types.specs.declared.timing.Count.TheVariants.{Times, Infinite}

-- a duration repeated so many times, to the nearest microsecond
abbrev pub repeated : ℤ → Count → Option ℤ
repeated duration (Times n) = Some (rounded_quotient (duration *ℤ n.0) ONE.0)
repeated duration Infinite = None

-- the active duration: the iteration duration times the iteration count, and 0 where either is 0 (Web Animations Level 1,
-- "Calculating the active duration")
abbrev pub active_duration : AnimationTiming → Option ℤ
active_duration t = (if int_eq t.duration.0 (pos 0) then Some (pos 0) else repeated t.duration.0 t.count)

-- the lesser of a time and one that may be infinite
abbrev pub no_later_than : Option ℤ → ℤ → ℤ
no_later_than None time = time
no_later_than (Some limit) time = int_min time limit

-- the end time: the start delay and the active duration together, at least 0 (Web Animations Level 1, "The active interval")
abbrev pub end_time : AnimationTiming → Option ℤ
end_time t = option_map (λ lasting. int_max (t.delay.0 +ℤ lasting) (pos 0)) (active_duration t)

-- the before-active boundary time (Web Animations Level 1, "Animation effect phases and states")
abbrev pub before_active_boundary : AnimationTiming → ℤ
before_active_boundary t = int_max (no_later_than (end_time t) t.delay.0) (pos 0)

-- the active-after boundary time (Web Animations Level 1, "Animation effect phases and states")
abbrev pub active_after_boundary : AnimationTiming → Option ℤ
active_after_boundary t = option_map (λ lasting. int_max (no_later_than (end_time t) (t.delay.0 +ℤ lasting)) (pos 0)) (active_duration t)
