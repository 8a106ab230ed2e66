-- The active time of an animation, in microseconds (Web Animations Level 1, "Calculating the active time").
use Rattle.std.specs.Prelude.{ℤ, pos, ◌-ℤ◌, Bool, true, false, Option, None, Some, if◌then◌else◌}
use Rattle.std.specs.Int.{int_max}
use Rattle.style_data.specs.declared.timing.AnimationTiming.{AnimationTiming}
use Rattle.style_data.specs.declared.transition.Phase.{Phase}
use Rattle.style_data.specs.declared.transition.Phase.TheVariants.{Idle, Before, Active, After}
use Rattle.timing_types.specs.declared.timing.Fill.{Fill}
use Rattle.timing_types.specs.declared.timing.Fill.TheVariants.{Nothing, Forwards, Backwards, Both}
use Rattle.anim_timing.specs.Durations.{active_duration, no_later_than}
use Rattle.anim_timing.specs.Phases.{phase_of}

-- whether the fill mode covers the time before
abbrev pub fills_backwards : Fill → Bool
fills_backwards Nothing = false
fills_backwards Forwards = false
fills_backwards Backwards = true
fills_backwards Both = true

-- whether the fill mode covers the time after
abbrev pub fills_forwards : Fill → Bool
fills_forwards Nothing = false
fills_forwards Forwards = true
fills_forwards Backwards = false
fills_forwards Both = true

-- the active time in a phase at a local time; none is unresolved
abbrev pub active_time_in : AnimationTiming → Phase → ℤ → Option ℤ
active_time_in t Idle local = None
active_time_in t Before local = (if fills_backwards t.fill then Some (int_max (local -ℤ t.delay.0) (pos 0)) else None)
active_time_in t Active local = Some (local -ℤ t.delay.0)
active_time_in t After local =
    (if fills_forwards t.fill then Some (int_max (no_later_than (active_duration t) (local -ℤ t.delay.0)) (pos 0)) else None)

-- the active time at a local time
abbrev pub active_time : AnimationTiming → ℤ → Option ℤ
active_time t local = active_time_in t (phase_of t local) local
