-- Animations that run and are paused, in the time of the document, in microseconds.
use Rattle.std.specs.Prelude.{ℤ, pos, ◌-ℤ◌, Bool, true, false, Option, None, Some, unwrap_or}
use Rattle.std.specs.Int.{int_max}
use Rattle.std.specs.Option.{option_map_or}
use Rattle.fix_num.specs.declared.units.Micros.{Micros}
use Rattle.style_data.specs.declared.animation.AnimationState.{AnimationState}
use Rattle.style_data.specs.declared.timing.AnimationTiming.{AnimationTiming}
use Rattle.timing_types.specs.declared.timing.Fill.TheVariants.{Both}
use Rattle.anim_timing.specs.ActiveTimes.{active_time}

-- the local time at time t: since the start time, or the hold time of a paused animation (Web Animations Level 1, "The current
-- time of an animation", "Local time and inherited time")
abbrev pub local_time : AnimationState → ℤ → ℤ
local_time a t = option_map_or (λ hold. hold.0) a.hold (t -ℤ a.start.0)

-- the time from one moment to another, none where that is earlier
abbrev pub time_from : ℤ → ℤ → Micros
time_from earlier later = record { 0 = int_max (later -ℤ earlier) (pos 0) }

-- the animation with its play state of time t on: becoming paused it holds its local time, becoming running it has the start time that
-- gives it this local time (CSS Animations Level 1, "The animation-play-state property")
abbrev pub with_play_state : AnimationState → Option Micros → Bool → ℤ → AnimationState
with_play_state a None true t = record a { hold = Some (time_from a.start.0 t) }
with_play_state a (Some hold) false t = record a { start = time_from hold.0 t; hold = None }
with_play_state a None false t = a
with_play_state a (Some hold) true t = a

abbrev pub played : AnimationState → Bool → ℤ → AnimationState
played a paused t = with_play_state a a.hold paused t

-- the same timing, filling both ways
abbrev pub filling_both : AnimationTiming → AnimationTiming
filling_both t = record t { fill = Both }

-- the elapsed time of the cancel event of an animation that is cancelled at time t: its active time, as if it filled both ways (CSS Animations
-- Level 1, "Types of AnimationEvent")
abbrev pub elapsed_at_cancel : AnimationState → ℤ → ℤ
elapsed_at_cancel a t = unwrap_or (active_time (filling_both a.timing) (local_time a t)) (pos 0)
