-- The events of animations (CSS Animations Level 2, "Event dispatch"). Times are microseconds.
use Rattle.std.specs.Prelude.{ℕ, ◌^◌, ℤ, pos, ◌+ℤ◌, ◌-ℤ◌, ◌*ℤ◌, int_le, nat_eq, List, [], ◌∷◌, if◌then◌else◌}
use Rattle.std.specs.Int.{int_max, int_min}
use Rattle.std.specs.Option.{option_map_or}
use Rattle.anim_timing.specs.Durations.{active_duration, no_later_than}
use Rattle.anim_timing.specs.Phases.{phase_of}
use Rattle.anim_timing.specs.Playing.{local_time}
use Rattle.anim_timing.specs.Progresses.{progress_at}
use Rattle.style_data.specs.declared.animation.AnimationState.{AnimationState}
use Rattle.style_data.specs.declared.event.EventKind.TheVariants.{Start, Iteration, End}
use Rattle.style_data.specs.declared.timing.AnimationTiming.{AnimationTiming}
use Rattle.style_data.specs.declared.transition.Phase.{Phase}
use Rattle.style_data.specs.declared.transition.Phase.TheVariants.{Idle, Before, Active, After}
use Rattle.ticker.specs.declared.event.Occurrence.{Occurrence}
use Rattle.ticker.specs.Events.{occurrence}

-- ---- elapsed times and scheduled times

-- the interval start: what of the active duration a negative delay skips
abbrev pub interval_start : AnimationTiming → ℤ
interval_start t = int_max (no_later_than (active_duration t) (pos 0 -ℤ t.delay.0)) (pos 0)

-- the interval end: the active duration, as far as an event can tell it; in place of one that is infinite, or over 10^18, the interval
-- start
abbrev pub interval_end : AnimationTiming → ℤ
interval_end t = option_map_or (λ lasting. if int_le lasting (pos (10 ^ 18)) then lasting else interval_start t) (active_duration t) (interval_start t)

-- when the animation came to this active time, seen from time t: not before it was created, and not after t
abbrev pub scheduled : AnimationState → ℤ → ℤ → ℤ
scheduled a t active = int_min (int_max (((t -ℤ local_time a t) +ℤ a.timing.delay.0) +ℤ active) a.created.0) t

-- ---- what occurs

-- it starts
abbrev pub animationstart : AnimationState → ℤ → Occurrence
animationstart a t = occurrence Start (interval_start a.timing) (scheduled a t (pos 0))

-- it ends
abbrev pub animationend : AnimationState → ℤ → Occurrence
animationend a t = occurrence End (interval_end a.timing) (scheduled a t (interval_end a.timing))

-- the iteration of this number begins
abbrev pub animationiteration : AnimationState → ℤ → ℕ → Occurrence
animationiteration a t iteration =
    let active = pos iteration *ℤ a.timing.duration.0 in
    occurrence Iteration active (scheduled a t active)

-- it plays again, from its end, since its timing has changed
abbrev pub animationstart_at_end : AnimationState → ℤ → Occurrence
animationstart_at_end a t = occurrence Start (interval_end a.timing) t

-- it is back before its start, since its timing has changed
abbrev pub animationend_at_start : AnimationState → ℤ → Occurrence
animationend_at_start a t = occurrence End (interval_start a.timing) t

-- ---- ticks

-- the phase of an animation at time t
abbrev pub animation_phase : AnimationState → ℤ → Phase
animation_phase a t = phase_of a.timing (local_time a t)

-- its current iteration at time t; where it has none, the one that was last seen
abbrev pub iteration_now : AnimationState → ℤ → ℕ
iteration_now a t = option_map_or (λ p. p.iteration) (progress_at a t) a.iteration

-- what a tick at time t tells of an animation, by the phase in which it was last seen and the phase in which it is
abbrev pub animation_occurrences : AnimationState → ℤ → Phase → Phase → List Occurrence
animation_occurrences a t Idle Active = animationstart a t ∷ []
animation_occurrences a t Before Active = animationstart a t ∷ []
animation_occurrences a t Idle After = animationstart a t ∷ animationend a t ∷ []
animation_occurrences a t Before After = animationstart a t ∷ animationend a t ∷ []
animation_occurrences a t Active Active = (if nat_eq (iteration_now a t) a.iteration then [] else animationiteration a t (iteration_now a t) ∷ [])
animation_occurrences a t Active After = animationend a t ∷ []
animation_occurrences a t After Active = animationstart_at_end a t ∷ []
animation_occurrences a t After Before = animationstart_at_end a t ∷ animationend_at_start a t ∷ []
animation_occurrences a t Active Before = animationend_at_start a t ∷ []
animation_occurrences a t seen now = []
