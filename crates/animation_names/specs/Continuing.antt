-- Animations that go on, that start and that are cancelled (CSS Animations Level 1, "The animation-name property", "The animation-play-state
-- property").
use Rattle.std.specs.Prelude.{ℕ, Bool, true, false, List, Option, None, Some, if◌then◌else◌}
use Rattle.anim_timing.specs.Playing.{elapsed_at_cancel, played}
use Rattle.fix_num.specs.declared.units.Micros.{Micros}
use Rattle.style_data.specs.declared.animation.AnimationState.{AnimationState}
use Rattle.style_data.specs.declared.gone.Gone.{Gone}
use Rattle.style_data.specs.declared.gone.Subject.TheVariants.{Animation}
use Rattle.style_data.specs.declared.timing.AnimationTiming.{AnimationTiming}
use Rattle.style_data.specs.declared.transition.Phase.TheVariants.{Idle}
use Rattle.timing_types.specs.Timing.{ease}
use Rattle.timing_types.specs.TimingLists.{AnimationValues, no_time, once}
use Rattle.timing_types.specs.declared.timing.Direction.TheVariants.{Normal}
use Rattle.timing_types.specs.declared.timing.Fill.TheVariants.{Nothing}
use Rattle.timing_types.specs.declared.timing.PlayState.{PlayState}
use Rattle.timing_types.specs.declared.timing.PlayState.TheVariants.{Paused, Running}
use Rattle.transition_list.specs.Matching.{repeated}
use Rattle.animation_names.specs.NameLists.{NamesUpdate}

-- the timing that the lists give a place, each being repeated
abbrev pub timing_at : AnimationValues → ℕ → AnimationTiming
timing_at lists i = record {
  duration = repeated no_time lists.durations i;
  delay = repeated no_time lists.delays i;
  count = repeated once lists.counts i;
  direction = repeated Normal lists.directions i;
  fill = repeated Nothing lists.fills i;
  easing = repeated ease lists.easings i;
}

-- whether a play state is `paused`
abbrev pub is_paused : PlayState → Bool
is_paused Running = false
is_paused Paused = true

-- whether the animation at a place is paused
abbrev pub is_paused_at : AnimationValues → ℕ → Bool
is_paused_at lists i = is_paused (repeated Running lists.states i)

-- an animation that goes on at this place: it has the timing of the place, and from the time on it pauses or runs
unfoldable pub continued_animation : AnimationValues → Micros → ℕ → AnimationState → AnimationState
continued_animation lists time i a = played (record a { place = i; timing = timing_at lists i }) (is_paused_at lists i) time.0

-- an animation of the name that starts at this place and time, in the frame of this number and at this tree position
unfoldable pub started_animation : AnimationValues → Micros → ℕ → ℕ → ℕ → List ℕ → AnimationState
started_animation lists time generation position i name = record {
  name = name;
  place = i;
  first_place = i;
  created = time;
  start = time;
  hold = (if is_paused_at lists i then Some no_time else None);
  timing = timing_at lists i;
  generation = generation;
  position = position;
  seen = Idle;
  iteration = 0;
}

-- the animation of the name at this place: this one goes on, or, where there is none, one starts
abbrev pub animation_from : NamesUpdate → ℕ → List ℕ → Option AnimationState → AnimationState
animation_from u i name (Some a) = continued_animation u.lists u.time i a
animation_from u i name None = started_animation u.lists u.time u.generation u.position i name

-- an animation that is cancelled, with what its cancel event needs
unfoldable pub cancelled_animation : Micros → AnimationState → Gone
cancelled_animation time a = record {
  subject = Animation a.name;
  place = a.first_place;
  cancelled = time;
  elapsed = record { 0 = elapsed_at_cancel a time.0 };
  generation = a.generation;
  position = a.position;
  seen = a.seen;
}
