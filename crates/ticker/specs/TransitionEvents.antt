-- The events of transitions (CSS Transitions Level 2, "Event dispatch"). Times are microseconds.
use Rattle.std.specs.Prelude.{◌-ℤ◌, List, [], ◌∷◌}
use Rattle.std.specs.Int.{int_max}
use Rattle.style_data.specs.declared.event.EventKind.TheVariants.{Run, Start, End}
use Rattle.style_data.specs.declared.transition.Phase.{Phase}
use Rattle.style_data.specs.declared.transition.Phase.TheVariants.{Idle, Before, Active, After}
use Rattle.style_data.specs.declared.transition.Transition.{Transition}
use Rattle.transition_start.specs.Results.{elapsed_at}
use Rattle.ticker.specs.declared.event.Occurrence.{Occurrence}
use Rattle.ticker.specs.Events.{occurrence}

-- it is created: a negative delay has let some of its active duration elapse by then
abbrev pub transitionrun : Transition → Occurrence
transitionrun r = occurrence Run (elapsed_at r r.created.0) r.created.0

-- its delay is over
abbrev pub transitionstart : Transition → Occurrence
transitionstart r = occurrence Start (elapsed_at r r.created.0) (int_max r.created.0 r.start.0)

-- its active duration has elapsed
abbrev pub transitionend : Transition → Occurrence
transitionend r = occurrence End (r.end.0 -ℤ r.start.0) (int_max r.created.0 r.end.0)

-- what a tick tells of a transition, by the phase in which it was last seen and the phase in which it is
abbrev pub transition_occurrences : Transition → Phase → Phase → List Occurrence
transition_occurrences r Idle Before = transitionrun r ∷ []
transition_occurrences r Idle Active = transitionrun r ∷ transitionstart r ∷ []
transition_occurrences r Idle After = transitionrun r ∷ transitionstart r ∷ transitionend r ∷ []
transition_occurrences r Before Active = transitionstart r ∷ []
transition_occurrences r Before After = transitionstart r ∷ transitionend r ∷ []
transition_occurrences r Active After = transitionend r ∷ []
transition_occurrences r seen now = []
