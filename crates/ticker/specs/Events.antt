-- Events and their keys. Times are microseconds.
use Rattle.std.specs.Prelude.{ℕ, ℤ, Bool, true, false, List, [], ◌∷◌, if◌then◌else◌}
use Rattle.style_data.specs.Events.{kind_number}
use Rattle.style_data.specs.declared.animation.AnimationState.{AnimationState}
use Rattle.style_data.specs.declared.event.Event.{Event}
use Rattle.style_data.specs.declared.event.EventKind.{EventKind}
use Rattle.style_data.specs.declared.event.EventKind.TheVariants.{Cancel}
use Rattle.style_data.specs.declared.gone.Gone.{Gone}
use Rattle.style_data.specs.declared.gone.Subject.{Subject}
use Rattle.style_data.specs.declared.gone.Subject.TheVariants.{Property, Animation}
use Rattle.style_data.specs.declared.transition.Phase.{Phase}
use Rattle.style_data.specs.declared.transition.Phase.TheVariants.{Idle, Before, Active, After}
use Rattle.style_data.specs.declared.transition.Transition.{Transition}
use Rattle.value_types.specs.Properties.{number_of}
use Rattle.value_types.specs.declared.property.PropertyId.{PropertyId}
use Rattle.ticker.specs.declared.event.Occurrence.{Occurrence}
use Rattle.ticker.specs.declared.event.Standing.{Standing}

-- something of which an event is sent: its kind, its elapsed time, and its scheduled event time
abbrev pub occurrence : EventKind → ℤ → ℤ → Occurrence
occurrence kind elapsed time = record { kind = kind; elapsed = record { 0 = elapsed }; time = record { 0 = time } }

-- ---- composite order (CSS Transitions Level 2 and CSS Animations Level 2, "Animation composite order")

-- a place in composite order, by its fields
abbrev pub standing : ℕ → ℕ → ℕ → ℕ → Standing
standing class first second third = record { class = class; first = first; second = second; third = third }

-- where a transition of an element at this position in tree order stands: by the position, then by its generation, then by its property
abbrev pub transition_standing : ℕ → PropertyId → Transition → Standing
transition_standing position p r = standing 0 position r.generation (number_of p)

-- where an animation of such an element stands: after all transitions, by the position, then by its place in the list of names
abbrev pub animation_standing : ℕ → AnimationState → Standing
animation_standing position a = standing 2 position a.place 0

-- where a cancelled transition or animation stands, which has no owning element any more: after those that have one, by its generation,
-- then by the position, and the property or the place, that it had when it was created
abbrev pub cancelled_standing : Subject → Gone → Standing
cancelled_standing (Property p) g = standing 1 g.generation g.position (number_of p)
cancelled_standing (Animation name) g = standing 3 g.generation g.position g.place

-- what occurs to a subject of an element, as its event
abbrev pub told_event : ℕ → Subject → Standing → Occurrence → Event
told_event element subject at o = record {
  element = element;
  subject = subject;
  kind = o.kind;
  elapsed = o.elapsed;
  key = record { time = o.time; class = at.class; first = at.first; second = at.second; third = at.third; kind = kind_number o.kind };
}

-- ---- cancelled items (CSS Transitions Level 2 and CSS Animations Level 2, "Event dispatch")

-- whether the cancel of what was last seen in this phase is told: it has been seen, and hadn't ended
abbrev pub is_cancel_told : Phase → Bool
is_cancel_told Idle = false
is_cancel_told Before = true
is_cancel_told Active = true
is_cancel_told After = false

-- what a cancelled item tells, once
abbrev pub cancel_occurrences : Gone → List Occurrence
cancel_occurrences g = (if is_cancel_told g.seen then occurrence Cancel g.elapsed.0 g.cancelled.0 ∷ [] else [])
