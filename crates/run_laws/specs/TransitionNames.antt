-- Transitions by what each of their events tells (CSS Transitions Level 2, "Event dispatch"; "Animation composite order").
use Rattle.std.specs.Prelude.{ℕ, Bool, false, nat_eq, ◌&&◌, List, filter, map, if◌then◌else◌}
use Rattle.style_data.specs.declared.event.Event.{Event}
use Rattle.style_data.specs.declared.gone.Subject.{Subject}
use Rattle.style_data.specs.declared.gone.Subject.TheVariants.{Property, Animation}
use Rattle.value_types.specs.Properties.{number_of}
use Rattle.value_types.specs.declared.property.PropertyId.{PropertyId}
use Rattle.run_laws.specs.Occurrences.{Occurrence}

-- a transition by its element, its property and the number of the frame that started it: a frame starts one at most for a property of an element
pub record TransitionName : Type 0 where
  pub element : ℕ
  pub property : PropertyId
  pub generation : ℕ

-- the subject is the property
abbrev pub is_of_property : PropertyId → Subject → Bool
is_of_property p (Property q) = nat_eq (number_of q) (number_of p)
is_of_property p (Animation name) = false

-- the generation that a key of this class carries: of a transition with an owning element after the element's position, of one without first
abbrev pub generation_in : ℕ → ℕ → ℕ → ℕ
generation_in class first second = if nat_eq class 0 then second else first

-- the event is of this transition
unfoldable pub is_event_of : TransitionName → Event → Bool
is_event_of x e =
    nat_eq e.element x.element && (is_of_property x.property e.subject && nat_eq (generation_in e.key.class e.key.first e.key.second) x.generation)

-- those of these events that are of this transition
abbrev pub events_of_transition : TransitionName → List Event → List Event
events_of_transition x events = filter (is_event_of x) events

-- what an event tells: its kind, its elapsed time and its scheduled time
abbrev pub occurrence_told : Event → Occurrence
occurrence_told e = record { kind = e.kind; elapsed = e.elapsed; time = e.key.time }

-- what these events tell of a transition
abbrev pub told_of : TransitionName → List Event → List Occurrence
told_of x events = map occurrence_told (events_of_transition x events)
