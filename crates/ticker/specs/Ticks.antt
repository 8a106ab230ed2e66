-- Ticks: the phase of each transition and animation at a time is compared with the one last seen, and gives events (Web Animations Level
-- 1, "update animations and send events").
use Rattle.std.specs.Prelude.{ℕ, ℤ, int_le, List, [], ◌++◌, map, Option, None, Some, option_and_then, unwrap_or, if◌then◌else◌}
use Rattle.std.specs.List.{flat_map}
use Rattle.std.specs.Option.{option_or}
use Rattle.doc_tree.specs.Element.{Document, position_of}
use Rattle.style_data.specs.Entries.{EffectLists, EntryParts, effect_lists}
use Rattle.style_data.specs.TransitionSets.{TransitionSet, completed_of, running_of, transition_set}
use Rattle.style_data.specs.declared.animation.AnimationState.{AnimationState}
use Rattle.style_data.specs.declared.event.Event.{Event}
use Rattle.style_data.specs.declared.gone.Gone.{Gone}
use Rattle.style_data.specs.declared.gone.Subject.TheVariants.{Property, Animation}
use Rattle.style_data.specs.declared.transition.Completed.{Completed}
use Rattle.style_data.specs.declared.transition.Transition.{Transition}
use Rattle.transition_start.specs.Phase.{phase_of}
use Rattle.transition_update.specs.Updates.{by_property}
use Rattle.value_types.specs.declared.property.PropertyId.{PropertyId}
use Rattle.ticker.specs.AnimationEvents.{animation_occurrences, animation_phase, iteration_now}
use Rattle.ticker.specs.Events.{animation_standing, cancel_occurrences, cancelled_standing, told_event, transition_standing}
use Rattle.ticker.specs.TransitionEvents.{transition_occurrences}

-- ---- events

-- those of a running transition of the element of this number, at this position in tree order
abbrev pub transition_events : ℕ → ℕ → ℤ → PropertyId × Transition → List Event
transition_events element position t x =
    map (told_event element (Property x.0) (transition_standing position x.0 x.1)) (transition_occurrences x.1 x.1.seen (phase_of x.1 t))

-- those of an animation
abbrev pub animation_events : ℕ → ℕ → ℤ → AnimationState → List Event
animation_events element position t a =
    map (told_event element (Animation a.name) (animation_standing position a)) (animation_occurrences a t a.seen (animation_phase a t))

-- those of a cancelled transition or animation
abbrev pub cancel_events : ℕ → Gone → List Event
cancel_events element g = map (told_event element g.subject (cancelled_standing g.subject g)) (cancel_occurrences g)

-- those of an element's effects: of its transitions, of its animations, and of what was cancelled
abbrev pub effect_events : ℕ → ℕ → ℤ → EffectLists → List Event
effect_events element position t e =
    flat_map (transition_events element position t) e.transitions.running ++ flat_map (animation_events element position t) e.animations
    ++ flat_map (cancel_events element) e.gone

-- the element's position in tree order
abbrev pub position_in_tree : Document → ℕ → ℕ
position_in_tree tree element = unwrap_or (position_of element tree) 0

-- those of an element's entry
abbrev pub entry_events : Document → ℤ → ℕ × EntryParts → List Event
entry_events tree t e = effect_events e.0 (position_in_tree tree e.0) t e.1.effects

-- those of a tick: of all entries, and of what the removed elements had
abbrev pub tick_events : Document → ℤ → List (ℕ × EntryParts) → List (ℕ × Gone) → List Event
tick_events tree t entries departed = flat_map (entry_events tree t) entries ++ flat_map (λ d. cancel_events d.0 d.1) departed

-- ---- what stays

-- a running transition with its phase at time t as the one last seen
abbrev pub seen_in : ℤ → Transition → Transition
seen_in t r = record r { seen = phase_of r t }

-- the same of one with its property
abbrev pub seen_with_property : ℤ → PropertyId × Transition → PropertyId × Transition
seen_with_property t x = (x.0, seen_in t x.1)

-- a running transition at time t, as long as it hasn't ended
abbrev pub still_running : ℤ → Transition → Option Transition
still_running t r = (if int_le r.end.0 t then None else Some (seen_in t r))

-- a running transition at time t: completed, where it has ended
abbrev pub completed_by : ℤ → Transition → Option Completed
completed_by t r = (if int_le r.end.0 t then Some (record { to = r.to }) else None)

-- the running and the completed transition that a tick at time t leaves of a property
abbrev pub running_after : ℤ → TransitionSet → PropertyId → Option Transition
running_after t ts p = option_and_then (still_running t) (running_of ts p)

abbrev pub completed_after : ℤ → TransitionSet → PropertyId → Option Completed
completed_after t ts p = option_or (option_and_then (completed_by t) (running_of ts p)) (completed_of ts p)

-- the transitions that it leaves, property by property
abbrev pub ticked_transitions : ℤ → TransitionSet → TransitionSet
ticked_transitions t ts = transition_set (by_property (running_after t ts)) (by_property (completed_after t ts))

-- an animation with its phase and iteration at time t as those last seen
abbrev pub ticked_animation : ℤ → AnimationState → AnimationState
ticked_animation t a = record a { seen = animation_phase a t; iteration = iteration_now a t }

-- the effects after a tick: nothing cancelled is left
abbrev pub ticked_effects : ℤ → EffectLists → EffectLists
ticked_effects t e = effect_lists (ticked_transitions t e.transitions) (map (ticked_animation t) e.animations) []

-- the entry after a tick; all else of it stays
abbrev pub ticked_entry : ℤ → ℕ × EntryParts → ℕ × EntryParts
ticked_entry t e = (e.0, record e.1 { effects = ticked_effects t e.1.effects })

-- the entry with these running transitions, and with these animations
abbrev pub with_running : EntryParts → List (PropertyId × Transition) → EntryParts
with_running e running = record e { effects = record e.effects { transitions = record e.effects.transitions { running = running } } }

abbrev pub with_animations : EntryParts → List AnimationState → EntryParts
with_animations e animations = record e { effects = record e.effects { animations = animations } }
