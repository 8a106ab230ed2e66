-- The transitions of an element at a style change event (CSS Transitions 1, section 3 "Starting of transitions"): the rules are
-- applied to each property.
use Rattle.std.specs.Prelude.{ℤ, List, map, Option, option_map}
use Rattle.std.specs.List.{filter_map}
use Rattle.computed_style.specs.Styles.{ComputedStyle, value_of}
use Rattle.style_data.specs.TransitionSets.{TransitionSet, completed_of, running_of, transition_set}
use Rattle.style_data.specs.declared.decision.Decision.{Decision}
use Rattle.style_data.specs.declared.gone.Gone.{Gone}
use Rattle.transition_list.specs.Matching.{match_of}
use Rattle.transition_start.specs.Change.{Change, change_at, property_change}
use Rattle.transition_start.specs.Functions.{decision_of}
use Rattle.transition_start.specs.Results.{gone_item}
use Rattle.value_types.specs.Properties.{all_properties}
use Rattle.value_types.specs.declared.property.PropertyId.{PropertyId}
use Rattle.transition_update.specs.declared.event.StyleChangeEvent.{StyleChangeEvent}

-- the before-change and the after-change style of an element, and the moment of its style change event
pub record StyleChange : Type 0 where
  pub before : ComputedStyle
  pub after : ComputedStyle
  pub event : StyleChangeEvent

abbrev pub style_change : ComputedStyle → ComputedStyle → StyleChangeEvent → StyleChange
style_change before after event = record { before = before; after = after; event = event }

-- the change of one property, which the after-change lists match
abbrev pub change_of : StyleChange → TransitionSet → PropertyId → Change
change_of x ts p =
    change_at (property_change p (value_of x.before p) (value_of x.after p) x.event.time.0 x.event.generation x.event.position)
    (running_of ts p) (completed_of ts p) (match_of x.after.transitions p)

-- what the rules leave of one property's transitions
unfoldable pub decision_for : StyleChange → TransitionSet → PropertyId → Decision
decision_for x ts p = decision_of (change_of x ts p)

-- what properties have of it, in the order of their numbers
abbrev pub by_property : {A : Type 0} → (PropertyId → Option A) → List (PropertyId × A)
by_property has = filter_map (λ p. option_map (λ a. (p, a)) (has p)) all_properties

-- the transitions that the event leaves
abbrev pub transitions_after : StyleChange → TransitionSet → TransitionSet
transitions_after x ts = transition_set (by_property (λ p. (decision_for x ts p).running)) (by_property (λ p. (decision_for x ts p).completed))

-- those that it cancels, in the order of their properties
abbrev pub cancelled_by : StyleChange → TransitionSet → List Gone
cancelled_by x ts = filter_map (λ p. (decision_for x ts p).gone) all_properties

-- every running transition is cancelled at time t
abbrev pub all_cancelled : TransitionSet → ℤ → List Gone
all_cancelled ts t = map (λ r. gone_item r.0 r.1 t) ts.running
