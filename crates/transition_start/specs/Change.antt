-- The change of a property's value at a style change event (CSS Transitions 1, section 3 "Starting of transitions").
use Rattle.std.specs.Prelude.{ℕ, ℤ, pos, ◌+ℤ◌, Option}
use Rattle.std.specs.Int.{int_max}
use Rattle.style_data.specs.declared.transition.Completed.{Completed}
use Rattle.style_data.specs.declared.transition.Transition.{Transition}
use Rattle.style_data.specs.Transitions.{IsMoment}
use Rattle.transition_list.specs.declared.matched.MatchedItem.{MatchedItem}
use Rattle.value_types.specs.Validity.{IsValid}
use Rattle.value_types.specs.declared.property.PropertyId.{PropertyId}
use Rattle.value_types.specs.declared.value.Value.{Value}
use Rattle.transition_start.specs.declared.change.PropertyChange.{PropertyChange}

-- what the rules look at: the change of the property's value, the transition of it that runs and the one that has completed,
-- and the matching item
pub record Change : Type 0 where
  pub event : PropertyChange
  pub running : Option Transition
  pub completed : Option Completed
  pub matched : Option MatchedItem

abbrev pub change_at : PropertyChange → Option Transition → Option Completed → Option MatchedItem → Change
change_at event running completed matched = record { event = event; running = running; completed = completed; matched = matched }

-- the change of a property from one value to another
abbrev pub property_change : PropertyId → Value → Value → ℤ → ℕ → ℕ → PropertyChange
property_change property before after time generation position = record {
  property = property;
  before = before;
  after = after;
  time = record { 0 = time };
  generation = generation;
  position = position;
}

-- its values are values of the property, and its time a moment
pub record IsChange (e : PropertyChange) : Type 0 where
  pub before : IsValid e.property e.before
  pub after : IsValid e.property e.after
  pub time : IsMoment e.time.0

-- the sum of the matching duration, at least 0, and the matching delay
abbrev pub combined_duration : MatchedItem → ℤ
combined_duration m = int_max (pos 0) m.duration.0 +ℤ m.delay.0
