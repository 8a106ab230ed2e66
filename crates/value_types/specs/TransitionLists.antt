-- The lists that time the transitions of an element (CSS Transitions 1, "Transitions").
use Rattle.std.specs.Prelude.{◌≤◌, List, [], ◌∷◌, length}
use Rattle.fix_num.specs.declared.units.Micros.{Micros}
use Rattle.timing_types.specs.declared.easing.Easing.{Easing}
use Rattle.timing_types.specs.declared.limits.TheConstants.{MAX_ITEMS}
use Rattle.timing_types.specs.Timing.{IsEasing, IsDuration, IsDelay, ease}
use Rattle.timing_types.specs.TimingLists.{IsListOf, no_time}
use Rattle.value_types.specs.declared.shorthand.PropertyItem.{PropertyItem}
use Rattle.value_types.specs.declared.shorthand.PropertyItem.TheVariants as item

-- the four lists that time transitions; no item of transition-property is the keyword none
pub record TransitionValues : Type 0 where
  pub items : List PropertyItem
  pub durations : List Micros
  pub delays : List Micros
  pub easings : List Easing

-- the lists keep their bounds, and only that of properties may be empty
pub record IsTransitionValues (v : TransitionValues) : Type 0 where
  pub items : length v.items ≤ MAX_ITEMS
  pub durations : IsListOf IsDuration v.durations
  pub delays : IsListOf IsDelay v.delays
  pub easings : IsListOf IsEasing v.easings

-- the four lists together
abbrev pub transition_values : List PropertyItem → List Micros → List Micros → List Easing → TransitionValues
transition_values items durations delays easings =
    record { items = items; durations = durations; delays = delays; easings = easings }

-- the initial values: all, 0s, 0s, ease
abbrev pub initial_transitions : TransitionValues
initial_transitions = transition_values (item.All ∷ []) (no_time ∷ []) (no_time ∷ []) (ease ∷ [])
