-- Properties of which nothing starts and nothing changes.
use Rattle.std.specs.Prelude.{◌≡◌, None}
use Rattle.computed_style.specs.Styles.{ComputedStyle, value_of}
use Rattle.style_data.specs.TransitionSets.{TransitionSet, completed_of, running_of}
use Rattle.value_types.specs.declared.property.PropertyId.{PropertyId}

-- no transition of the property runs, and none has completed
pub record HasNone (ts : TransitionSet) (p : PropertyId) : Type 0 where
  pub running : running_of ts p ≡ None
  pub completed : completed_of ts p ≡ None

-- and its value is the same before and after the change
pub record IsIdle (before after : ComputedStyle) (ts : TransitionSet) (p : PropertyId) : Type 0 where
  pub none : HasNone ts p
  pub same : value_of before p ≡ value_of after p

-- each property without a transition has the same value before and after the change
abbrev pub AreOthersSame : ComputedStyle → ComputedStyle → TransitionSet → Type 0
AreOthersSame before after ts = (p : PropertyId) → HasNone ts p → value_of before p ≡ value_of after p
