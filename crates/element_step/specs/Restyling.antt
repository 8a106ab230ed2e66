-- What a style change event makes of an element's styles and transitions.
use Rattle.std.specs.Prelude.{◌≡◌, Bool, true, List, Option, not}
use Rattle.std.specs.List.{list_all}
use Rattle.computed_style.specs.Styles.{ComputedStyle}
use Rattle.computed_style.specs.Winners.{Declarations}
use Rattle.computed_style.specs.declared.inherited.Down.{Down}
use Rattle.style_data.specs.Entries.{EntryParts}
use Rattle.style_data.specs.TransitionSets.{TransitionSet}
use Rattle.style_data.specs.declared.transition.Transition.{Transition}
use Rattle.transition_update.specs.Staying.{AllStay}
use Rattle.value_types.specs.Table.{is_inherited}
use Rattle.value_types.specs.declared.property.PropertyId.{PropertyId}
use Rattle.element_step.specs.Updates.{ElementUpdate, after_parent, before_parent, cancelled_of, down_after, now_of, settled_after, transitions_of, unless_leaf}
use Rattle.element_step.specs.declared.restyle.Restyled.{Restyled}

-- the element's current style, what is left of its transitions and what is cancelled, whether it is settled, and what it hands
-- down, unless it is a leaf, are those of its update
pub record IsRestyled (leaf : Bool) (x : ElementUpdate) (r : Restyled) : Type 0 where
  pub now : r.now ≡ now_of x
  pub transitions : r.transitions ≡ transitions_of x
  pub gone : r.gone.items ≡ cancelled_of x
  pub settled : r.settled ≡ settled_after x
  pub down : r.down ≡ unless_leaf leaf (down_after x)

-- what the element declares, and what its before-change style inherits, is what its after-change style is of
pub record IsUnchanged (entry : EntryParts) (d : Declarations) (parent : Option Down) : Type 0 where
  pub declared : entry.declared ≡ d
  pub inherited : before_parent parent ≡ after_parent parent

-- no transition of an inherited property runs
abbrev pub none_inherited : List (PropertyId × Transition) → Bool
none_inherited running = list_all (λ r. not (is_inherited r.0)) running

-- no transition of an inherited property runs, and all stay as they are where nothing else changes
pub record RunOn (after : ComputedStyle) (ts : TransitionSet) : Type 0 where
  pub inherited : none_inherited ts.running ≡ true
  pub stay : AllStay after ts
