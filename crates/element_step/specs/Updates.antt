-- The update of an element at a style change event (CSS Transitions 1, section 3 "Starting of transitions"; CSS Animations 1, section 3).
use Rattle.std.specs.Prelude.{Bool, true, false, ◌==◌, ◌&&◌, ◌||◌, not, List, [], ◌++◌, length, Option, None, Some, option_map, if◌then◌else◌}
use Rattle.std.specs.List.{list_all}
use Rattle.std.specs.Option.{option_and_then, option_map_or}
use Rattle.std.specs.Bool.{beq}
use Rattle.fix_num.specs.declared.units.Fix.{Fix}
use Rattle.computed_style.specs.ComputedStyles.{AnimatedValues}
use Rattle.computed_style.specs.Styles.{ComputedStyle, inherited_of}
use Rattle.computed_style.specs.Winners.{Declarations}
use Rattle.computed_style.specs.declared.inherited.Down.{Down}
use Rattle.computed_style.specs.declared.inherited.InheritedValues.{InheritedValues}
use Rattle.change_styles.specs.Inheritance.{handed_down}
use Rattle.change_styles.specs.ThreeStyles.{after_change_style, before_change_style, current_style, no_animations}
use Rattle.style_data.specs.Entries.{EntryParts, effect_lists, entry_parts}
use Rattle.style_data.specs.TransitionSets.{TransitionSet, no_transitions}
use Rattle.style_data.specs.declared.animation.AnimationState.{AnimationState}
use Rattle.style_data.specs.declared.gone.Gone.{Gone}
use Rattle.transition_update.specs.Updates.{StyleChange, all_cancelled, cancelled_by, style_change, transitions_after}
use Rattle.transition_update.specs.declared.event.StyleChangeEvent.{StyleChangeEvent}
use Rattle.element_step.specs.Rendering.{is_rendered}
use Rattle.element_step.specs.Settling.{has_ended, have_same_values, is_same_inherited}

-- an element at a style change event: what is kept of it from the event before, its declarations of now, what its parent hands down,
-- what the animations of the event before and those of now give at this moment, the animations of now, the root's font size at the
-- event before, if there was one, and the moment
pub record ElementUpdate : Type 0 where
  pub entry : EntryParts
  pub declared : Declarations
  pub parent : Option Down
  pub old : AnimatedValues
  pub new : AnimatedValues
  pub animations : List AnimationState
  pub root_size : Option Fix
  pub event : StyleChangeEvent

abbrev pub element_update : EntryParts → Declarations → Option Down → AnimatedValues → AnimatedValues → List AnimationState → Option Fix → StyleChangeEvent → ElementUpdate
element_update entry declared parent old new animations root_size event =
    record {
      entry = entry;
      declared = declared;
      parent = parent;
      old = old;
      new = new;
      animations = animations;
      root_size = root_size;
      event = event;
    }

-- ---- what the parent hands down of each style

abbrev pub before_parent : Option Down → Option InheritedValues
before_parent parent = option_and_then (λ d. d.before) parent

abbrev pub after_parent : Option Down → Option InheritedValues
after_parent parent = option_map (λ d. d.after) parent

abbrev pub now_parent : Option Down → Option InheritedValues
now_parent parent = option_map (λ d. d.now) parent

-- ---- the element's own styles and transitions

abbrev pub rendered_after : ElementUpdate → Bool
rendered_after x = is_rendered x.declared x.parent

abbrev pub change_in : ElementUpdate → StyleChange
change_in x =
    style_change (before_change_style x.entry x.old x.event.time.0 (before_parent x.parent)) (after_change_style x.declared x.old (after_parent x.parent)) x.event

-- an element that is new, or wasn't rendered before, starts no transition
abbrev pub transitions_from : Bool → StyleChange → TransitionSet → TransitionSet
transitions_from was_rendered change ts = (if was_rendered then transitions_after change ts else no_transitions)

abbrev pub cancelled_from : Bool → StyleChange → TransitionSet → List Gone
cancelled_from was_rendered change ts = (if was_rendered then cancelled_by change ts else [])

-- the transitions that the event leaves: none of an element that isn't rendered
unfoldable pub transitions_of : ElementUpdate → TransitionSet
transitions_of x = (if rendered_after x then transitions_from x.entry.rendered (change_in x) x.entry.effects.transitions else no_transitions)

-- the transitions that the event cancels: all of an element that isn't rendered
unfoldable pub cancelled_of : ElementUpdate → List Gone
cancelled_of x =
    (if rendered_after x then cancelled_from x.entry.rendered (change_in x) x.entry.effects.transitions
    else all_cancelled x.entry.effects.transitions x.event.time.0)

-- the current style: one that isn't rendered has neither animations nor transitions
unfoldable pub now_of : ElementUpdate → ComputedStyle
now_of x =
    (if rendered_after x then current_style x.declared x.new (transitions_of x).running x.event.time.0 (now_parent x.parent)
    else current_style x.declared no_animations [] x.event.time.0 (now_parent x.parent))

-- the after-change style, which is the current one where the element isn't rendered
unfoldable pub after_of : ElementUpdate → ComputedStyle
after_of x = (if rendered_after x then after_change_style x.declared x.old (after_parent x.parent) else now_of x)

-- nothing will change by time alone: no transition runs, all animations have ended, and the after-change style is the current one
unfoldable pub settled_after : ElementUpdate → Bool
settled_after x =
    (length (transitions_of x).running == 0) && list_all (has_ended x.event.time.0) x.animations && have_same_values (after_of x) (now_of x)

-- ---- the entry

-- the element's entry after the event, which these animations ended at
unfoldable pub entry_after : ElementUpdate → List Gone → EntryParts
entry_after x gone =
    entry_parts true (rendered_after x) (settled_after x) x.declared (now_of x)
    (effect_lists (transitions_of x) x.animations (x.entry.effects.gone ++ cancelled_of x ++ gone))

-- ---- what it hands down

abbrev pub handed_before : ElementUpdate → Option InheritedValues
handed_before x =
    (if x.entry.rendered then Some (handed_down (before_parent x.parent) (before_change_style x.entry x.old x.event.time.0 (before_parent x.parent))) else None)

abbrev pub handed_after : ElementUpdate → InheritedValues
handed_after x = handed_down (if rendered_after x then after_parent x.parent else now_parent x.parent) (after_of x)

abbrev pub handed_now : ElementUpdate → InheritedValues
handed_now x = handed_down (now_parent x.parent) (now_of x)

-- what is handed down differs from what the current style of the event before handed down
abbrev pub differs : Option InheritedValues → InheritedValues → Bool
differs was now = option_map_or (λ i. not (is_same_inherited i now)) was true

-- what the current style of the event before handed down, if a frame has styled the root
abbrev pub handed_last : EntryParts → Option Fix → Option InheritedValues
handed_last entry root_size = option_map (inherited_of entry.now) root_size

-- the elements below have to be updated for its sake: no frame had styled it, one of its styles hands down something else than its
-- current style did, or it is rendered now and wasn't, or was and isn't
abbrev pub changed_from : EntryParts → Option Fix → Option InheritedValues → InheritedValues → InheritedValues → Bool → Bool
changed_from entry root_size before after now rendered =
    not entry.styled || option_map_or (differs (handed_last entry root_size)) before false || differs (handed_last entry root_size) after
    || differs (handed_last entry root_size) now || not (beq rendered entry.rendered)

-- what an element hands down of these
unfoldable pub down_with : EntryParts → Option Fix → Option InheritedValues → InheritedValues → InheritedValues → Bool → Down
down_with entry root_size before after now rendered = record {
  before = before;
  after = after;
  now = now;
  rendered = rendered;
  changed = changed_from entry root_size before after now rendered;
}

unfoldable pub down_after : ElementUpdate → Down
down_after x = down_with x.entry x.root_size (handed_before x) (handed_after x) (handed_now x) (rendered_after x)

-- what is handed down; of a leaf, below which nothing is updated, nobody asks for it
abbrev pub unless_leaf : {D : Type 0} → Bool → D → Option D
unless_leaf leaf down = (if leaf then None else Some down)

-- what an element hands down of these, where it is told what its after-change and its current style hand down
abbrev pub down_told : EntryParts → Option Fix → Option InheritedValues → Option InheritedValues → Option InheritedValues → Bool → Option Down
down_told entry root_size before after now rendered =
    option_and_then (λ a. option_map (λ n. down_with entry root_size before a n rendered) now) after
