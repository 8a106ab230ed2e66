-- The update of each element of a document at one style change event (CSS Transitions 1, section 3; CSS Animations 1, section 3).
use Rattle.std.specs.Prelude.{ℕ, Bool, true, false, List, [], Option, None, option_map, unwrap_or, if◌then◌else◌}
use Rattle.animation_names.specs.Samples.{samples_of}
use Rattle.animation_names.specs.Updates.{PairedLists, paired_of}
use Rattle.cascade_sort.specs.Winning.{declared_of}
use Rattle.computed_style.specs.ComputedStyles.{AnimatedValues, animation_lists_of}
use Rattle.computed_style.specs.Styles.{initial_inherited}
use Rattle.computed_style.specs.Winners.{Declarations}
use Rattle.computed_style.specs.declared.inherited.Down.{Down}
use Rattle.doc_tree.specs.Element.{Document, is_in, parent_of, position_of}
use Rattle.fix_num.specs.declared.units.Fix.{Fix}
use Rattle.fix_num.specs.declared.units.Micros.{Micros}
use Rattle.keyframes.specs.SampleLists.{value_of_samples}
use Rattle.pass_core.specs.Work.{Meaning}
use Rattle.pass_core.specs.declared.step.Step.{Step}
use Rattle.pass_core.specs.declared.step.Step.TheVariants.{Kept, Updated}
use Rattle.sheet_types.specs.Sheets.{SheetRules}
use Rattle.style_data.specs.Entries.{EntryParts}
use Rattle.style_data.specs.declared.animation.AnimationState.{AnimationState}
use Rattle.timing_types.specs.TimingLists.{AnimationValues, initial_animations}
use Rattle.transition_update.specs.declared.event.StyleChangeEvent.{StyleChangeEvent}
use Rattle.element_step.specs.Rendering.{is_rendered}
use Rattle.element_step.specs.Updates.{ElementUpdate, down_after, element_update, entry_after}

-- a style change event of a document: its moment, the number of its frame, the elements, the sheets of the event before and those of now, and
-- the root's font size at the event before, if there was one
pub record DocumentEvent : Type 0 where
  pub time : Micros
  pub generation : ℕ
  pub document : Document
  pub old : List (Option SheetRules)
  pub sheets : List (Option SheetRules)
  pub root_size : Option Fix

abbrev pub document_event : Micros → ℕ → Document → List (Option SheetRules) → List (Option SheetRules) → Option Fix → DocumentEvent
document_event time generation document old sheets root_size =
    record { time = time; generation = generation; document = document; old = old; sheets = sheets; root_size = root_size }

-- the event at element n, whose tree position a new transition or animation notes
abbrev pub event_at : DocumentEvent → ℕ → StyleChangeEvent
event_at w n = record { time = w.time; generation = w.generation; position = unwrap_or (position_of n w.document) 0 }

-- ---- animations

-- what animations give over the sheets' keyframes rules at this moment
abbrev pub animated_values_in : DocumentEvent → List (Option SheetRules) → List AnimationState → AnimatedValues
animated_values_in w sheets animations = value_of_samples (samples_of animations sheets w.time.0)

-- the animations that may go on: none where the element is rendered again
abbrev pub animations_before : Bool → EntryParts → List AnimationState
animations_before rendered entry = (if rendered then if entry.rendered then entry.effects.animations else [] else entry.effects.animations)

-- the lists that time its animations; an element that isn't rendered has no animation
abbrev pub animation_lists_after : Bool → Declarations → AnimationValues
animation_lists_after rendered d = (if rendered then animation_lists_of d else initial_animations)

-- the animations after the event, and those that end at it
unfoldable pub animations_updated : DocumentEvent → StyleChangeEvent → Bool → EntryParts → Declarations → PairedLists
animations_updated w event rendered entry d =
    paired_of (animations_before rendered entry) (animation_lists_after rendered d) w.sheets event.time event.generation event.position

-- ---- one element

-- what element n declares
abbrev pub element_declarations : DocumentEvent → ℕ → Declarations
element_declarations w n = declared_of w.sheets w.document.elements n

-- its animations after the event where it declares d, under a parent that hands this down
abbrev pub paired_with : DocumentEvent → ℕ → EntryParts → Declarations → Option Down → PairedLists
paired_with w n entry d parent = animations_updated w (event_at w n) (is_rendered d parent) entry d

-- its update where it declares d
abbrev pub update_with : DocumentEvent → ℕ → EntryParts → Declarations → Option Down → ElementUpdate
update_with w n entry d parent =
    element_update entry d parent (animated_values_in w w.old entry.effects.animations) (animated_values_in w w.sheets (paired_with w n entry d parent).animations)
    (paired_with w n entry d parent).animations w.root_size (event_at w n)

-- the same, where it declares what it does
abbrev pub paired_at : DocumentEvent → ℕ → EntryParts → Option Down → PairedLists
paired_at w n entry parent = paired_with w n entry (element_declarations w n) parent

unfoldable pub update_at : DocumentEvent → ℕ → EntryParts → Option Down → ElementUpdate
update_at w n entry parent = update_with w n entry (element_declarations w n) parent

-- its entry after the event
abbrev pub entry_at : DocumentEvent → ℕ → EntryParts → Option Down → EntryParts
entry_at w n entry parent = entry_after (update_at w n entry parent) (paired_at w n entry parent).gone

-- the same where it declares d
abbrev pub entry_with : DocumentEvent → ℕ → EntryParts → Declarations → Option Down → EntryParts
entry_with w n entry d parent = entry_after (update_with w n entry d parent) (paired_with w n entry d parent).gone

-- what it hands down where it declares d
abbrev pub handed_with : DocumentEvent → ℕ → EntryParts → Declarations → Option Down → Down
handed_with w n entry d parent = down_after (update_with w n entry d parent)

-- what it hands down
abbrev pub handed_by : DocumentEvent → ℕ → EntryParts → Option Down → Down
handed_by w n entry parent = down_after (update_at w n entry parent)

-- ---- the work

-- what the parent hands down; the root has no parent
abbrev pub from_parent : DocumentEvent → ℕ → Down → Option Down
from_parent w n down = option_map (λ _. down) (parent_of n w.document.elements)

-- the outcome of an element's update; an element that isn't in the tree stays as it is
unfoldable pub outcome_in : DocumentEvent → ℕ → EntryParts → Down → Step EntryParts Down
outcome_in w n entry down =
    (if is_in n w.document.elements then Updated (entry_at w n entry (from_parent w n down)) (handed_by w n entry (from_parent w n down)) else Kept down)

-- the same of an element that declares d
unfoldable pub outcome_with : DocumentEvent → ℕ → EntryParts → Declarations → Down → Step EntryParts Down
outcome_with w n entry d down =
    (if is_in n w.document.elements then Updated (entry_with w n entry d (from_parent w n down)) (handed_with w n entry d (from_parent w n down)) else Kept down)

-- what stands above the document: the initial values
abbrev pub top_down : Down
top_down = record { before = None; after = initial_inherited; now = initial_inherited; rendered = true; changed = false }

abbrev pub element_meaning : DocumentEvent → Meaning EntryParts Down
element_meaning w = record { outcome = outcome_in w; top = top_down }
