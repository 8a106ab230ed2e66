-- A style change event over a whole document (CSS Transitions 1, section 3 "Starting of transitions"): the before-change, the after-change and the
-- current style of each element inherit from its parent's style of the same kind.
use Rattle.std.specs.Prelude.{ℕ, Bool, false, List, [], ◌∷◌, map, Option, None, Some, option_map, unwrap_or, if◌then◌else◌}
use Rattle.std.specs.Option.{option_and_then, option_map_or}
use Rattle.change_styles.specs.Inheritance.{Ancestors, inherited_from, with_child}
use Rattle.change_styles.specs.ThreeStyles.{before_change_style}
use Rattle.computed_style.specs.Styles.{ComputedStyle, font_size_of}
use Rattle.computed_style.specs.declared.inherited.Down.{Down}
use Rattle.doc_tree.specs.Element.{Document, Element, inclusive_ancestors, parent_of}
use Rattle.element_step.specs.Updates.{ElementUpdate, after_of, before_parent, now_of, rendered_after}
use Rattle.element_step.specs.Works.{DocumentEvent, document_event, entry_at, update_at}
use Rattle.fix_num.specs.declared.units.Fix.{Fix}
use Rattle.fix_num.specs.declared.units.Micros.{Micros}
use Rattle.pass_core.specs.Passes.{value_for}
use Rattle.sheet_types.specs.Sheets.{SheetRules}
use Rattle.style_data.specs.Entries.{EntryParts, fresh_entry}

-- ---- the styles of ancestors

-- the styles that an element stands under, of each kind those of the root and of the parent, with no before-change styles where the parent
-- wasn't rendered before the event; and whether the parent is rendered
pub record StylesAbove : Type 0 where
  pub before : Option Ancestors
  pub after : Ancestors
  pub now : Ancestors
  pub rendered : Bool

-- what is inherited from them
abbrev pub inherited_above : StylesAbove → Down
inherited_above above = record {
  before = option_map inherited_from above.before;
  after = inherited_from above.after;
  now = inherited_from above.now;
  rendered = above.rendered;
  changed = false;
}

-- the before-change style of an element
abbrev pub before_of : ElementUpdate → ComputedStyle
before_of x = before_change_style x.entry x.old x.event.time.0 (before_parent x.parent)

abbrev pub before_above : Option StylesAbove → Option Ancestors
before_above above = option_and_then (λ a. a.before) above

abbrev pub after_above : Option StylesAbove → Option Ancestors
after_above above = option_map (λ a. a.after) above

abbrev pub now_above : Option StylesAbove → Option Ancestors
now_above above = option_map (λ a. a.now) above

-- what its children stand under; the after-change style of an element that isn't rendered is its current style
unfoldable pub styles_below : Option StylesAbove → ElementUpdate → StylesAbove
styles_below above x = record {
  before = (if x.entry.rendered then Some (with_child (before_above above) (before_of x)) else None);
  after = with_child (if rendered_after x then after_above above else now_above above) (after_of x);
  now = with_child (now_above above) (now_of x);
  rendered = rendered_after x;
}

-- ---- elements

-- the entry of element n
abbrev pub entry_for : List (ℕ × EntryParts) → ℕ → EntryParts
entry_for entries n = unwrap_or (value_for entries n) fresh_entry

-- the update of element n, which stands under these
abbrev pub update_under : DocumentEvent → List (ℕ × EntryParts) → ℕ → Option StylesAbove → ElementUpdate
update_under w entries n above = update_at w n (entry_for entries n) (option_map inherited_above above)

-- what the children of the first of these elements stand under, where the others are its ancestors from its parent up
abbrev pub styles_along : DocumentEvent → List (ℕ × EntryParts) → List Element → Option StylesAbove
styles_along w entries [] = None
styles_along w entries (e ∷ above) =
    Some (styles_below (styles_along w entries above) (update_under w entries e.number (styles_along w entries above)))

-- the ancestors of element n, from its parent up (DOM, "ancestor")
abbrev pub ancestors_of : Document → ℕ → List Element
ancestors_of d n = option_map_or (inclusive_ancestors d.elements) (parent_of n d.elements) []

-- its entry after the event
abbrev pub entry_after_event : DocumentEvent → List (ℕ × EntryParts) → ℕ → EntryParts
entry_after_event w entries n =
    entry_at w n (entry_for entries n) (option_map inherited_above (styles_along w entries (ancestors_of w.document n)))

-- ---- frames

-- a document with the sheets of the event before and those of now, the entries of its elements in tree order, the time, and the number of the frame
pub record FrameParts : Type 0 where
  pub document : Document
  pub old : List (Option SheetRules)
  pub sheets : List (Option SheetRules)
  pub entries : List (ℕ × EntryParts)
  pub time : Micros
  pub generation : ℕ

abbrev pub frame_parts : Document → List (Option SheetRules) → List (Option SheetRules) → List (ℕ × EntryParts) → Micros → ℕ → FrameParts
frame_parts document old sheets entries time generation =
    record { document = document; old = old; sheets = sheets; entries = entries; time = time; generation = generation }

-- an entry for each element, which no frame has styled
abbrev pub fresh_entries : Document → List (ℕ × EntryParts)
fresh_entries d = map (λ e. (e.number, fresh_entry)) d.elements

-- the font size of the root, whose entry is the first, where a frame has styled it
abbrev pub root_size_of : List (ℕ × EntryParts) → Option Fix
root_size_of [] = None
root_size_of (x ∷ xs) = (if x.1.styled then Some (font_size_of x.1.now) else None)

-- the event of a frame
abbrev pub frame_event : FrameParts → DocumentEvent
frame_event f = document_event f.time f.generation f.document f.old f.sheets (root_size_of f.entries)

-- the frame after its style change event: each element has its entry after the event, the sheets of now are those of the event before,
-- and all else stays
unfoldable pub frame_after : FrameParts → FrameParts
frame_after f = record f { old = f.sheets; entries = map (λ x. (x.0, entry_after_event (frame_event f) f.entries x.0)) f.entries }
