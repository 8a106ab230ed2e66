-- Worlds: a document with its sheets, the entries of its elements, its time, and its frames.
use Rattle.std.specs.Prelude.{ℕ, ◌+◌, pos, List, [], ◌++◌, map, Option}
use Rattle.std.specs.List.{flat_map}
use Rattle.animation_names.specs.Continuing.{cancelled_animation}
use Rattle.doc_tree.specs.Change.{empty_document}
use Rattle.doc_tree.specs.Element.{Document}
use Rattle.fix_num.specs.declared.units.Micros.{Micros}
use Rattle.sheet_types.specs.Sheets.{SheetRules, no_sheets}
use Rattle.style_data.specs.Entries.{EffectLists, EntryParts}
use Rattle.style_data.specs.declared.event.Event.{Event}
use Rattle.style_data.specs.declared.gone.Gone.{Gone}
use Rattle.ticker.specs.Ticks.{tick_events, ticked_entry}
use Rattle.transition_update.specs.Updates.{all_cancelled}
use Rattle.restyle.specs.StyleChanges.{FrameParts, entry_for, frame_after, frame_parts}

-- a document with the numbers used so far, the sheets of the last frame and those of now, the entries of its elements in tree order, what the
-- elements had that were removed since the last frame, the current time, and how many frames there were
pub record WorldParts : Type 0 where
  pub document : Document
  pub last_sheets : List (Option SheetRules)
  pub sheets : List (Option SheetRules)
  pub entries : List (ℕ × EntryParts)
  pub departed : List (ℕ × Gone)
  pub time : Micros
  pub frames : ℕ

abbrev pub world_parts : Document → List (Option SheetRules) → List (Option SheetRules) → List (ℕ × EntryParts) → List (ℕ × Gone) → Micros → ℕ → WorldParts
world_parts document last_sheets sheets entries departed time frames =
    record { document = document; last_sheets = last_sheets; sheets = sheets; entries = entries; departed = departed; time = time; frames = frames }

-- no element, no sheet, time 0, no frame
abbrev pub new_world : WorldParts
new_world = world_parts empty_document no_sheets no_sheets [] [] (record { 0 = pos 0 }) 0

-- ---- entries

-- the entries of the document's elements in tree order; an element that has none among these has one that no frame has styled
abbrev pub entries_of : Document → List (ℕ × EntryParts) → List (ℕ × EntryParts)
entries_of d entries = map (λ e. (e.number, entry_for entries e.number)) d.elements

-- the world with this document: each element keeps its entry
abbrev pub with_document : WorldParts → Document → WorldParts
with_document w d = record w { document = d; entries = entries_of d w.entries }

-- ---- elements that are removed

-- what waits for the next tick where these effects are cancelled at a time: what was cancelled before, and then the running transitions and the
-- animations (CSS Transitions 1, section 3; CSS Animations 1, section 3)
abbrev pub all_gone_at : Micros → EffectLists → List Gone
all_gone_at t e = e.gone ++ all_cancelled e.transitions t.0 ++ map (cancelled_animation t) e.animations

-- the same of the element of this number, among these entries
abbrev pub departed_of : List (ℕ × EntryParts) → Micros → ℕ → List (ℕ × Gone)
departed_of entries t n = map (λ g. (n, g)) (all_gone_at t (entry_for entries n).effects)

-- the same of all these elements, in this order
abbrev pub all_departed_of : List (ℕ × EntryParts) → Micros → List ℕ → List (ℕ × Gone)
all_departed_of entries t numbers = flat_map (departed_of entries t) numbers

-- ---- frames

-- the events of a frame: those of its tick
abbrev pub events_of_frame : WorldParts → List Event
events_of_frame w = tick_events w.document w.time.0 w.entries w.departed

-- the world after the tick
abbrev pub ticked_world : WorldParts → WorldParts
ticked_world w = record w { entries = map (ticked_entry w.time.0) w.entries; departed = [] }

-- what the style change event of the next frame is of
abbrev pub frame_of : WorldParts → FrameParts
frame_of w = frame_parts w.document w.last_sheets w.sheets w.entries w.time (w.frames + 1)

-- the world after a style change event of this frame
abbrev pub with_frame : WorldParts → FrameParts → WorldParts
with_frame w f = record w { last_sheets = f.old; entries = f.entries; frames = f.generation }

-- the world after a frame: a tick, and then a style change event
unfoldable pub world_after_frame : WorldParts → WorldParts
world_after_frame w = with_frame (ticked_world w) (frame_after (frame_of (ticked_world w)))
