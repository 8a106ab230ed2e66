-- Events in which some elements are as they were at the frame before, and so are the sheets.
use Rattle.std.specs.Prelude.{◌≡◌, ℕ, ℤ, nat_eq, Bool, true, not, List}
use Rattle.std.specs.List.{list_all, list_any}
use Rattle.doc_tree.specs.Element.{Document, inclusive_ancestors, is_in}
use Rattle.doc_tree.specs.Shape.{IsTree}
use Rattle.element_step.specs.Works.{DocumentEvent}
use Rattle.style_data.specs.Entries.{EntryParts}
use Rattle.ticker.specs.Ticks.{ticked_entry}
use Rattle.restyle.specs.Distinct.{AreInTreeOrder}
use Rattle.restyle.specs.StyleChanges.{FrameParts, entry_for, frame_after, frame_event}
use Rattle.restyle.specs.Worlds.{WorldParts}

-- neither element n nor an ancestor was touched
abbrev pub is_untouched : List ℕ → Document → ℕ → Bool
is_untouched touched d n = list_all (λ a. not (list_any (nat_eq a.number) touched)) (inclusive_ancestors d.elements n)

-- a frame's sheets are still those of the world, and each untouched element has the ancestors of then, and the entry that the frame left
pub record IsLeftByFrame (touched : List ℕ) (w : WorldParts) : Type 0 where
  pub last : FrameParts
  pub tree : IsTree last.document
  pub order : AreInTreeOrder last.document last.entries
  pub old : w.last_sheets ≡ last.sheets
  pub sheets : w.sheets ≡ last.sheets
  pub ancestors : (n : ℕ) → is_in n w.document.elements ≡ true → is_untouched touched w.document n ≡ true
      → inclusive_ancestors w.document.elements n ≡ inclusive_ancestors last.document.elements n
  pub entries : (n : ℕ) → is_in n w.document.elements ≡ true → is_untouched touched w.document n ≡ true
      → entry_for w.entries n ≡ entry_for (frame_after last).entries n

-- the event comes after a frame whose sheets are those of the event: each untouched element has the ancestors of then, and the entry that the
-- frame left, after a tick
pub record IsQuietEvent (touched : List ℕ) (w : DocumentEvent) (opening : List (ℕ × EntryParts)) : Type 0 where
  pub last : FrameParts
  pub tick : ℤ
  pub tree : IsTree last.document
  pub order : AreInTreeOrder last.document last.entries
  pub old : w.old ≡ last.sheets
  pub sheets : w.sheets ≡ last.sheets
  pub ancestors : (n : ℕ) → is_in n w.document.elements ≡ true → is_untouched touched w.document n ≡ true
      → inclusive_ancestors w.document.elements n ≡ inclusive_ancestors last.document.elements n
  pub entries : (n : ℕ) → is_in n w.document.elements ≡ true → is_untouched touched w.document n ≡ true
      → entry_for opening n ≡ (ticked_entry tick (n, entry_for (frame_after last).entries n)).1

-- so does the event of a frame
abbrev pub IsQuietFrame : List ℕ → FrameParts → Type 0
IsQuietFrame touched f = IsQuietEvent touched (frame_event f) f.entries
