-- Elements at rest (CSS Transitions 1, section 3 "Starting of transitions"): transitions start where the before-change and the after-change style
-- differ, and these are the same where nothing has changed since the event before, for an element and for its ancestors.
use Rattle.std.specs.Prelude.{◌≡◌, ℕ, ◌+◌, List, All, IsSome}
use Rattle.doc_tree.specs.Element.{Document, inclusive_ancestors}
use Rattle.fix_num.specs.declared.units.Micros.{Micros}
use Rattle.style_data.specs.Entries.{EntryParts}
use Rattle.style_data.specs.TransitionSets.{no_transitions}
use Rattle.restyle.specs.StyleChanges.{FrameParts, entry_for, frame_after}

-- none of the element's transitions runs or has completed, and all its animations are paused
pub record IsStill (e : EntryParts) : Type 0 where
  pub transitions : e.effects.transitions ≡ no_transitions
  pub animations : All (λ a. IsSome a.hold) e.effects.animations

-- so it is of element n and of each of its ancestors
abbrev pub AreAtRest : Document → List (ℕ × EntryParts) → ℕ → Type 0
AreAtRest d entries n = All (λ a. IsStill (entry_for entries a.number)) (inclusive_ancestors d.elements n)

-- both entries are of an element that is styled and rendered alike, with the same declarations and the same current style
pub record GiveTheSame (was now : EntryParts) : Type 0 where
  pub styled : now.styled ≡ was.styled
  pub rendered : now.rendered ≡ was.rendered
  pub declared : now.declared ≡ was.declared
  pub style : now.now ≡ was.now

-- the frame that comes after this one, where nothing has changed but the time
abbrev pub quiet_frame : FrameParts → Micros → FrameParts
quiet_frame f t = record (frame_after f) { time = t; generation = f.generation + 1 }
