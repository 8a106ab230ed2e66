-- Ticks of which no two events have one key (Web Animations Level 1, "update animations and send events": the composite order tells all
-- animations apart).
use Rattle.std.specs.Prelude.{◌≢◌, ℕ, All, AllPairs, IsSome, List, ◌++◌, map}
use Rattle.std.specs.List.{flat_map}
use Rattle.doc_tree.specs.Element.{Document, position_of}
use Rattle.style_data.specs.Entries.{AreAscending, EntryParts}
use Rattle.style_data.specs.TransitionSets.{AreTransitions}
use Rattle.style_data.specs.declared.event.Event.{Event}
use Rattle.style_data.specs.declared.gone.Gone.{Gone}
use Rattle.ticker.specs.Events.{cancelled_standing}

-- events that stand at different places
abbrev pub KeysDiffer : Event → Event → Type 0
KeysDiffer a b = a.key ≢ b.key

-- cancelled items that differ in what they were created with: a frame, a position, and a property or a place
abbrev pub ItemsDiffer : Gone → Gone → Type 0
ItemsDiffer g h = cancelled_standing g.subject g ≢ cancelled_standing h.subject h

-- every cancelled item that waits for a tick
abbrev pub all_gone : List (ℕ × EntryParts) → List (ℕ × Gone) → List Gone
all_gone entries departed = flat_map (λ e. e.1.effects.gone) entries ++ map (λ d. d.1) departed

-- the entries are of different elements of the tree, their lists ascend, and no two cancelled items were created alike
pub record AreDistinct (tree : Document) (entries : List (ℕ × EntryParts)) (departed : List (ℕ × Gone)) : Type 0 where
  pub elements : AllPairs (λ d e. d.0 ≢ e.0) entries
  pub known : All (λ e. IsSome (position_of e.0 tree)) entries
  pub transitions : All (λ e. AreTransitions e.1.effects.transitions) entries
  pub animations : All (λ e. AreAscending e.1.effects.animations) entries
  pub items : AllPairs ItemsDiffer (all_gone entries departed)
