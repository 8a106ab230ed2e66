-- Worlds in which no two transitions and no two animations were created alike (Web Animations 1, "update animations and send events": the composite
-- order tells all animations apart).
use Rattle.std.specs.Prelude.{◌≡◌, ◌≢◌, ℕ, ◌≤◌, All, AllPairs, List, ◌++◌, map}
use Rattle.std.specs.List.{flat_map}
use Rattle.doc_tree.specs.Element.{Document, numbers_of}
use Rattle.doc_tree.specs.Shape.{IsTree}
use Rattle.style_data.specs.Entries.{EffectLists, EntryParts}
use Rattle.style_data.specs.declared.animation.AnimationState.{AnimationState}
use Rattle.style_data.specs.declared.gone.Gone.{Gone}
use Rattle.style_data.specs.declared.transition.Transition.{Transition}
use Rattle.ticker.specs.Events.{cancelled_standing, standing}
use Rattle.ticker.specs.declared.event.Standing.{Standing}
use Rattle.value_types.specs.Properties.{number_of}
use Rattle.value_types.specs.declared.property.PropertyId.{PropertyId}
use Rattle.restyle.specs.Worlds.{WorldParts}

-- where each would stand in composite order if it were cancelled: by what it was created with, which is the number of its frame, the position of
-- its element then, and its property or its place then
abbrev pub origin_of_transition : PropertyId × Transition → Standing
origin_of_transition x = standing 1 x.1.generation x.1.position (number_of x.0)

abbrev pub origin_of_animation : AnimationState → Standing
origin_of_animation a = standing 3 a.generation a.position a.first_place

abbrev pub origin_of_gone : Gone → Standing
origin_of_gone g = cancelled_standing g.subject g

-- those of an element's effects
abbrev pub origins_of : EffectLists → List Standing
origins_of e = map origin_of_transition e.transitions.running ++ map origin_of_animation e.animations ++ map origin_of_gone e.gone

-- those of all entries, and of what departed
abbrev pub all_origins : List (ℕ × EntryParts) → List (ℕ × Gone) → List Standing
all_origins entries departed = flat_map (λ e. origins_of e.1.effects) entries ++ map (λ d. origin_of_gone d.1) departed

-- no two are alike, and each was created by one of the frames that there were
pub record AreOrigins (frames : ℕ) (origins : List Standing) : Type 0 where
  pub differ : AllPairs (λ a b. a ≢ b) origins
  pub created : All (λ o. o.first ≤ frames) origins

-- so of a world
abbrev pub IsDistinct : WorldParts → Type 0
IsDistinct w = AreOrigins w.frames (all_origins w.entries w.departed)

-- the entries are those of the document's elements, in tree order
abbrev pub AreInTreeOrder : Document → List (ℕ × EntryParts) → Type 0
AreInTreeOrder d entries = map (λ e. e.0) entries ≡ numbers_of d.elements

-- what holds of every world
pub record IsWorld (w : WorldParts) : Type 0 where
  pub tree : IsTree w.document
  pub order : AreInTreeOrder w.document w.entries
  pub distinct : IsDistinct w
