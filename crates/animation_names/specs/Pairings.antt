-- Which animations of an element the names of a new list keep (CSS Animations Level 1, "The animation-name property"; which one of several
-- with one name is this project's own rule).
use Rattle.std.specs.Prelude.{◌≡◌, ◌≢◌, ℕ, ◌<◌, List, Option, None, Some}

-- both are this name
abbrev pub HaveOneName : Option (List ℕ) → Option (List ℕ) → Type 0
HaveOneName a b = (name : List ℕ) × (a ≡ Some name) × (b ≡ Some name)

-- an animation of the old list stands after the one that is taken; all do where none is
abbrev pub StandsAfter : Option ℕ → ℕ → Type 0
StandsAfter None j = Unit {0}
StandsAfter (Some i) j = i < j

-- which animation of the old list each place of the new one takes, from the end of the new list on: one of its name that no later
-- place takes, and of these the one that stands last. What stands after it, or all of the name where it takes none, is taken by later places.
pub record IsPairing (new old : ℕ → Option (List ℕ)) (takes : ℕ → Option ℕ) : Type 0 where
  pub named : (i j : ℕ) → takes i ≡ Some j → HaveOneName (new i) (old j)
  pub once : (i k j : ℕ) → i < k → takes k ≡ Some j → takes i ≢ Some j
  pub last : (i j : ℕ) → HaveOneName (new i) (old j) → StandsAfter (takes i) j → (k : ℕ) × (i < k) × (takes k ≡ Some j)
