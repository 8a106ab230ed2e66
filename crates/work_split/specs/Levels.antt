-- The levels of a plan.
use Rattle.std.specs.Prelude.{◌≡◌, ℕ, zero, suc, ◌+◌, ◌<◌, ◌==◌, Bool, false, if◌then◌else◌, List, [], ◌∷◌, length, slice_get, All, Any, None, Some, option_map}
use Rattle.std.specs.declared.vec.Vec.{Vec}
use Rattle.pass_core.specs.declared.plan.Place.{Place}
use Rattle.work_split.specs.declared.seat.Seat.{Seat}

-- the seats of level d, from 0
abbrev pub level_at : {X A : Type 0} → List (Vec X A) → ℕ → List X
level_at [] d = []
level_at (v ∷ vs) zero = v.items
level_at (v ∷ vs) (suc d) = level_at vs d

-- place i of the plan is a leaf: nothing lies below it
abbrev pub is_leaf_at : Place → ℕ → Bool
is_leaf_at p i = p.end == i + 1

-- place i of the plan is an inner one
abbrev pub IsInner : List Place → ℕ → Place → Type 0
IsInner places i p = (slice_get places i ≡ Some p) × (is_leaf_at p i ≡ false)

-- the slots of the inner places of a plan: each has one of so many, and no two have the same
pub record AreSlots (places : List Place) (inner : ℕ) (slot : ℕ → ℕ) : Type 0 where
  pub within : (i : ℕ) (p : Place) → IsInner places i p → slot i < inner
  pub apart : (i j : ℕ) (p q : Place) → IsInner places i p → IsInner places j q → slot i ≡ slot j → i ≡ j

-- the index of the element's place in the plan
abbrev pub place_index : List Place → ℕ → ℕ
place_index [] e = 0
place_index (p ∷ ps) e = if p.element == e then 0 else place_index ps e + 1

-- the index of the seat's place
abbrev pub seat_index : List Place → Seat → ℕ
seat_index places s = place_index places s.place.element

-- the seat is that of a place of the plan, its row is that of its element, its slot is the place's unless that is a leaf, and the one above is its parent's
pub record IsSeat (places : List Place) (elements : List ℕ) (slot : ℕ → ℕ) (s : Seat) : Type 0 where
  pub place : slice_get places (seat_index places s) ≡ Some s.place
  pub row : slice_get elements s.row ≡ Some s.place.element
  pub slot_is : s.slot ≡ (if is_leaf_at s.place (seat_index places s) then None else Some (slot (seat_index places s)))
  pub above_is : s.above ≡ option_map slot s.place.parent

-- the levels of a plan with so many inner places: each place has a seat in the level of its depth, and in no other, and a parent is less deep than its children
pub record AreLevels {A : Type 0} (places : List Place) (elements : List ℕ) (inner : ℕ) (levels : List (Vec Seat A)) : Type 0 where
  pub depth : ℕ → ℕ
  pub slot : ℕ → ℕ
  pub slots : AreSlots places inner slot
  pub seats : (d : ℕ) → All (λ s. IsSeat places elements slot s × (depth (seat_index places s) ≡ d)) (level_at levels d)
  pub each : (i : ℕ) → i < length places → Any (λ s. seat_index places s ≡ i) (level_at levels (depth i))
  pub below : (i j : ℕ) (p : Place) → slice_get places i ≡ Some p → p.parent ≡ Some j → depth j < depth i
