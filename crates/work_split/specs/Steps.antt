-- The updates of a level.
use Rattle.std.specs.Prelude.{◌≡◌, ℕ, ◌<◌, List, [], ◌∷◌, slice_get, slice_set, is_none, Option, None, Some, IfSome, option_map}
use Rattle.std.specs.Option.{option_and_then}
use Rattle.std.specs.List.{AllZip}
use Rattle.pass_core.specs.Work.{asked, Meaning}
use Rattle.pass_core.specs.declared.step.Step.{Step}
use Rattle.pass_core.specs.declared.step.Step.TheVariants.{Updated, Kept}
use Rattle.work_split.specs.declared.seat.Seat.{Seat}

-- how far a pass has come: the entries, and by their slots what inner places hand down once they are done
pub record Reached (E D : Type 0) : Type 0 where
  pub entries : List (ℕ × E)
  pub downs : List D

-- the pass with these entries, and this handed down
abbrev pub reached : {E D : Type 0} → List (ℕ × E) → List D → Reached E D
reached entries downs = record { entries = entries; downs = downs }

-- the seat's indexes are below these numbers of entries and of slots
pub record IsSeatWithin (rows slots : ℕ) (s : Seat) : Type 0 where
  pub row : s.row < rows
  pub slot : IfSome s.slot (λ i. i < slots)
  pub above : IfSome s.above (λ i. i < slots)

-- what is handed down from the slot above a place, or at the top
abbrev pub handed : {D : Type 0} → D → List D → Option ℕ → Option D
handed top downs None = Some top
handed top downs (Some i) = slice_get downs i

-- the outcome of the update of the seat's element, as it is asked for
abbrev pub seat_outcome : {E D : Type 0} → Meaning E D → Reached E D → Seat → Option (Step E (Option D))
seat_outcome m r s =
    option_and_then (λ x. option_map (λ d. asked (is_none s.slot) (m.outcome s.place.element x.1 d)) (handed m.top r.downs s.above)) (slice_get r.entries s.row)

-- the step is the outcome of the update of the seat's element
abbrev pub IsStepOf : {E D : Type 0} → Meaning E D → Reached E D → Seat → Step E (Option D) → Type 0
IsStepOf m r s step = seat_outcome m r s ≡ Some step

-- with what a place hands down in its slot, where it has one and is told
abbrev pub put_down : {D : Type 0} → List D → Option ℕ → Option D → List D
put_down downs None down = downs
put_down downs (Some i) None = downs
put_down downs (Some i) (Some d) = slice_set downs i d

-- with the outcome of the seat's element
abbrev pub put : {E D : Type 0} → Seat → Step E (Option D) → Reached E D → Reached E D
put s (Updated x down) r = record { entries = slice_set r.entries s.row (s.place.element, x); downs = put_down r.downs s.slot down }
put s (Kept down) r = record { entries = r.entries; downs = put_down r.downs s.slot down }

-- with the outcomes of the seats in turn
abbrev pub put_all : {E D : Type 0} → List Seat → List (Step E (Option D)) → Reached E D → Reached E D
put_all [] steps r = r
put_all (s ∷ seats) [] r = r
put_all (s ∷ seats) (step ∷ steps) r = put_all seats steps (put s step r)

-- the outcomes of the level's updates, each from how far the pass had come before the level, are put
pub record LevelDone {E D : Type 0} (m : Meaning E D) (level : List Seat) (before now : Reached E D) : Type 0 where
  pub steps : List (Step E (Option D))
  pub outcomes : AllZip (IsStepOf m before) level steps
  pub now_is : now ≡ put_all level steps before
