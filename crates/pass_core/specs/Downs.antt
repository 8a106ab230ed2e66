-- What is handed down in a pass in the order of its plan.
use Rattle.std.specs.Prelude.{ℕ, ◌+◌, ◌-◌, ◌==◌, Bool, List, [], ◌∷◌, ◌++◌, length, slice_get, Option, Some, option_to_list}
use Rattle.std.specs.Option.{option_and_then, option_map_or}
use Rattle.pass_core.specs.declared.plan.Place.{Place}

-- what is handed down at the top, and by those of the places so far that are no leaves: each of these has a seat in `kept`
pub record KeptDowns (D : Type 0) : Type 0 where
  pub top : D
  pub seats : List ℕ
  pub kept : List D

-- what place i hands down, where it is kept
abbrev pub down_at : {D : Type 0} → KeptDowns D → ℕ → Option D
down_at downs i = option_and_then (slice_get downs.kept) (slice_get downs.seats i)

-- what is handed down to a place: by its parent's, or at the top
abbrev pub down_for : {D : Type 0} → KeptDowns D → Place → Option D
down_for downs p = option_map_or (down_at downs) p.parent (Some downs.top)

-- what the place that came last hands down, where it is kept
abbrev pub last_down : {D : Type 0} → KeptDowns D → Option D
last_down downs = down_at downs (length downs.seats - 1)

-- the place, which comes next, is a leaf of the plan: its subtree ends right after it
abbrev pub is_leaf : {D : Type 0} → KeptDowns D → Place → Bool
is_leaf downs p = p.end == length downs.seats + 1

-- with what the next place hands down, which is kept unless it is a leaf
abbrev pub with_down : {D : Type 0} → KeptDowns D → Option D → KeptDowns D
with_down downs told = record { top = downs.top; seats = downs.seats ++ length downs.kept ∷ []; kept = downs.kept ++ option_to_list told }
