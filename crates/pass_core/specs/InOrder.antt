-- A pass in the order of its plan.
use Rattle.std.specs.Prelude.{◌≡◌, ℕ, Bool, List, slice_get, Option, Some, option_map}
use Rattle.std.specs.Option.{option_and_then}
use Rattle.pass_core.specs.Downs.{KeptDowns, is_leaf, down_for, last_down, with_down}
use Rattle.pass_core.specs.Passes.{value_for, with_value}
use Rattle.pass_core.specs.Work.{Meaning, asked, down_of}
use Rattle.pass_core.specs.declared.alone.Last.{Last}
use Rattle.pass_core.specs.declared.plan.Place.{Place}
use Rattle.pass_core.specs.declared.step.Step.{Step}
use Rattle.pass_core.specs.declared.step.Step.TheVariants.{Updated, Kept}

-- the outcome of the update of the place that comes next, as it is asked for
abbrev pub asked_of : {E D : Type 0} → Meaning E D → List (ℕ × E) → KeptDowns D → Place → Option (Step E (Option D))
asked_of m entries downs p =
    option_and_then (λ x. option_map (λ d. asked (is_leaf downs p) (m.outcome p.element x d)) (down_for downs p)) (value_for entries p.element)

-- the entries with what the step gives for the element
abbrev pub with_step : {E D : Type 0} → List (ℕ × E) → ℕ → Step E D → List (ℕ × E)
with_step entries e (Updated x d) = with_value entries e x
with_step entries e (Kept d) = entries

-- the step is noted for the element: its entry where it gives a new one, and what it hands down where it says so
pub record IsNoted {E D : Type 0} (entries : List (ℕ × E)) (downs : KeptDowns D) (e : ℕ) (step : Step E (Option D)) (entries_after : List (ℕ × E)) (downs_after : KeptDowns D) : Type 0 where
  pub entries_are : entries_after ≡ with_step entries e step
  pub downs_are : downs_after ≡ with_down downs (down_of step)

-- the step came last: its new entry stands at its index, and what it hands down is what the last place does
pub record CameLast {E D : Type 0} (entries : List (ℕ × E)) (downs : KeptDowns D) (last : Last E) (step : Step E (Option D)) : Type 0 where
  pub entry : E
  pub down : Option D
  pub step_is : step ≡ Updated entry down
  pub entry_is : slice_get entries last.at ≡ Some (last.place.element, entry)
  pub down_is : last_down downs ≡ down

-- the outcome of the place's update, from the entry before it and what is handed down to it, came last
pub record IsLast {E D : Type 0} (m : Meaning E D) (entries : List (ℕ × E)) (downs : KeptDowns D) (last : Last E) : Type 0 where
  pub handed : D
  pub leaf : Bool
  pub handed_is : down_for downs last.place ≡ Some handed
  pub came : CameLast entries downs last (asked leaf (m.outcome last.place.element last.before handed))
