-- The transitions of an element (CSS Transitions 1, section 3).
use Rattle.std.specs.Prelude.{◌≢◌, ℕ, zero, suc, ◌<◌, List, [], ◌∷◌, ◌++◌, All, AllPairs, Option, None, Some}
use Rattle.value_types.specs.Properties.{number_of}
use Rattle.value_types.specs.declared.property.PropertyId.{PropertyId}
use Rattle.computed_style.specs.ByProperty.{IsBefore, kept_for}
use Rattle.style_data.specs.declared.transition.Completed.{Completed}
use Rattle.style_data.specs.declared.transition.Phase.{Phase}
use Rattle.style_data.specs.declared.transition.Transition.{Transition}
use Rattle.style_data.specs.Kept.{IsCompletedFor, IsKeptFor}

-- the running and the completed transitions, each with its property
pub record TransitionSet : Type 0 where
  pub running : List (PropertyId × Transition)
  pub completed : List (PropertyId × Completed)

abbrev pub transition_set : List (PropertyId × Transition) → List (PropertyId × Completed) → TransitionSet
transition_set running completed = record { running = running; completed = completed }

-- both ascend by property, each is kept for its property, and no property has both
pub record AreTransitions (t : TransitionSet) : Type 0 where
  pub running : All (λ r. IsKeptFor r.0 r.1) t.running
  pub completed : All (λ c. IsCompletedFor c.0 c.1) t.completed
  pub running_ascend : AllPairs IsBefore t.running
  pub completed_ascend : AllPairs IsBefore t.completed
  pub apart : All (λ r. All (λ c. number_of r.0 ≢ number_of c.0) t.completed) t.running

-- the running transition of a property
abbrev pub running_of : TransitionSet → PropertyId → Option Transition
running_of t p = kept_for p t.running

-- the completed transition of a property
abbrev pub completed_of : TransitionSet → PropertyId → Option Completed
completed_of t p = kept_for p t.completed

-- ---- sets that are built property by property

abbrev pub no_transitions : TransitionSet
no_transitions = transition_set [] []

-- the property comes after those that have a transition
pub record ComesLast (p : PropertyId) (t : TransitionSet) : Type 0 where
  pub running : All (λ r. number_of r.0 < number_of p) t.running
  pub completed : All (λ c. number_of c.0 < number_of p) t.completed

-- a list with this after it, where there is one
abbrev pub with_last : {A : Type 0} → PropertyId → Option A → List (PropertyId × A) → List (PropertyId × A)
with_last p None kept = kept
with_last p (Some x) kept = kept ++ (p, x) ∷ []

-- the set with what is left of one more property
abbrev pub kept_with : TransitionSet → PropertyId → Option Transition → Option Completed → TransitionSet
kept_with t p running completed = transition_set (with_last p running t.running) (with_last p completed t.completed)

-- ---- what was seen of them

-- the item at a place of the list is changed so
abbrev pub with_changed_item : {A : Type 0} → (A → A) → List A → ℕ → List A
with_changed_item f [] i = []
with_changed_item f (x ∷ xs) zero = f x ∷ xs
with_changed_item f (x ∷ xs) (suc i) = x ∷ with_changed_item f xs i

-- the running transition at a place was last seen in this phase
abbrev pub seen_at : List (PropertyId × Transition) → ℕ → Phase → List (PropertyId × Transition)
seen_at running i seen = with_changed_item (λ r. (r.0, record r.1 { seen = seen })) running i

-- the set with that
abbrev pub with_seen : TransitionSet → ℕ → Phase → TransitionSet
with_seen t i seen = record t { running = seen_at t.running i seen }
