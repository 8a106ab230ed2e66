-- Passes: elements of a plan are updated in any order in which parents come before their children.
use Rattle.std.specs.Prelude.{◌≡◌, ℕ, ◌<◌, ◌≤◌, ◌==◌, Bool, true, false, not, ◌&&◌, if◌then◌else◌, List, [], ◌∷◌, ◌++◌, length, map, slice_get, slice_set, take, is_some, Option, None, Some, option_map}
use Rattle.std.specs.Option.{option_and_then, option_map_or}
use Rattle.std.specs.List.{list_any, list_all}
use Rattle.pass_core.specs.Work.{Meaning, down_of, entry_after}
use Rattle.pass_core.specs.Plans.{planned_place}
use Rattle.pass_core.specs.declared.event.CoreEvent.{CoreEvent}
use Rattle.pass_core.specs.declared.event.CoreEvent.TheVariants.{Update, Refuse}
use Rattle.pass_core.specs.declared.plan.Place.{Place}
use Rattle.pass_core.specs.declared.step.Step.{Step}
use Rattle.pass_core.specs.declared.step.Step.TheVariants.{Updated, Kept}

-- what stands for the element in a list by elements
abbrev pub value_for : {X : Type 0} → List (ℕ × X) → ℕ → Option X
value_for [] e = None
value_for (x ∷ xs) e = if x.0 == e then Some x.1 else value_for xs e

-- no element stands twice in the list
abbrev pub are_distinct : {X : Type 0} → List (ℕ × X) → Bool
are_distinct [] = true
are_distinct (x ∷ xs) = not (is_some (value_for xs x.0)) && are_distinct xs

-- the list with another value for the element
abbrev pub with_value : {X : Type 0} → List (ℕ × X) → ℕ → X → List (ℕ × X)
with_value [] e v = []
with_value (x ∷ xs) e v = if x.0 == e then (x.0, v) ∷ xs else x ∷ with_value xs e v

-- the index of the element in the list, where it stands there
abbrev pub IsIndexOf : {X : Type 0} → List (ℕ × X) → ℕ → Option ℕ → Type 0
IsIndexOf {X} xs e None = (v : X) → with_value xs e v ≡ xs
IsIndexOf {X} xs e (Some i) = (i < length xs) × ((v : X) → with_value xs e v ≡ slice_set xs i (e, v))

-- a pass that has come so far: the entries, and the elements that are done, in the order in which they were, with what they hand down
pub record PassState (E D : Type 0) : Type 0 where
  pub entries : List (ℕ × E)
  pub done : List (ℕ × D)

-- the pass with these entries, and these elements done
abbrev pub state_of : {E D : Type 0} → List (ℕ × E) → List (ℕ × D) → PassState E D
state_of entries done = record { entries = entries; done = done }

-- each element of the plan has an entry
abbrev pub have_entries : {X : Type 0} → List Place → List (ℕ × X) → Bool
have_entries places entries = list_all (λ p. is_some (value_for entries p.element)) places

-- ---- what the pass is to give

-- the result of a place is the outcome for its element, its opening entry, and what the parent's result hands down, or what is handed down at the top
pub data IsResult {E D : Type 0} (m : Meaning E D) (places : List Place) (opening : List (ℕ × E)) : Place → Step E D → Type 0 where
  at_top : (p : Place) (x : E) → p.parent ≡ None → value_for opening p.element ≡ Some x
      → IsResult m places opening p (m.outcome p.element x m.top)
  below : (p q : Place) (i : ℕ) (x : E) (s : Step E D) → p.parent ≡ Some i → slice_get places i ≡ Some q → IsResult m places opening q s
      → value_for opening p.element ≡ Some x → IsResult m places opening p (m.outcome p.element x (down_of s))

-- the pass has done element e: what it hands down and its entry are those of the result of its place
pub record IsDone {E D : Type 0} (m : Meaning E D) (places : List Place) (opening : List (ℕ × E)) (st : PassState E D) (e : ℕ) (d : D) : Type 0 where
  pub place : Place
  pub result : Step E D
  pub planned : planned_place places e ≡ Some place
  pub result_is : IsResult m places opening place result
  pub down_is : d ≡ down_of result
  pub entry_is : value_for st.entries e ≡ option_map (entry_after result) (value_for opening e)

-- a pass that began with these entries has done just what it had to, so far
pub record IsPass {E D : Type 0} (m : Meaning E D) (places : List Place) (opening : List (ℕ × E)) (st : PassState E D) : Type 0 where
  pub elements : map (λ x. x.0) st.entries ≡ map (λ x. x.0) opening
  pub updated : (e : ℕ) (d : D) → value_for st.done e ≡ Some d → IsDone m places opening st e d
  pub others : (e : ℕ) → value_for st.done e ≡ None → value_for st.entries e ≡ value_for opening e

-- the outcome of a pass: each element of the plan has the entry of its place's result, and the others are as they were
pub record IsPassOutcome {E D : Type 0} (m : Meaning E D) (places : List Place) (opening closing : List (ℕ × E)) : Type 0 where
  pub elements : map (λ x. x.0) closing ≡ map (λ x. x.0) opening
  pub planned : (e : ℕ) (p : Place) → planned_place places e ≡ Some p
      → (s : Step E D) × IsResult m places opening p s × (value_for closing e ≡ option_map (entry_after s) (value_for opening e))
  pub others : (e : ℕ) → planned_place places e ≡ None → value_for closing e ≡ value_for opening e

-- ---- schedules

-- the element is done
abbrev pub is_done : {D : Type 0} → List (ℕ × D) → ℕ → Bool
is_done done e = is_some (value_for done e)

-- the element at place i is done
abbrev pub is_done_at : {D : Type 0} → List Place → List (ℕ × D) → ℕ → Bool
is_done_at places done i = option_map_or (λ (q : Place). is_done done q.element) (slice_get places i) false

-- the element is in the plan and not done, and its parent is done or isn't in the plan
abbrev pub may_come : {D : Type 0} → List Place → List (ℕ × D) → ℕ → Bool
may_come places done e =
    option_map_or (λ (p : Place). not (is_done done e) && option_map_or (is_done_at places done) p.parent true) (planned_place places e) false

-- the element of an event
abbrev pub event_element : CoreEvent → ℕ
event_element (Update e) = e
event_element (Refuse e) = e

-- the event may happen
abbrev pub is_allowed : {D : Type 0} → List Place → List (ℕ × D) → CoreEvent → Bool
is_allowed places done event = may_come places done (event_element event)

-- what is handed down to a place
abbrev pub handed_to : {E D : Type 0} → Meaning E D → List Place → List (ℕ × D) → Place → Option D
handed_to m places done p =
    option_map_or (λ i. option_and_then (λ (q : Place). value_for done q.element) (slice_get places i)) p.parent (Some m.top)

-- the outcome of the element's update as the pass has come so far
abbrev pub outcome_at : {E D : Type 0} → Meaning E D → List Place → PassState E D → ℕ → Option (Step E D)
outcome_at m places st e =
    option_and_then (λ x. option_and_then (λ p. option_map (λ d. m.outcome e x d) (handed_to m places st.done p)) (planned_place places e)) (value_for st.entries e)

-- the pass with this outcome for the element
abbrev pub with_outcome : {E D : Type 0} → PassState E D → ℕ → Step E D → PassState E D
with_outcome st e (Updated x d) = record { entries = with_value st.entries e x; done = st.done ++ (e, d) ∷ [] }
with_outcome st e (Kept d) = record { entries = st.entries; done = st.done ++ (e, d) ∷ [] }

-- the pass after an event
abbrev pub after_event : {E D : Type 0} → Meaning E D → List Place → PassState E D → CoreEvent → PassState E D
after_event m places st (Update e) = option_map_or (with_outcome st e) (outcome_at m places st e) st
after_event m places st (Refuse e) = st

-- the pass after events in turn
abbrev pub after_events : {E D : Type 0} → Meaning E D → List Place → PassState E D → List CoreEvent → PassState E D
after_events m places st [] = st
after_events m places st (event ∷ events) = after_events m places (after_event m places st event) events

-- each of the events may happen in its turn
abbrev pub are_allowed : {E D : Type 0} → Meaning E D → List Place → PassState E D → List CoreEvent → Bool
are_allowed m places st [] = true
are_allowed m places st (event ∷ events) = is_allowed places st.done event && are_allowed m places (after_event m places st event) events

-- the events update the element
abbrev pub updates : ℕ → CoreEvent → Bool
updates e (Update n) = n == e
updates e (Refuse n) = false

-- they update every element of the plan
abbrev pub update_all : List Place → List CoreEvent → Bool
update_all places events = list_all (λ p. list_any (updates p.element) events) places

-- the pass is where some of the first events lead
abbrev pub IsAfterSome : {E D : Type 0} → Meaning E D → List Place → PassState E D → List CoreEvent → PassState E D → Type 0
IsAfterSome m places st events now = (k : ℕ) × (k ≤ length events) × (now ≡ after_events m places st (take k events))

-- the same entries, and the same handed down
pub record LeaveSame {E D : Type 0} (a b : PassState E D) : Type 0 where
  pub entries : a.entries ≡ b.entries
  pub downs : (e : ℕ) → value_for a.done e ≡ value_for b.done e
