-- Looking up the transitions of a property.
use Rattle.std.proofs.Common.{◌≡◌, refl, sym, ◌∙◌, ap, inl, inr}
use Rattle.std.specs.Prelude.{◌⊎◌, ◌↔◌, Option, None, Some, IfSome, IsNone}
use Rattle.std.specs.List.{Contains}
use Rattle.value_types.specs.Properties.{number_of}
use Rattle.value_types.specs.declared.property.PropertyId.{PropertyId}
use Rattle.computed_style.proofs.Lookups.{found_has, found_kept, kept_found}
use Rattle.style_data.specs.declared.transition.Completed.{Completed}
use Rattle.style_data.specs.declared.transition.Transition.{Transition}
use Rattle.style_data.specs.Kept.{IsCompletedFor, IsKeptFor}
use Rattle.style_data.specs.TransitionSets.{AreTransitions, TransitionSet, completed_of, running_of}

pub is_running : (t : TransitionSet) (p : PropertyId) (r : Transition) → AreTransitions t → Contains t.running (p, r) ↔ (running_of t p ≡ Some r)
is_running t p r are = (λ has. kept_found t.running p r are.running_ascend has, λ e. found_kept t.running p r e)

pub is_completed : (t : TransitionSet) (p : PropertyId) (c : Completed) → AreTransitions t → Contains t.completed (p, c) ↔ (completed_of t p ≡ Some c)
is_completed t p c are = (λ has. kept_found t.completed p c are.completed_ascend has, λ e. found_kept t.completed p c e)

both : (t : TransitionSet) (p : PropertyId) (r : Transition) (c : Completed) → AreTransitions t → Contains t.running (p, r) → Contains t.completed (p, c) → ⊥
both t p r c are (i, li, ei) (j, lj, ej) =
    are.apart i (p, r) li j (p, c) lj (ap (λ k. number_of k.0) ei ∙ sym (ap (λ k. number_of k.0) ej))

pub one_of_both : (t : TransitionSet) (p : PropertyId) → AreTransitions t → IsNone (running_of t p) ⊎ IsNone (completed_of t p)
one_of_both t p are = go (running_of t p) refl (completed_of t p) refl where
  go : (r : Option Transition) → running_of t p ≡ r → (c : Option Completed) → completed_of t p ≡ c → IsNone r ⊎ IsNone c
  go None _ c _ = inl refl
  go (Some r) _ None _ = inr refl
  go (Some r) er (Some c) ec = absurd (both t p r c are (found_kept t.running p r er) (found_kept t.completed p c ec))

pub running_is_kept : (t : TransitionSet) (p : PropertyId) → AreTransitions t → IfSome (running_of t p) (IsKeptFor p)
running_is_kept t p are = found_has IsKeptFor t.running p (running_of t p) refl are.running

pub completed_is_kept : (t : TransitionSet) (p : PropertyId) → AreTransitions t → IfSome (completed_of t p) (IsCompletedFor p)
completed_is_kept t p are = found_has IsCompletedFor t.completed p (completed_of t p) refl are.completed
