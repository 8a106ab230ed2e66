-- What a tick leaves of a property's transitions is kept for the property.
use Rattle.std.proofs.Common.{refl, inl, inr}
use Rattle.std.specs.Prelude.{◌⊎◌, ℤ, int_le, Bool, true, false, Option, None, Some, IfSome, IsNone, option_and_then, if◌then◌else◌}
use Rattle.std.specs.Option.{option_or}
use Rattle.style_data.proofs.Lookups.{one_of_both}
use Rattle.style_data.specs.Kept.{IsCompletedFor, IsKeptFor}
use Rattle.style_data.specs.TransitionSets.{AreTransitions, TransitionSet, completed_of, running_of}
use Rattle.style_data.specs.declared.transition.Completed.{Completed}
use Rattle.style_data.specs.declared.transition.Transition.{Transition}
use Rattle.value_types.specs.declared.property.PropertyId.{PropertyId}
use Rattle.ticker.specs.Ticks.{completed_after, completed_by, running_after, seen_in, still_running}

pub still_kept : (p : PropertyId) (t : ℤ) (r : Transition) → IsKeptFor p r → IfSome (still_running t r) (IsKeptFor p)
still_kept p t r kept = go (int_le r.end.0 t) where
  go : (b : Bool) → IfSome (if b then None else Some (seen_in t r)) (IsKeptFor p)
  go true = tt
  go false = record { from = kept.from; to = kept.to; adjusted = kept.adjusted; way = kept.way }

pub completed_kept : (p : PropertyId) (t : ℤ) (r : Transition) → IsKeptFor p r → IfSome (completed_by t r) (IsCompletedFor p)
completed_kept p t r kept = go (int_le r.end.0 t) where
  go : (b : Bool) → IfSome (if b then Some (record { to = r.to }) else None) (IsCompletedFor p)
  go true = kept.to
  go false = tt

-- a property that has a running transition after a tick has no completed one
pub one_after : (t : ℤ) (ts : TransitionSet) (p : PropertyId) → AreTransitions ts → IsNone (running_after t ts p) ⊎ IsNone (completed_after t ts p)
one_after t ts p are = go (running_of ts p) (completed_of ts p) (one_of_both ts p are) where
  over : (r : Transition) (b : Bool) → IsNone (if b then None else Some (seen_in t r)) ⊎ IsNone (option_or {T = Completed} (if b then Some (record { to = r.to }) else None) None)
  over r true = inl refl
  over r false = inr refl

  go : (r : Option Transition) (c : Option Completed) → IsNone r ⊎ IsNone c → IsNone (option_and_then (still_running t) r) ⊎ IsNone (option_or (option_and_then (completed_by t) r) c)
  go None c one = inl refl
  go (Some r) None one = over r (int_le r.end.0 t)
  go (Some r) (Some c) (inl none) = absurd (cc)
  go (Some r) (Some c) (inr none) = absurd (cc)
