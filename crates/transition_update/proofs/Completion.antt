-- What has completed and stays.
use Rattle.std.proofs.Common.{◌≡◌, refl, sym, ◌∙◌, ap, arith, inl, inr}
use Rattle.std.specs.Prelude.{◌⊎◌, ◌≢◌, Bool, true, false, Option, None, Some, IsNone, IsSome, IsSomeAnd}
use Rattle.interpolation.proofs.EqualityLemmas.{same_tells}
use Rattle.interpolation.specs.Equality.{is_same}
use Rattle.style_data.specs.declared.transition.Completed.{Completed}
use Rattle.value_types.specs.declared.value.Value.{Value}
use Rattle.transition_start.proofs.Rules.{applies}
use Rattle.transition_start.specs.Change.{Change}
use Rattle.transition_start.specs.Functions.{decision_of, rule_of}
use Rattle.transition_start.specs.Results.{decision_by}
use Rattle.transition_start.specs.Rules.{Applies, Rule, Unmatched, Starts, DropsCompleted, CancelsThere, CancelsAtOnce, Reverses, Replaces, Keeps}

-- values that can't differ are the same
not_apart : (a b : Value) → (a ≢ b → ⊥) → a ≡ b
not_apart a b never = go (is_same a b) refl where
  go : (t : Bool) → is_same a b ≡ t → a ≡ b
  go true e = (same_tells a b).0 e
  go false e = absurd (never (λ same. let h : true ≡ false = sym ((same_tells a b).1 same) ∙ e in cc))

some_of : {A : Type 0} (o : Option A) → (IsNone o → ⊥) → IsSome o
some_of None never = absurd (never refl)
some_of (Some x) never = refl

-- of a property that has completed nothing runs
no_running : (x : Change) (c : Completed) → IsNone x.running ⊎ IsNone x.completed → x.completed ≡ Some c → IsNone x.running
no_running x c (inl none) is = none
no_running x c (inr none) is = absurd (go x.completed is none) where
  go : (o : Option Completed) → o ≡ Some c → IsNone o → ⊥
  go None e n = cc
  go (Some d) e n = cc

pub completed_stays : (x : Change) (c : Completed) → IsNone x.running ⊎ IsNone x.completed → (decision_of x).completed ≡ Some c → (c.to ≡ x.event.after) × IsSome x.matched
unfolding decision_of
completed_stays x c one e = go (rule_of x) (applies x) e where
  there : (o : Option Completed) → o ≡ Some c → (c.to ≢ x.event.after) → IsSomeAnd o (λ d. d.to ≢ x.event.after)
  there None is apart = cc
  there (Some d) is apart = λ same. apart (let same_one : d ≡ c = cc in sym (ap (λ d. d.to) same_one) ∙ same)

  go : (rule : Rule) → Applies x rule → (decision_by x rule).completed ≡ Some c → (c.to ≡ x.event.after) × IsSome x.matched
  go Unmatched a is = cc
  go Starts a is = cc
  go DropsCompleted a is = cc
  go CancelsThere a is = cc
  go CancelsAtOnce a is = cc
  go Reverses a is = cc
  go Replaces a is = cc
  go Keeps a is = (
    not_apart c.to x.event.after (λ apart. a.first DropsCompleted (omega arith) (no_running x c one is, there x.completed is apart)),
    some_of x.matched (λ none. a.first Unmatched (omega arith) none),
  )
