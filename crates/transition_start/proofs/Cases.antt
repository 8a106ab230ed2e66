-- Decisions in single cases.
use Rattle.std.proofs.Common.{◌≡◌, ◌<◌, refl, ap, arith, inl, inr}
use Rattle.std.specs.Prelude.{◌⊎◌, Option, None, Some, IsNone}
use Rattle.transition_list.specs.declared.matched.MatchedItem.{MatchedItem}
use Rattle.style_data.specs.declared.transition.Completed.{Completed}
use Rattle.style_data.specs.declared.transition.Transition.{Transition}
use Rattle.transition_start.specs.declared.change.PropertyChange.{PropertyChange}
use Rattle.transition_start.specs.Change.{change_at}
use Rattle.transition_start.specs.Functions.{decision_of, rule_of}
use Rattle.transition_start.specs.Results.{decision_by, decision_with}
use Rattle.transition_start.specs.Rules.{CancelsAtOnce, CancelsThere, DropsCompleted, Keeps, Replaces, Reverses, Rule, Starts, Unmatched, Wants, rank}
use Rattle.transition_start.proofs.Rules.{applies, only_one}

-- a completed transition to the after-change value: no rule but the last applies
no_other : (e : PropertyChange) (c : Completed) (m : MatchedItem) → c.to ≡ e.after → (other : Rule) → rank other < rank Keeps
    → Wants (change_at e None (Some c) (Some m)) other → ⊥
no_other e c m there Unmatched less wants = cc
no_other e c m there Starts less (_, (_, (_, (elsewhere, _)))) = elsewhere there
no_other e c m there DropsCompleted less (_, elsewhere) = elsewhere there
no_other e c m there CancelsThere less wants = wants
no_other e c m there CancelsAtOnce less wants = wants
no_other e c m there Reverses less wants = wants
no_other e c m there Replaces less wants = wants
no_other e c m there Keeps less wants = absurd (omega arith)

pub completed_there : (e : PropertyChange) (c : Completed) (m : MatchedItem) → c.to ≡ e.after
    → decision_of (change_at e None (Some c) (Some m)) ≡ decision_with None (Some c) None
unfolding decision_of
completed_there e c m there =
    let x = change_at e None (Some c) (Some m) in
    ap (decision_by x) (only_one x (rule_of x) Keeps (applies x) (record { wants = tt; first = no_other e c m there }))

pub same_change : (e : PropertyChange) (r s : Option Transition) (c d : Option Completed) (m n : Option MatchedItem) → r ≡ s → c ≡ d → m ≡ n
    → decision_of (change_at e r c m) ≡ decision_of (change_at e s d n)
same_change e r s c d m n p q o = rw (p, q, o) refl

pub none_is : {A : Type 0} (o : Option A) → IsNone o → o ≡ None
none_is None e = refl
none_is (Some x) e = cc

pub other_none : {A B : Type 0} (o : Option A) (p : Option B) (x : A) → o ≡ Some x → IsNone o ⊎ IsNone p → p ≡ None
other_none o p x some (inl none) = cc
other_none o p x some (inr none) = none_is p none

-- nothing runs, nothing has completed, and the value stays: at most the rule without a match applies
idle_other : (e : PropertyChange) (m : MatchedItem) → e.before ≡ e.after → (other : Rule) → rank other < rank Keeps
    → Wants (change_at e None None (Some m)) other → ⊥
idle_other e m same Unmatched less wants = cc
idle_other e m same Starts less (_, (differ, _)) = differ same
idle_other e m same DropsCompleted less (_, elsewhere) = elsewhere
idle_other e m same CancelsThere less wants = wants
idle_other e m same CancelsAtOnce less wants = wants
idle_other e m same Reverses less wants = wants
idle_other e m same Replaces less wants = wants
idle_other e m same Keeps less wants = absurd (omega arith)

pub nothing_there : (e : PropertyChange) (m : Option MatchedItem) → e.before ≡ e.after
    → decision_of (change_at e None None m) ≡ decision_with None None None
unfolding decision_of
nothing_there e None same =
    let x = change_at e None None None in
    ap (decision_by x) (only_one x (rule_of x) Unmatched (applies x) (record { wants = refl; first = λ other less wants. absurd (omega arith) }))
nothing_there e (Some m) same =
    let x = change_at e None None (Some m) in
    ap (decision_by x) (only_one x (rule_of x) Keeps (applies x) (record { wants = tt; first = idle_other e m same }))

-- a transition that runs to the after-change value: no rule but the last applies
running_other : (e : PropertyChange) (r : Transition) (m : MatchedItem) → r.to ≡ e.after → (other : Rule) → rank other < rank Keeps
    → Wants (change_at e (Some r) None (Some m)) other → ⊥
running_other e r m there Unmatched less wants = cc
running_other e r m there Starts less (none, _) = cc
running_other e r m there DropsCompleted less (none, _) = cc
running_other e r m there CancelsThere less (elsewhere, _) = elsewhere there
running_other e r m there CancelsAtOnce less (elsewhere, _) = elsewhere there
running_other e r m there Reverses less (elsewhere, _) = elsewhere there
running_other e r m there Replaces less (elsewhere, _) = elsewhere there
running_other e r m there Keeps less wants = absurd (omega arith)

pub runs_there : (e : PropertyChange) (r : Transition) (m : MatchedItem) → r.to ≡ e.after
    → decision_of (change_at e (Some r) None (Some m)) ≡ decision_with (Some r) None None
unfolding decision_of
runs_there e r m there =
    let x = change_at e (Some r) None (Some m) in
    ap (decision_by x) (only_one x (rule_of x) Keeps (applies x) (record { wants = tt; first = running_other e r m there }))
