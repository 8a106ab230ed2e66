-- Sets of transitions that grow by one.
use Rattle.std.proofs.Common.{◌≡◌, ℕ, ◌<◌, arith}
use Rattle.std.specs.Prelude.{◌≢◌, All, get_or, [], ◌∷◌, ◌++◌}
use Rattle.std.proofs.lemmas.List.Elements.{All-push}
use Rattle.std.proofs.lemmas.List.Quantifiers.{all_pairs_push}
use Rattle.value_types.specs.Properties.{number_of}
use Rattle.value_types.specs.declared.property.PropertyId.{PropertyId}
use Rattle.style_data.specs.declared.transition.Completed.{Completed}
use Rattle.style_data.specs.declared.transition.Phase.{Phase}
use Rattle.style_data.specs.declared.transition.Transition.{Transition}
use Rattle.style_data.proofs.Changes.{All-with_changed_item, AllPairs-with_changed_item}
use Rattle.style_data.specs.Kept.{IsCompletedFor, IsKeptFor}
use Rattle.style_data.specs.TransitionSets.{AreTransitions, ComesLast, TransitionSet, transition_set, with_seen}
use Rattle.computed_style.specs.ByProperty.{IsBefore}

after : (m n : ℕ) → m < n → n ≡ m → ⊥
after m n less e = omega arith

before : (m n : ℕ) → m < n → m ≡ n → ⊥
before m n less e = omega arith

pub running_pushed : (t : TransitionSet) (p : PropertyId) (r : Transition) → AreTransitions t → ComesLast p t → IsKeptFor p r
    → AreTransitions (transition_set (t.running ++ (p, r) ∷ []) t.completed)
running_pushed t p r are last kept = record {
  running = All-push (λ x. IsKeptFor x.0 x.1) t.running (p, r) are.running kept;
  completed = are.completed;
  running_ascend = all_pairs_push IsBefore t.running (p, r) are.running_ascend last.running;
  completed_ascend = are.completed_ascend;
  apart = All-push (λ x. All (λ c. number_of x.0 ≢ number_of c.0) t.completed) t.running (p, r) are.apart (λ k d l. after _ _ (last.completed k d l));
}

pub completed_pushed : (t : TransitionSet) (p : PropertyId) (c : Completed) → AreTransitions t → ComesLast p t → IsCompletedFor p c
    → AreTransitions (transition_set t.running (t.completed ++ (p, c) ∷ []))
completed_pushed t p c are last kept = record {
  running = are.running;
  completed = All-push (λ x. IsCompletedFor x.0 x.1) t.completed (p, c) are.completed kept;
  running_ascend = are.running_ascend;
  completed_ascend = all_pairs_push IsBefore t.completed (p, c) are.completed_ascend last.completed;
  apart = λ k d l. All-push (λ x. number_of (get_or t.running k d).0 ≢ number_of x.0) t.completed (p, c) (are.apart k d l) (before _ _ (last.running k d l));
}

kept_seen : (p : PropertyId) (r : Transition) (seen : Phase) → IsKeptFor p r → IsKeptFor p (record r { seen = seen })
kept_seen p r seen kept = record { from = kept.from; to = kept.to; adjusted = kept.adjusted; way = kept.way }

pub seen_keeps : (t : TransitionSet) (i : ℕ) (seen : Phase) → AreTransitions t → AreTransitions (with_seen t i seen)
seen_keeps t i seen are =
    let f : PropertyId × Transition → PropertyId × Transition = λ r. (r.0, record r.1 { seen = seen }) in
    record {
      running = All-with_changed_item f (λ r. IsKeptFor r.0 r.1) (λ r k. kept_seen r.0 r.1 seen k) t.running i are.running;
      completed = are.completed;
      running_ascend = AllPairs-with_changed_item f IsBefore (λ x y r. r) (λ x y r. r) t.running i are.running_ascend;
      completed_ascend = are.completed_ascend;
      apart = All-with_changed_item f (λ r. All (λ c. number_of r.0 ≢ number_of c.0) t.completed) (λ r k. k) t.running i are.apart;
    }
