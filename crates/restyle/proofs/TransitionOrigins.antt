-- Of each property a style change event leaves the running transition or cancels it, and starts one at most.
use Rattle.std.proofs.Common.{◌≡◌, ap, sym, refl, arith, inl, inr, ℕ, ◌+◌, ◌≤◌, List, Bool, true, false, Option, None, Some}
use Rattle.std.specs.Prelude.{ℤ, option_and_then, option_map, if◌then◌else◌}
use Rattle.std.specs.List.{filter_map}
use Rattle.element_step.specs.Updates.{ElementUpdate, cancelled_from, cancelled_of, change_in, rendered_after, transitions_from, transitions_of}
use Rattle.style_data.specs.TransitionSets.{TransitionSet, no_transitions, running_of}
use Rattle.style_data.specs.declared.transition.Transition.{Transition}
use Rattle.ticker.specs.Events.{standing}
use Rattle.ticker.specs.declared.event.Standing.{Standing}
use Rattle.transition_start.specs.Change.{Change}
use Rattle.transition_start.specs.Functions.{decision_of, rule_of}
use Rattle.transition_start.specs.Results.{decision_by, gone_item, new_transition, reversing_transition}
use Rattle.transition_start.specs.Rules.{Rule, Unmatched, Starts, DropsCompleted, CancelsThere, CancelsAtOnce, Reverses, Replaces, Keeps}
use Rattle.transition_start.specs.Sampling.{sample_of}
use Rattle.transition_update.specs.Updates.{StyleChange, all_cancelled, cancelled_by, change_of, decision_for, transitions_after}
use Rattle.value_types.specs.Properties.{all_properties, number_of}
use Rattle.value_types.specs.declared.property.PropertyId.{PropertyId}
use Rattle.restyle.proofs.EffectCounts.{count_for, counted_by_property, gone_count, kept_no_more, of_these, properties_count_up, transition_count}
use Rattle.restyle.proofs.OriginCounts.{CountUp, given, is_one, none_of_other, one_cases, total, total-filter_map, total-map, total-nil, total-no_more, total-one}

-- ---- one property

-- 1 where it is the origin of what the event starts for the property
abbrev pub new_for : Standing → Change → ℕ
new_for s x = is_one s (standing 1 x.event.generation x.event.position (number_of x.event.property))

cancelled_count : (s : Standing) (p : PropertyId) (t : ℤ) (o : Option Transition) → given (gone_count s) (option_map (λ r. gone_item p r t) o) ≡ count_for s p o
cancelled_count s p t None = refl
cancelled_count s p t (Some r) = refl

-- what has the frame and the position of the event
made_count : {M : Type 0} (s : Standing) (x : Change) (f : M → Transition) (o : Option M)
    → ((m : M) → ((f m).generation ≡ x.event.generation) × ((f m).position ≡ x.event.position)) → count_for s x.event.property (option_map f o) ≤ new_for s x
made_count s x f None made = omega arith
made_count s x f (Some m) made =
    omega (
      arith,
      ap (λ g. is_one s (standing 1 g (f m).position (number_of x.event.property))) (made m).0,
      ap (λ k. is_one s (standing 1 x.event.generation k (number_of x.event.property))) (made m).1,
    )

instead_count : (s : Standing) (x : Change) (f : Transition → Option Transition) (r : Option Transition)
    → ((r : Transition) → count_for s x.event.property (f r) ≤ new_for s x) → count_for s x.event.property (option_and_then f r) ≤ new_for s x
instead_count s x f None made = omega arith
instead_count s x f (Some r) made = made r

-- by each rule
decided_count : (s : Standing) (x : Change) (rule : Rule)
    → count_for s x.event.property (decision_by x rule).running + given (gone_count s) (decision_by x rule).gone ≤ count_for s x.event.property x.running + new_for s x
decided_count s x Unmatched = omega (arith, cancelled_count s x.event.property x.event.time.0 x.running)
decided_count s x Starts = omega (arith, made_count s x (λ m. new_transition x.event m x.event.before) x.matched (λ m. (refl, refl)))
decided_count s x DropsCompleted = omega arith
decided_count s x CancelsThere = omega (arith, cancelled_count s x.event.property x.event.time.0 x.running)
decided_count s x CancelsAtOnce = omega (arith, cancelled_count s x.event.property x.event.time.0 x.running)
decided_count s x Reverses = omega (
  arith,
  cancelled_count s x.event.property x.event.time.0 x.running,
  instead_count s x (λ r. option_map (λ m. reversing_transition x.event m r) x.matched) x.running
      (λ r. made_count s x (λ m. reversing_transition x.event m r) x.matched (λ m. (refl, refl))),
)
decided_count s x Replaces = omega (
  arith,
  cancelled_count s x.event.property x.event.time.0 x.running,
  instead_count s x (λ r. option_map (λ m. new_transition x.event m (sample_of x.event.property r x.event.time.0)) x.matched) x.running
      (λ r. made_count s x (λ m. new_transition x.event m (sample_of x.event.property r x.event.time.0)) x.matched (λ m. (refl, refl))),
)
decided_count s x Keeps = omega arith

-- ---- all properties

-- 1 where it is the origin of a transition that an event of this frame starts for an element at this position
abbrev pub new_transition_at : Standing → ℕ → ℕ → ℕ
new_transition_at s generation position = is_one s (standing 1 generation position s.third)

new_at_number : (s : Standing) (generation position n : ℕ) → is_one s (standing 1 generation position n) ≤ new_transition_at s generation position
new_at_number s generation position n = elim (one_cases s (standing 1 generation position n)) [
  | inl same ↦ omega (arith, ap (λ (o : Standing). is_one s (standing 1 generation position o.third)) same)
  | inr none ↦ omega (arith, none)
]

new_count : (s : Standing) (generation position : ℕ) (ps : List PropertyId) → CountUp number_of 0 ps
    → total (λ p. is_one s (standing 1 generation position (number_of p))) ps ≤ new_transition_at s generation position
new_count s generation position ps up =
    total-one number_of (λ p. is_one s (standing 1 generation position (number_of p))) s.third (new_transition_at s generation position) 0 ps up
    (λ p differ. none_of_other s (standing 1 generation position (number_of p))
    (λ (same : s ≡ standing 1 generation position (number_of p)). differ (sym (ap (λ (o : Standing). o.third) same))))
    (λ p. new_at_number s generation position (number_of p))

decision_count : (s : Standing) (x : StyleChange) (ts : TransitionSet) (p : PropertyId)
    → count_for s p (decision_for x ts p).running + given (gone_count s) (decision_for x ts p).gone
    ≤ count_for s p (running_of ts p) + is_one s (standing 1 x.event.generation x.event.position (number_of p))
unfolding decision_for decision_of
decision_count s x ts p = decided_count s (change_of x ts p) (rule_of (change_of x ts p))

these_count : (s : Standing) (x : StyleChange) (ts : TransitionSet) (ps : List PropertyId) → CountUp number_of 0 ps
    → total (transition_count s) (of_these (λ p. (decision_for x ts p).running) ps) + total (gone_count s) (filter_map (λ p. (decision_for x ts p).gone) ps)
    ≤ total (transition_count s) ts.running + new_transition_at s x.event.generation x.event.position
these_count s x ts ps up =
    omega (
      arith,
      counted_by_property s (λ p. (decision_for x ts p).running) ps,
      total-filter_map (gone_count s) (λ p. (decision_for x ts p).gone) ps,
      kept_no_more s ts.running ps up,
      new_count s x.event.generation x.event.position ps up,
      total-no_more (λ p. count_for s p (decision_for x ts p).running) (λ p. given (gone_count s) (decision_for x ts p).gone)
          (λ p. count_for s p (running_of ts p)) (λ p. is_one s (standing 1 x.event.generation x.event.position (number_of p))) ps
          (λ p. decision_count s x ts p),
    )

event_count : (s : Standing) (x : StyleChange) (ts : TransitionSet)
    → total (transition_count s) (transitions_after x ts).running + total (gone_count s) (cancelled_by x ts)
    ≤ total (transition_count s) ts.running + new_transition_at s x.event.generation x.event.position
event_count s x ts = these_count s x ts all_properties properties_count_up

-- ---- one element

-- all running transitions are cancelled at a moment
pub all_cancelled_count : (s : Standing) (ts : TransitionSet) (t : ℤ) → total (gone_count s) (all_cancelled ts t) ≡ total (transition_count s) ts.running
all_cancelled_count s ts t = total-map (gone_count s) (λ (r : PropertyId × Transition). gone_item r.0 r.1 t) ts.running

pub transitions_count : (s : Standing) (x : ElementUpdate)
    → total (transition_count s) (transitions_of x).running + total (gone_count s) (cancelled_of x)
    ≤ total (transition_count s) x.entry.effects.transitions.running + new_transition_at s x.event.generation x.event.position
unfolding transitions_of cancelled_of
transitions_count s x = go (rendered_after x) x.entry.rendered
  where
    go : (b c : Bool)
        → total (transition_count s) (if b then transitions_from c (change_in x) x.entry.effects.transitions else no_transitions).running
        + total (gone_count s) (if b then cancelled_from c (change_in x) x.entry.effects.transitions else all_cancelled x.entry.effects.transitions x.event.time.0)
        ≤ total (transition_count s) x.entry.effects.transitions.running + new_transition_at s x.event.generation x.event.position
    go true true = event_count s (change_in x) x.entry.effects.transitions
    go true false = omega (arith, total-nil (transition_count s), total-nil (gone_count s))
    go false c = omega (arith, total-nil (transition_count s), all_cancelled_count s x.entry.effects.transitions x.event.time.0)
