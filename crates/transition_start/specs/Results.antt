-- What each rule leaves (CSS Transitions 1, section 3 "Starting of transitions", section 3.1 "Faster reversing of interrupted
-- transitions").
use Rattle.std.specs.Prelude.{◌≡◌, ◌^◌, ℤ, pos, ◌+ℤ◌, ◌-ℤ◌, Option, None, option_map, option_and_then}
use Rattle.std.specs.Int.{int_min, int_max}
use Rattle.reversing.specs.Reversal.{reversed_end, reversed_start, shortened}
use Rattle.style_data.specs.declared.decision.Decision.{Decision}
use Rattle.style_data.specs.declared.gone.Gone.{Gone}
use Rattle.style_data.specs.declared.gone.Subject.TheVariants.{Property}
use Rattle.style_data.specs.declared.transition.Completed.{Completed}
use Rattle.style_data.specs.declared.transition.Phase.TheVariants.{Idle}
use Rattle.style_data.specs.declared.transition.Transition.{Transition}
use Rattle.transition_list.specs.declared.matched.MatchedItem.{MatchedItem}
use Rattle.value_types.specs.declared.property.PropertyId.{PropertyId}
use Rattle.value_types.specs.declared.value.Value.{Value}
use Rattle.transition_start.specs.declared.change.PropertyChange.{PropertyChange}
use Rattle.transition_start.specs.Change.{Change}
use Rattle.transition_start.specs.Rules.{Applies, Rule, Unmatched, Starts, DropsCompleted, CancelsThere, CancelsAtOnce, Reverses, Replaces, Keeps}
use Rattle.transition_start.specs.Sampling.{output_at, sample_of}

-- a new transition from a value, with a reversing-adjusted start value, start, end and factor
abbrev pub transition_from : PropertyChange → MatchedItem → Value → Value → ℤ → ℤ → ℤ → Transition
transition_from e m from adjusted start end factor = record {
  from = from;
  to = e.after;
  adjusted = adjusted;
  created = e.time;
  start = record { 0 = start };
  end = record { 0 = end };
  easing = m.easing;
  factor = record { 0 = factor };
  generation = e.generation;
  position = e.position;
  seen = Idle;
}

-- one that starts after the matching delay and lasts the matching duration
abbrev pub new_transition : PropertyChange → MatchedItem → Value → Transition
new_transition e m from =
    let start = e.time.0 +ℤ m.delay.0 in
    transition_from e m from from start (start +ℤ m.duration.0) (pos (10 ^ 9))

-- one that goes back from the current value of another, shortened by what that has done (section 3.1)
abbrev pub reversing_transition : PropertyChange → MatchedItem → Transition → Transition
reversing_transition e m r =
    let factor = shortened r.factor.0 (output_at r e.time.0) in
    transition_from e m (sample_of e.property r e.time.0) r.to (reversed_start e.time.0 m.delay.0 factor)
    (reversed_end e.time.0 m.delay.0 m.duration.0 factor) factor

-- the time that a transition has been active at time t: within its active duration
abbrev pub elapsed_at : Transition → ℤ → ℤ
elapsed_at r t = int_min (int_max (t -ℤ r.start.0) (pos 0)) (r.end.0 -ℤ r.start.0)

-- a transition of the property that is cancelled at time t
abbrev pub gone_item : PropertyId → Transition → ℤ → Gone
gone_item p r t = record {
  subject = Property p;
  place = 0;
  cancelled = record { 0 = t };
  elapsed = record { 0 = elapsed_at r t };
  generation = r.generation;
  position = r.position;
  seen = r.seen;
}

-- what is left: the running transition, the completed one, and the running one of before if it was cancelled
abbrev pub decision_with : Option Transition → Option Completed → Option Gone → Decision
decision_with running completed gone = record { running = running; completed = completed; gone = gone }

-- the running transition is cancelled, and this one runs in its place
abbrev pub decision_replacing : Change → Option Transition → Decision
decision_replacing x running = decision_with running None (option_map (λ r. gone_item x.event.property r x.event.time.0) x.running)

-- the decision by a rule
abbrev pub decision_by : Change → Rule → Decision
decision_by x Unmatched = decision_replacing x None
decision_by x Starts = decision_with (option_map (λ m. new_transition x.event m x.event.before) x.matched) None None
decision_by x DropsCompleted = decision_with None None None
decision_by x CancelsThere = decision_replacing x None
decision_by x CancelsAtOnce = decision_replacing x None
decision_by x Reverses = decision_replacing x (option_and_then (λ r. option_map (λ m. reversing_transition x.event m r) x.matched) x.running)
decision_by x Replaces = decision_replacing x (option_and_then (λ r. option_map (λ m. new_transition x.event m (sample_of x.event.property r x.event.time.0)) x.matched) x.running)
decision_by x Keeps = decision_with x.running x.completed None

-- the decision of a change
abbrev pub Decides : Change → Decision → Type 0
Decides x d = (rule : Rule) × Applies x rule × (d ≡ decision_by x rule)
