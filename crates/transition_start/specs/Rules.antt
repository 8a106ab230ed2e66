-- Which rule applies to a change (CSS Transitions 1, section 3 "Starting of transitions").
use Rattle.std.specs.Prelude.{◌≡◌, ◌≢◌, ◌⊎◌, ℕ, ◌<◌, pos, ◌≤ℤ◌, ◌<ℤ◌, IsNone, IsSomeAnd, IfSome, IsTrue, IsFalse, ⊤}
use Rattle.interpolation.specs.Interpolation.{is_interpolable}
use Rattle.style_data.specs.declared.transition.Transition.{Transition}
use Rattle.value_types.specs.declared.value.Value.{Value}
use Rattle.transition_start.specs.Change.{Change, combined_duration}
use Rattle.transition_start.specs.Sampling.{sample_of}

-- the rules in their order
pub data Rule : Type 0 where
  Unmatched : Rule
  Starts : Rule
  DropsCompleted : Rule
  CancelsThere : Rule
  CancelsAtOnce : Rule
  Reverses : Rule
  Replaces : Rule
  Keeps : Rule

-- the completed transition, where there is one, ends at another value
abbrev pub NotCompletedTo : Change → Type 0
NotCompletedTo x = IfSome x.completed (λ c. c.to ≢ x.event.after)

-- the running transition ends at another value, and this holds of it
abbrev pub RunsElsewhere : Change → (Transition → Type 0) → Type 0
RunsElsewhere x P = IsSomeAnd x.running (λ r. (r.to ≢ x.event.after) × P r)

-- there is time: the combined duration is over 0
abbrev pub HasTime : Change → Type 0
HasTime x = IsSomeAnd x.matched (λ m. pos 0 <ℤ combined_duration m)

-- the value and the after-change value can't be interpolated
abbrev pub HasNoWayFrom : Change → Value → Type 0
HasNoWayFrom x current = IsFalse (is_interpolable x.event.property current x.event.after)

-- what a rule wants of the change, beside that no earlier rule applies
abbrev pub Wants : Change → Rule → Type 0
-- rule 3: where no item of transition-property matches, a running transition is cancelled and a completed one is removed; the
-- other rules want a match, so this one can be asked first
Wants x Unmatched = IsNone x.matched
-- rule 1: where no transition of the property runs, the before-change and the after-change value differ and can be
-- interpolated, none has completed or the completed one ends at another value than the after-change value, and the combined
-- duration is over 0, a transition starts
Wants x Starts =
    IsNone x.running × ((x.event.before ≢ x.event.after) × (IsTrue (is_interpolable x.event.property x.event.before x.event.after) × (NotCompletedTo x × HasTime x)))
-- rule 2: otherwise, where a completed transition ends at another value than the after-change value, it is removed
Wants x DropsCompleted = IsNone x.running × IsSomeAnd x.completed (λ c. c.to ≢ x.event.after)
-- rule 4.1: where the running transition ends at another value than the after-change value, and its current value is the
-- after-change value or can't be interpolated with it, it is cancelled
Wants x CancelsThere = RunsElsewhere x (λ r. (sample_of x.event.property r x.event.time.0 ≡ x.event.after) ⊎ HasNoWayFrom x (sample_of x.event.property r x.event.time.0))
-- rule 4.2: otherwise, where the combined duration is at most 0, it is cancelled
Wants x CancelsAtOnce = RunsElsewhere x (λ r. IsSomeAnd x.matched (λ m. combined_duration m ≤ℤ pos 0))
-- rule 4.3: otherwise, where its reversing-adjusted start value is the after-change value, it is cancelled, and a transition
-- goes back from its current value, shortened by what it has done
Wants x Reverses = RunsElsewhere x (λ r. r.adjusted ≡ x.event.after)
-- rule 4.4: otherwise it is cancelled, and a transition starts from its current value
Wants x Replaces = RunsElsewhere x (λ r. ⊤)
-- and where no rule applies, all stays as it is
Wants x Keeps = ⊤

-- a rule's place in the order
abbrev pub rank : Rule → ℕ
rank Unmatched = 0
rank Starts = 1
rank DropsCompleted = 2
rank CancelsThere = 3
rank CancelsAtOnce = 4
rank Reverses = 5
rank Replaces = 6
rank Keeps = 7

-- the rule is the first that the change wanted
pub record Applies (x : Change) (rule : Rule) : Type 0 where
  pub wants : Wants x rule
  pub first : (other : Rule) → rank other < rank rule → Wants x other → ⊥
