-- Which rule applies, and the decision, as functions: the same as the relations.
use Rattle.std.specs.Prelude.{pos, int_le, int_lt, Bool, true, false, not, is_none, ◌&&◌, ◌||◌, if◌then◌else◌}
use Rattle.std.specs.Option.{option_map_or}
use Rattle.interpolation.specs.Equality.{is_same}
use Rattle.interpolation.specs.Interpolation.{is_interpolable}
use Rattle.style_data.specs.declared.decision.Decision.{Decision}
use Rattle.style_data.specs.declared.transition.Transition.{Transition}
use Rattle.transition_start.specs.Change.{Change, combined_duration}
use Rattle.transition_start.specs.Results.{decision_by}
use Rattle.transition_start.specs.Rules.{Rule, Unmatched, Starts, DropsCompleted, CancelsThere, CancelsAtOnce, Reverses, Replaces, Keeps}
use Rattle.transition_start.specs.Sampling.{sample_of}

-- whether the running transition ends at another value than the after-change value, and passes a test
abbrev pub runs_elsewhere : Change → (Transition → Bool) → Bool
runs_elsewhere x p = option_map_or (λ r. not (is_same r.to x.event.after) && p r) x.running false

-- whether the completed one ends at another; with no completed one, as is said
abbrev pub completed_elsewhere : Change → Bool → Bool
completed_elsewhere x none = option_map_or (λ c. not (is_same c.to x.event.after)) x.completed none

-- whether the combined duration is over 0
abbrev pub has_time : Change → Bool
has_time x = option_map_or (λ m. int_lt (pos 0) (combined_duration m)) x.matched false

-- whether the change has what the rule wants
abbrev pub meets : Change → Rule → Bool
meets x Unmatched = is_none x.matched
meets x Starts =
    is_none x.running && (not (is_same x.event.before x.event.after) && (is_interpolable x.event.property x.event.before x.event.after && (completed_elsewhere x true && has_time x)))
meets x DropsCompleted = is_none x.running && completed_elsewhere x false
meets x CancelsThere =
    runs_elsewhere x (λ r. is_same (sample_of x.event.property r x.event.time.0) x.event.after || not (is_interpolable x.event.property (sample_of x.event.property r x.event.time.0) x.event.after))
meets x CancelsAtOnce = runs_elsewhere x (λ r. option_map_or (λ m. int_le (combined_duration m) (pos 0)) x.matched false)
meets x Reverses = runs_elsewhere x (λ r. is_same r.adjusted x.event.after)
meets x Replaces = runs_elsewhere x (λ r. true)
meets x Keeps = true

-- the rule that applies
unfoldable pub rule_of : Change → Rule
rule_of x =
    (if meets x Unmatched then Unmatched
    else if meets x Starts then Starts
    else if meets x DropsCompleted then DropsCompleted
    else if meets x CancelsThere then CancelsThere
    else if meets x CancelsAtOnce then CancelsAtOnce
    else if meets x Reverses then Reverses
    else if meets x Replaces then Replaces
    else Keeps)

-- the decision of a change
unfoldable pub decision_of : Change → Decision
decision_of x = decision_by x (rule_of x)
