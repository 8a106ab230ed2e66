-- Where no value changes and there is no transition, there is none afterwards.
use Rattle.std.proofs.Common.{◌≡◌, ◌++◌, ◌∙◌, ap, refl, sym, append-nil}
use Rattle.std.specs.Prelude.{List, [], None, option_map, option_to_list}
use Rattle.computed_style.specs.Styles.{value_of}
use Rattle.style_data.specs.TransitionSets.{TransitionSet, completed_of, kept_with, no_transitions, running_of, transition_set}
use Rattle.style_data.specs.declared.decision.Decision.{Decision}
use Rattle.style_data.specs.declared.gone.Gone.{Gone}
use Rattle.transition_list.specs.Matching.{match_of}
use Rattle.transition_start.proofs.Cases.{nothing_there, same_change}
use Rattle.transition_start.specs.Change.{property_change}
use Rattle.transition_start.specs.Results.{decision_with}
use Rattle.value_types.specs.Properties.{all_properties}
use Rattle.value_types.specs.declared.property.PropertyId.{PropertyId}
use Rattle.transition_update.proofs.Given.{nothing_given}
use Rattle.transition_update.specs.Idle.{IsIdle}
use Rattle.transition_update.specs.Updates.{StyleChange, by_property, cancelled_by, decision_for, transitions_after}

idle : (x : StyleChange) (p : PropertyId) → value_of x.before p ≡ value_of x.after p → decision_for x no_transitions p ≡ decision_with None None None
unfolding decision_for
idle x p same =
    nothing_there (property_change p (value_of x.before p) (value_of x.after p) x.event.time.0 x.event.generation x.event.position) (match_of x.after.transitions p) same

pub none_after : (x : StyleChange) → ((p : PropertyId) → value_of x.before p ≡ value_of x.after p) → transitions_after x no_transitions ≡ no_transitions
none_after x same =
    ap (λ l. transition_set l (by_property (λ p. (decision_for x no_transitions p).completed)))
    (nothing_given (λ p. option_map (λ r. (p, r)) (decision_for x no_transitions p).running) all_properties (λ p. ap (λ d. option_map (λ r. (p, r)) d.running) (idle x p (same p))))
    ∙ ap (transition_set [])
    (nothing_given (λ p. option_map (λ r. (p, r)) (decision_for x no_transitions p).completed) all_properties (λ p. ap (λ d. option_map (λ r. (p, r)) d.completed) (idle x p (same p))))

pub none_cancelled : (x : StyleChange) → ((p : PropertyId) → value_of x.before p ≡ value_of x.after p) → cancelled_by x no_transitions ≡ []
none_cancelled x same = nothing_given (λ p. (decision_for x no_transitions p).gone) all_properties (λ p. ap (λ d. d.gone) (idle x p (same p)))

-- a property of which nothing starts and nothing changes has nothing afterwards
pub idle_decision : (x : StyleChange) (ts : TransitionSet) (p : PropertyId) → IsIdle x.before x.after ts p → decision_for x ts p ≡ decision_with None None None
unfolding decision_for
idle_decision x ts p is =
    let e = property_change p (value_of x.before p) (value_of x.after p) x.event.time.0 x.event.generation x.event.position in
    let m = match_of x.after.transitions p in
    same_change e (running_of ts p) None (completed_of ts p) None m m is.none.running is.none.completed refl ∙ nothing_there e m is.same

-- and leaves a set that is built property by property as it is
pub idle_kept : (x : StyleChange) (ts built : TransitionSet) (p : PropertyId) → IsIdle x.before x.after ts p
    → built ≡ (let d = decision_for x ts p in kept_with built p d.running d.completed)
idle_kept x ts built p is = ap (λ (d : Decision). kept_with built p d.running d.completed) (sym (idle_decision x ts p is))

pub idle_gone : (x : StyleChange) (ts : TransitionSet) (gone : List Gone) (p : PropertyId) → IsIdle x.before x.after ts p
    → gone ≡ gone ++ option_to_list (decision_for x ts p).gone
idle_gone x ts gone p is = sym (append-nil gone) ∙ ap (λ (d : Decision). gone ++ option_to_list d.gone) (sym (idle_decision x ts p is))
