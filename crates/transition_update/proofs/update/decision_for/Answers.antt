use Rattle.std.proofs.Common.{◌≡◌, ◌∙◌, ap, inl, inr}
use Rattle.std.specs.Prelude.{◌⊎◌, IsNone, Option, is_some, option_copied}
use Rattle.computed_style.specs.Styles.{value_of}
use Rattle.style_data.proofs.Lookups.{one_of_both}
use Rattle.style_data.specs.TransitionSets.{completed_of, running_of}
use Rattle.transition_list.specs.Matching.{match_of}
use Rattle.transition_start.proofs.Cases.{same_change}
use Rattle.transition_start.specs.Change.{change_at, property_change}
use Rattle.transition_start.specs.Functions.{decision_of}
use Rattle.transition_start.specs.declared.change.PropertyChange.{PropertyChange}
use Rattle.value_types.specs.declared.value.Value.{Value}
use Rattle.transition_update.proofs.update.decision_for.Goals as goal
use Rattle.transition_update.specs.Updates.{decision_for}

-- one of two that are none where two others are
none_alike : {A B C D : Type 0} (a : Option A) (b : Option B) (c : Option C) (d : Option D) → is_some a ≡ is_some c → is_some b ≡ is_some d → IsNone c ⊎ IsNone d → IsNone a ⊎ IsNone b
none_alike a b c d ac bd (inl none) = inl (ac ∙ none)
none_alike a b c d ac bd (inr none) = inr (bd ∙ none)

pub decide-requires-clause-apart : goal.decide-requires-clause-apart
decide-requires-clause-apart c =
    none_alike c.as_ref.result c.as_ref-2.result (running_of c.args.transitions.now c.args.p) (completed_of c.args.transitions.now c.args.p)
    (c.as_ref.ensures.variant ∙ ap is_some c.running_of-running.ensures.value) (c.as_ref-2.ensures.variant ∙ ap is_some c.completed_of-completed.ensures.value)
    (one_of_both c.args.transitions.now c.args.p c.requires.kept)

pub returns-clause-decision : goal.returns-clause-decision
unfolding decision_for
returns-clause-decision c =
    let p = c.args.p in
    let change : Value → Value → PropertyChange = λ from to. property_change p from to c.args.event.time.0 c.args.event.generation c.args.event.position in
    let running = running_of c.args.transitions.now p in
    let completed = completed_of c.args.transitions.now p in
    let matched = match_of c.args.after.now.transitions p in
    c.decide.ensures.decision
    ∙ same_change (change c.value-from.result c.value-to.result) (option_copied c.as_ref.result) running (option_copied c.as_ref-2.result) completed
    c.matching_or_initial.result matched
    (c.as_ref.ensures.value ∙ c.running_of-running.ensures.value) (c.as_ref-2.ensures.value ∙ c.completed_of-completed.ensures.value)
    (c.matching_or_initial.ensures ∙ ap (λ l. match_of l p) c.transitions.ensures)
    ∙ ap (λ v. decision_of (change_at (change v c.value-to.result) running completed matched)) c.value-from.ensures.value
    ∙ ap (λ v. decision_of (change_at (change (value_of c.args.before.now p) v) running completed matched)) c.value-to.ensures.value
