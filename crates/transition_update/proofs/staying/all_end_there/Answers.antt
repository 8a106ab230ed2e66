use Rattle.std.proofs.Common.{◌∙◌, ap, sym}
use Rattle.std.specs.List.{list_all}
use Rattle.std.specs.Prelude.{List}
use Rattle.std.proofs.lemmas.Bool.{and_from}
use Rattle.style_data.specs.declared.transition.Completed.{Completed}
use Rattle.style_data.specs.declared.transition.Transition.{Transition}
use Rattle.value_types.specs.declared.property.PropertyId.{PropertyId}
use Rattle.transition_update.proofs.BuiltAgain.{all_stay}
use Rattle.transition_update.proofs.staying.all_end_there.Goals as goal
use Rattle.transition_update.specs.Staying.{ends_there}

pub returns-then-all_run_there-clause-stay : goal.returns-then-all_run_there-clause-stay
returns-then-all_run_there-clause-stay c = λ all.
    let runs = λ (rs : List (PropertyId × Transition)). list_all (λ r. ends_there c.args.after.now r.0 r.1.to) rs in
    let done = λ (cs : List (PropertyId × Completed)). list_all (λ d. ends_there c.args.after.now d.0 d.1.to) cs in
    all_stay c.args.after.now c.args.transitions.now c.running.ensures.kept
    (and_from (runs c.args.transitions.now.running) (done c.args.transitions.now.completed)
    (ap runs (sym c.running.ensures.value) ∙ sym c.all_run_there.ensures ∙ c.if-all_run_there.true)
    (ap done (sym c.completed.ensures.value) ∙ sym c.all_completed_there.ensures ∙ all))
