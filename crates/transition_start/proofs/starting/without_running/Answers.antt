use Rattle.std.proofs.Common.{◌∙◌, ap, sym, refl}
use Rattle.std.specs.Prelude.{None, Some, option_copied}
use Rattle.transition_start.proofs.Cases.{completed_there, same_change}
use Rattle.transition_start.proofs.starting.without_running.Goals as goal

pub returns-then-same-clause-decision : goal.returns-then-same-clause-decision
returns-then-same-clause-decision c =
    c.decision_with.ensures
    ∙ sym (completed_there c.args.change c.in-Some.done.now c.args.item (c.same.ensures.equal.0 c.if-same.true))
    ∙ same_change c.args.change None None (Some c.in-Some.done.now) (option_copied c.args.completed) (Some c.args.item) (Some c.args.item)
    refl (sym (ap option_copied c.in-Some.is)) refl
