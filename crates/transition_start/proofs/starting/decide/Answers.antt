use Rattle.std.proofs.Common.{◌∙◌, ap, sym, refl}
use Rattle.std.specs.Prelude.{None, Some, option_copied}
use Rattle.transition_start.specs.Change.{property_change}
use Rattle.transition_start.proofs.Cases.{other_none, same_change}
use Rattle.transition_start.proofs.starting.decide.Goals as goal

pub returns-in-None-clause-decision : goal.returns-in-None-clause-decision
returns-in-None-clause-decision c =
    c.without_running.ensures.decision
    ∙ same_change (property_change c.args.p c.args.before c.args.after c.args.t.0 c.args.generation c.args.position) None (option_copied c.args.running)
    (option_copied c.args.completed) (option_copied c.args.completed) (Some c.get.result) c.args.matched
    (sym (ap option_copied c.in-None.is)) refl (ap Some c.get.ensures.value ∙ sym c.in-Some.is)

pub returns-in-Some-running-clause-decision : goal.returns-in-Some-running-clause-decision
returns-in-Some-running-clause-decision c =
    c.with_running.ensures.decision
    ∙ same_change (property_change c.args.p c.args.before c.args.after c.args.t.0 c.args.generation c.args.position) (Some c.in-Some-running.r.now)
    (option_copied c.args.running) None (option_copied c.args.completed) (Some c.get-in-Some-running.result) c.args.matched
    (sym (ap option_copied c.in-Some-running.is))
    (sym (ap option_copied (other_none c.args.running c.args.completed c.in-Some-running.r c.in-Some-running.is c.requires.apart)))
    (ap Some c.get-in-Some-running.ensures.value ∙ sym c.in-Some.is)
