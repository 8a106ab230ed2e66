use Rattle.transition_update.proofs.Quiet.{idle_gone, idle_kept}
use Rattle.transition_update.proofs.update.update_property.Goals as goal
use Rattle.transition_update.specs.Updates.{style_change}

pub returns-then-is_idle-clause-transitions : goal.returns-then-is_idle-clause-transitions
returns-then-is_idle-clause-transitions c =
    idle_kept (style_change c.args.before.now c.args.after.now c.args.event) c.args.transitions.now c.args.updated.now.transitions c.args.p c.if-is_idle.ensures

pub returns-then-is_idle-clause-gone : goal.returns-then-is_idle-clause-gone
returns-then-is_idle-clause-gone c =
    idle_gone (style_change c.args.before.now c.args.after.now c.args.event) c.args.transitions.now c.args.updated.now.gone.items c.args.p c.if-is_idle.ensures
