use Rattle.std.proofs.Common.{arith}
use Rattle.computed_style.proofs.ByIndex.{number-property_at, property_at}
use Rattle.transition_update.proofs.Steps.{next_updated}
use Rattle.transition_update.proofs.update.update_each.Goals as goal
use Rattle.transition_update.specs.Updates.{style_change}

pub loop-p-preserved : goal.loop-p-preserved
unfolding property_at
loop-p-preserved c =
    next_updated (style_change c.args.before.now c.args.after.now c.args.event) c.args.transitions.now c.loop-p.p-index c.loop-p.updated.transitions
    c.loop-p.updated.gone.items c.update_property.new.updated.transitions c.update_property.new.updated.gone.items c.loop-p.invariant (omega arith)
    c.in_ok-update_property.ensures.transitions c.in_ok-update_property.ensures.gone

pub update_property-requires-clause-last : goal.update_property-requires-clause-last
unfolding property_at
update_property-requires-clause-last c =
    c.loop-p.invariant.last (property_at c.loop-p.p-index) (omega (arith, number-property_at c.loop-p.p-index (omega arith)))
