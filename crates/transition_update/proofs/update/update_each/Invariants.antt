use Rattle.transition_update.proofs.Steps.{Updating}
use Rattle.transition_update.proofs.update.update_each.Given as goal
use Rattle.transition_update.specs.Updates.{style_change}

abbrev pub invariant-loop-p : goal.invariant-loop-p
invariant-loop-p l = Updating (style_change l.before l.after l.event) l.transitions l.p-index l.updated.transitions l.updated.gone.items
