use Rattle.ticker.proofs.Steps.{Keeping}
use Rattle.ticker.proofs.stays.ticked_transitions.Given as goal
use Rattle.ticker.specs.Ticks.{completed_after, running_after}

abbrev pub invariant-loop-p : goal.invariant-loop-p
invariant-loop-p l = Keeping (running_after l.t.0 l.transitions) (completed_after l.t.0 l.transitions) l.p-index l.ticked
