use Rattle.anim_timing.proofs.IterationLemmas.{at_end, at_next}
use Rattle.anim_timing.proofs.laws.last_iteration_ends.Goals as goal

pub returns-clause-end : goal.returns-clause-end
returns-clause-end c = at_end

pub returns-clause-next : goal.returns-clause-next
returns-clause-next c = at_next
