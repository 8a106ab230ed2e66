use Rattle.transition_start.proofs.Ends.{at_start, at_end}
use Rattle.transition_start.proofs.laws.starts_and_ends_there.Goals as goal

pub returns-clause-start : goal.returns-clause-start
returns-clause-start c = at_start

pub returns-clause-end : goal.returns-clause-end
returns-clause-end c = at_end
