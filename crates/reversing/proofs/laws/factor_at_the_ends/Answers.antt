use Rattle.reversing.proofs.Parts.{at_end, at_start}
use Rattle.reversing.proofs.laws.factor_at_the_ends.Goals as goal

pub returns-clause-start : goal.returns-clause-start
returns-clause-start c = at_start

pub returns-clause-end : goal.returns-clause-end
returns-clause-end c = at_end
