use Rattle.interpolation.proofs.BetweenLemmas.{from_at_0, to_at_1}
use Rattle.interpolation.proofs.laws.ends_give_the_ends.Goals as goal

pub returns-clause-start : goal.returns-clause-start
returns-clause-start c = from_at_0

pub returns-clause-end : goal.returns-clause-end
returns-clause-end c = to_at_1
