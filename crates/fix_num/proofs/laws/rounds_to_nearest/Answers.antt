use Rattle.fix_num.proofs.RoundingLemmas.{nearest, nearest_only}
use Rattle.fix_num.proofs.laws.rounds_to_nearest.Goals as goal

pub returns-clause-nearest : goal.returns-clause-nearest
returns-clause-nearest c = nearest

pub returns-clause-only : goal.returns-clause-only
returns-clause-only c = nearest_only
