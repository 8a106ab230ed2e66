use Rattle.transition_list.proofs.LastNamed.{matches}
use Rattle.transition_list.proofs.last_named.matching.Goals as goal

pub returns-clause-matches : goal.returns-clause-matches
returns-clause-matches c = rw c.found.ensures (matches c.args.lists.now c.args.p)
