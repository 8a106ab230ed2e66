use Rattle.transition_update.proofs.Quiet.{none_after, none_cancelled}
use Rattle.transition_update.proofs.laws.nothing_changes.Goals as goal

pub returns-clause-transitions : goal.returns-clause-transitions
returns-clause-transitions c = none_after

pub returns-clause-gone : goal.returns-clause-gone
returns-clause-gone c = none_cancelled
