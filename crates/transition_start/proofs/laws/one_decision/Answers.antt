use Rattle.transition_start.proofs.Rules.{decides}
use Rattle.transition_start.proofs.laws.one_decision.Goals as goal

pub returns : goal.returns
returns c = decides
