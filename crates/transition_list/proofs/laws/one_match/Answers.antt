use Rattle.transition_list.proofs.LastNamed.{one}
use Rattle.transition_list.proofs.laws.one_match.Goals as goal

pub returns : goal.returns
returns c = one
