use Rattle.transition_list.proofs.LastNamed.{named_last}
use Rattle.transition_list.proofs.laws.last_item_wins.Goals as goal

pub returns : goal.returns
returns c = named_last
