use Rattle.list_text.proofs.OneListLemmas.{one_list}
use Rattle.list_text.proofs.laws.one_list.Goals as goal

pub returns : goal.returns
returns c = one_list
