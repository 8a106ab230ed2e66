use Rattle.fix_num.proofs.PrintedLemmas.{printed_shortest}
use Rattle.fix_num.proofs.laws.printed_is_shortest.Goals as goal

pub returns : goal.returns
returns c = printed_shortest
