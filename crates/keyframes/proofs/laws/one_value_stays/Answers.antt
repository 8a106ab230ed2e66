use Rattle.keyframes.proofs.LawLemmas.{one_value}
use Rattle.keyframes.proofs.laws.one_value_stays.Goals as goal

pub returns : goal.returns
returns c = one_value
