use Rattle.interpolation.proofs.BetweenLemmas.{equal_stays}
use Rattle.interpolation.proofs.laws.equal_values_stay.Goals as goal

pub returns : goal.returns
returns c = equal_stays
