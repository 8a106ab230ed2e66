use Rattle.interpolation.proofs.BetweenLemmas.{numbers_fit}
use Rattle.interpolation.proofs.laws.numbers_stay_between.Goals as goal

pub returns : goal.returns
returns c = numbers_fit
