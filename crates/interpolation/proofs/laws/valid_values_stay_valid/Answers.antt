use Rattle.interpolation.proofs.ValidityLemmas.{value_valid}
use Rattle.interpolation.proofs.laws.valid_values_stay_valid.Goals as goal

pub returns : goal.returns
returns c = value_valid
