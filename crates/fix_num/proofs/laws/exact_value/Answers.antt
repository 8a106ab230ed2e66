use Rattle.fix_num.proofs.ValueLemmas.{exact_units}
use Rattle.fix_num.proofs.laws.exact_value.Goals as goal

pub returns : goal.returns
returns c = exact_units
