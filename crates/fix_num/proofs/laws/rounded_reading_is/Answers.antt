use Rattle.fix_num.proofs.RestLemmas.{same_reading}
use Rattle.fix_num.proofs.laws.rounded_reading_is.Goals as goal

pub returns : goal.returns
returns c = same_reading
