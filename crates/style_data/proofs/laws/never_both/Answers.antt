use Rattle.style_data.proofs.Lookups.{one_of_both}
use Rattle.style_data.proofs.laws.never_both.Goals as goal

pub returns : goal.returns
returns c = one_of_both
