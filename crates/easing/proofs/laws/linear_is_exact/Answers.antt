use Rattle.easing.proofs.Ends.{linear_exact}
use Rattle.easing.proofs.laws.linear_is_exact.Goals as goal

pub returns : goal.returns
returns c = linear_exact
