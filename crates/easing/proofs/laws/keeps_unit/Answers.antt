use Rattle.easing.proofs.Ordered.{unit_of}
use Rattle.easing.proofs.laws.keeps_unit.Goals as goal

pub returns : goal.returns
returns c = unit_of
