use Rattle.easing.proofs.Ordered.{never_falls}
use Rattle.easing.proofs.laws.never_falls.Goals as goal

pub returns : goal.returns
returns c = never_falls
