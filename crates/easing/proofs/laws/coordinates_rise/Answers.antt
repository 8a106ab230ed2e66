use Rattle.easing.proofs.Points.{coordinates_rise}
use Rattle.easing.proofs.laws.coordinates_rise.Goals as goal

pub returns : goal.returns
returns c = coordinates_rise
