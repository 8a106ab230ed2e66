use Rattle.pass_core.proofs.Swaps.{events_swap}
use Rattle.pass_core.proofs.laws.events_commute.Goals as goal

pub returns : goal.returns
returns g c = events_swap
