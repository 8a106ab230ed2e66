use Rattle.pass_core.proofs.Orders.{schedules_same}
use Rattle.pass_core.proofs.laws.schedules_agree.Goals as goal

pub returns : goal.returns
returns g c = schedules_same
