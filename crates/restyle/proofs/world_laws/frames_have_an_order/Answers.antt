use Rattle.restyle.proofs.DistinctTicks.{ticks_distinct}
use Rattle.restyle.proofs.world_laws.frames_have_an_order.Goals as goal

pub returns : goal.returns
returns c = ticks_distinct
