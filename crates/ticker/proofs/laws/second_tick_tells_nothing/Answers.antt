use Rattle.ticker.proofs.Again.{tells_nothing}
use Rattle.ticker.proofs.laws.second_tick_tells_nothing.Goals as goal

pub returns : goal.returns
returns c = tells_nothing
