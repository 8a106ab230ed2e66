use Rattle.ticker.proofs.TickKeys.{ticks_differ}
use Rattle.ticker.proofs.laws.keys_of_a_tick_differ.Goals as goal

pub returns : goal.returns
returns c = ticks_differ
