use Rattle.ticker.proofs.Courses.{in_turn}
use Rattle.ticker.proofs.laws.events_in_turn.Goals as goal

pub returns : goal.returns
returns c = in_turn
