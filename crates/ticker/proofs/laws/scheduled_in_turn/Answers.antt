use Rattle.ticker.proofs.Courses.{scheduled}
use Rattle.ticker.proofs.laws.scheduled_in_turn.Goals as goal

pub returns : goal.returns
returns c = scheduled
