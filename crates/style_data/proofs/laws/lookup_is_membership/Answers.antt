use Rattle.style_data.proofs.Lookups.{is_completed, is_running}
use Rattle.style_data.proofs.laws.lookup_is_membership.Goals as goal

pub returns-clause-running : goal.returns-clause-running
returns-clause-running c = is_running

pub returns-clause-completed : goal.returns-clause-completed
returns-clause-completed c = is_completed
