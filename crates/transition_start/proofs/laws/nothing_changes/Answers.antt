use Rattle.transition_start.proofs.Cases.{completed_there, nothing_there, runs_there}
use Rattle.transition_start.proofs.laws.nothing_changes.Goals as goal

pub returns-clause-idle : goal.returns-clause-idle
returns-clause-idle c = nothing_there

pub returns-clause-completed : goal.returns-clause-completed
returns-clause-completed c = completed_there

pub returns-clause-running : goal.returns-clause-running
returns-clause-running c = runs_there
