use Rattle.transition_update.proofs.ByProperty.{by_property_has}
use Rattle.ticker.proofs.laws.ticked_property_by_property.Goals as goal
use Rattle.ticker.specs.Ticks.{completed_after, running_after}

pub returns-clause-running : goal.returns-clause-running
returns-clause-running c = λ t ts p. by_property_has (running_after t ts) p

pub returns-clause-completed : goal.returns-clause-completed
returns-clause-completed c = λ t ts p. by_property_has (completed_after t ts) p
