use Rattle.element_step.proofs.Places.{places_alike, quiet_places_alike}
use Rattle.element_step.proofs.laws.places_show_in_effects_alone.Goals as goal

pub returns-clause-outcome : goal.returns-clause-outcome
returns-clause-outcome c = places_alike

pub returns-clause-quiet : goal.returns-clause-quiet
returns-clause-quiet c = quiet_places_alike
