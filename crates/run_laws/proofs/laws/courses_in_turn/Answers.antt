use Rattle.run_laws.proofs.InTurn.{in_turn}
use Rattle.run_laws.proofs.Runs.{whole_run}
use Rattle.run_laws.proofs.laws.courses_in_turn.Goals as goal
use Rattle.run_laws.specs.Runs.{HasRun, events_of_run}
use Rattle.run_laws.specs.TransitionNames.{events_of_transition}
use Rattle.restyle.specs.Worlds.{new_world}

pub returns-clause-course : goal.returns-clause-course
returns-clause-course c = whole_run

pub returns-clause-kinds : goal.returns-clause-kinds
returns-clause-kinds c = λ cs x. in_turn (HasRun new_world cs x) x.generation (events_of_transition x (events_of_run new_world cs)) (whole_run cs x)
