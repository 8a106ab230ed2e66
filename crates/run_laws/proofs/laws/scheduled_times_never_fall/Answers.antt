use Rattle.restyle.specs.Worlds.{new_world}
use Rattle.run_laws.proofs.CourseTimes.{told_rises}
use Rattle.run_laws.proofs.DeclaredDurations.{ReadingLaws}
use Rattle.run_laws.proofs.OrderedRuns.{ordered_run}
use Rattle.run_laws.proofs.OrderedUpdates.{IsOrdered}
use Rattle.run_laws.proofs.laws.scheduled_times_never_fall.Goals as goal
use Rattle.run_laws.specs.Runs.{events_of_run}
use Rattle.run_laws.specs.TransitionNames.{told_of}

pub returns : goal.returns
returns c =
    let laws : ReadingLaws = record { sheet = c.sheet_reading_is_exact.ensures.sheet; style = c.style_reading_is_exact.ensures.style } in
    λ cs x. told_rises IsOrdered x.generation (told_of x (events_of_run new_world cs)) (λ r ordered. ordered) (ordered_run laws x cs)
