use Rattle.pass_core.proofs.Schedules.{Running}
use Rattle.pass_core.proofs.state.run_schedule.Given as goal

abbrev pub invariant-loop-event : goal.invariant-loop-event
invariant-loop-event g l = Running (g.W.TreeWork.meaning l.work) l.plan.places.items l.initial.state l.events l.event-index l.state
