use Rattle.style_data.specs.TransitionSets.{transition_set}
use Rattle.style_data.proofs.Lookups.{running_is_kept}
use Rattle.style_data.proofs.transitions.Transitions.running_of.Goals as goal

pub returns-clause-kept : goal.returns-clause-kept
returns-clause-kept c = rw (c.running_for.ensures, c.as_slice.ensures) (running_is_kept (transition_set c.self.inside.running.items c.self.inside.completed.items) c.args.p c.self.invariant)
