use Rattle.style_data.specs.TransitionSets.{transition_set}
use Rattle.style_data.proofs.TransitionLemmas.{seen_keeps}
use Rattle.style_data.proofs.transitions.Transitions.see.Goals as goal

pub invariant_of-self : goal.invariant_of-self
invariant_of-self c =
    rw c.see_at.ensures
    (seen_keeps (transition_set c.self.inside.running.items c.self.inside.completed.items) c.args.i c.args.seen c.self.invariant)
