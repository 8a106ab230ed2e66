use Rattle.std.proofs.Common.{subst, sym}
use Rattle.style_data.specs.TransitionSets.{ComesLast, transition_set}
use Rattle.style_data.proofs.TransitionLemmas.{running_pushed}
use Rattle.style_data.proofs.transitions.Transitions.push_running.Goals as goal

pub invariant_of-self-2 : goal.invariant_of-self-2
invariant_of-self-2 c =
    rw c.in_ok-push.ensures.ok
    (running_pushed (transition_set c.self.inside.running.items c.self.inside.completed.items) c.args.p c.args.running c.self.invariant
    (subst (ComesLast c.args.p) (sym c.self.view_is) c.requires.last) c.requires.kept)
