use Rattle.std.proofs.Common.{◌≡◌, take}
use Rattle.std.specs.Prelude.{map}
use Rattle.transition_start.specs.Results.{gone_item}
use Rattle.transition_update.proofs.cancel.cancel_transitions.Given as goal

abbrev pub invariant-loop-running : goal.invariant-loop-running
invariant-loop-running l = l.gone.items ≡ map (λ r. gone_item r.0 r.1 l.t.0) (take l.running-index l.transitions.running)
