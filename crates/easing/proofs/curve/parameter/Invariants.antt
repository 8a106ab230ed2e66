use Rattle.std.proofs.Common.{◌-◌}
use Rattle.std.specs.Prelude.{pos}
use Rattle.easing.proofs.Halving.{Between}
use Rattle.easing.proofs.curve.parameter.Given as goal

abbrev pub invariant-loop-beyond : goal.invariant-loop-beyond
invariant-loop-beyond l = Between l.x1 l.x2 (pos l.x) l.reached l.beyond

abbrev pub decreases-loop-beyond : goal.decreases-loop-beyond
decreases-loop-beyond l = l.beyond - l.reached
