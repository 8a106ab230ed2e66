use Rattle.selectors_mini.proofs.Climbs.{Climbing}
use Rattle.selectors_mini.proofs.climb.climb_from.Given as goal

abbrev pub invariant-loop-element : goal.invariant-loop-element
invariant-loop-element l = Climbing l.compounds l.from l.tree.elements l.n l.left l.at

abbrev pub decreases-loop-element : goal.decreases-loop-element
decreases-loop-element l = l.left
