use Rattle.std.proofs.Common.{length}
use Rattle.doc_tree.specs.Element.{inclusive_ancestors}
use Rattle.selectors_mini.proofs.Climbs.{Searching}
use Rattle.selectors_mini.proofs.matching.fits_anywhere.Given as goal

abbrev pub invariant-loop-element : goal.invariant-loop-element
invariant-loop-element l = Searching l.compounds l.from l.tree.elements l.n l.left l.at

abbrev pub decreases-loop-element : goal.decreases-loop-element
decreases-loop-element l = length (inclusive_ancestors l.tree.elements l.at)
