use Rattle.std.proofs.Common.{map}
use Rattle.selectors_mini.specs.Parts.{parts_of}
use Rattle.selectors_mini.proofs.Lists.{SoFar}
use Rattle.selectors_mini.proofs.reading.each_selector.Given as goal

abbrev pub invariant-loop-i : goal.invariant-loop-i
invariant-loop-i l = SoFar (map (λ run. parts_of l.text run.now) l.runs) l.i l.has_long l.selectors.items
