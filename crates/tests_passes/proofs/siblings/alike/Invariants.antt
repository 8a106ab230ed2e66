use Rattle.std.proofs.Common.{◌≡◌, map, take}
use Rattle.tests_passes.proofs.siblings.alike.Given as goal

-- the entries of the rows so far
abbrev pub invariant-loop-element : goal.invariant-loop-element
invariant-loop-element l = l.entries.items ≡ map (λ row. (row.0, 7)) (take l.element-index l.table)
