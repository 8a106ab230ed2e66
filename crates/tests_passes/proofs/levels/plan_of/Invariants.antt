use Rattle.std.proofs.Common.{◌≡◌, map, take}
use Rattle.tests_passes.proofs.levels.plan_of.Given as goal

-- the places of the rows so far
abbrev pub invariant-loop-element : goal.invariant-loop-element
invariant-loop-element l = l.places.items ≡ map (λ row. record { element = row.0; parent = row.1; end = row.2 }) (take l.element-index l.table)
