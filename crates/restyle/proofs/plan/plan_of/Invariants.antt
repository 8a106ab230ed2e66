use Rattle.std.proofs.Common.{◌≡◌, map, take}
use Rattle.restyle.specs.TreePlans.{element_place}
use Rattle.restyle.proofs.plan.plan_of.Given as goal

-- the places of the elements so far
abbrev pub invariant-loop-at : goal.invariant-loop-at
invariant-loop-at l = l.places.items ≡ map (element_place l.tree) (take l.at l.tree.elements)
