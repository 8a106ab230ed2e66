use Rattle.std.proofs.Common.{◌≡◌, ◌++◌, map, take}
use Rattle.restyle.proofs.departed.push_items.Given as goal

abbrev pub invariant-loop-item : goal.invariant-loop-item
invariant-loop-item l = l.departed.items ≡ l.initial.departed.items ++ map (λ g. (l.n, g)) (take l.item-index l.items)
