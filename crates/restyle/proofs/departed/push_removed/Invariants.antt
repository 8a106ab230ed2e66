use Rattle.std.proofs.Common.{◌≡◌, ◌++◌, take}
use Rattle.restyle.specs.Worlds.{all_departed_of}
use Rattle.restyle.proofs.departed.push_removed.Given as goal

abbrev pub invariant-loop-n : goal.invariant-loop-n
invariant-loop-n l = l.departed.items ≡ l.initial.departed.items ++ all_departed_of l.entries l.removed.time (take l.n-index l.removed.numbers.items)
