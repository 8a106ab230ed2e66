use Rattle.std.proofs.Common.{◌≡◌, take}
use Rattle.restyle.specs.States.{departed_in}
use Rattle.restyle.proofs.departed.departed_items.Given as goal

-- what those had that were removed so far
abbrev pub invariant-loop-elements : goal.invariant-loop-elements
invariant-loop-elements l = l.departed.items ≡ departed_in l.entries (take l.elements-index l.removed)
