use Rattle.std.proofs.Common.{◌≡◌, take}
use Rattle.computed_style.proofs.style.joined.Given as goal

abbrev pub invariant-loop-item : goal.invariant-loop-item
invariant-loop-item l = l.both.items ≡ take l.item-index l.first
