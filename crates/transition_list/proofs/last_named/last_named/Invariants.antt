use Rattle.std.proofs.Common.{◌≡◌, take}
use Rattle.transition_list.specs.Matching.{last_named}
use Rattle.transition_list.proofs.last_named.last_named.Given as goal

abbrev pub invariant-loop-i : goal.invariant-loop-i
invariant-loop-i l = l.last ≡ last_named l.p (take l.i l.items)
