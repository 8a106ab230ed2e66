use Rattle.std.proofs.Common.{◌≡◌, take}
use Rattle.computed_style.proofs.declared_set.are_declared_alike.Given as goal

-- the declarations so far are the same
abbrev pub invariant-loop-i : goal.invariant-loop-i
invariant-loop-i l = take l.i l.a ≡ take l.i l.b
