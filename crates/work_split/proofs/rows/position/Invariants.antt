use Rattle.std.proofs.Common.{◌≡◌, drop}
use Rattle.pass_core.specs.Passes.{value_for}
use Rattle.work_split.proofs.rows.position.Given as goal

-- the element stands at none of the indexes so far
abbrev pub invariant-loop-i : goal.invariant-loop-i
invariant-loop-i g l = value_for l.entries l.element ≡ value_for (drop l.i l.entries) l.element
