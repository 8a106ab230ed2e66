use Rattle.std.proofs.Common.{◌≡◌, drop}
use Rattle.pass_core.specs.Passes.{value_for}
use Rattle.pass_core.proofs.values.value_for.Given as goal

abbrev pub invariant-loop-value : goal.invariant-loop-value
invariant-loop-value g l = value_for l.values l.element ≡ value_for (drop l.value-index l.values) l.element
