use Rattle.std.proofs.Common.{arith}
use Rattle.pass_core.proofs.ListsByElement.{found_as_read}
use Rattle.pass_core.proofs.values.index_of.Goals as goal

pub returns-then-value-element : goal.returns-then-value-element
returns-then-value-element g c =
    (omega arith, found_as_read c.args.values.now c.args.element c.loop-i.i c.index-values-i.result (omega arith) c.index-values-i.is c.if-value-element.true c.loop-i.invariant)
