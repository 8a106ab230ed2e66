use Rattle.std.proofs.Common.{arith}
use Rattle.list_text.proofs.ViewLemmas.{natural_size}
use Rattle.list_text.proofs.easing.step_count.Goals as goal

pub overflow_cast-result : goal.overflow_cast-result
overflow_cast-result c = let size = natural_size 0 1000000 c.args.number.now c.in_ok-count.count c.in_ok-count.ensures in omega (arith, size)
