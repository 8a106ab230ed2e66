use Rattle.std.proofs.Common.{arith}
use Rattle.text_io.proofs.RangeLemmas.{read_after}
use Rattle.text_io.proofs.buffer.read_to.Goals as goal

pub returns-clause-given : goal.returns-clause-given
returns-clause-given g c =
    read_after c.read.result _ _ c.read.new.buf c.args.bytes.now _ c.args.from (omega arith) c.read.ensures.bound c.read.ensures.bytes
