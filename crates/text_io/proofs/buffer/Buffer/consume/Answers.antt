use Rattle.text_io.proofs.RangeLemmas.{range_consumed}
use Rattle.text_io.proofs.buffer.Buffer.consume.Goals as goal

pub returns-clause-pending : goal.returns-clause-pending
returns-clause-pending c =
    let b = c.args.self.now in range_consumed b.bytes.items b.start b.end c.args.count
