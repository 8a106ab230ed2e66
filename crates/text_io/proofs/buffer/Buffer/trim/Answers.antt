use Rattle.std.proofs.Common.{◌+◌, sym, arith, take_all, lit<}
use Rattle.std.proofs.lemmas.List.Edits.{length-between}
use Rattle.text_io.proofs.RangeLemmas.{range_front}
use Rattle.text_io.proofs.buffer.Buffer.trim.Goals as goal

pub returns-then-self-gt-MAX_LINE-clause-pending : goal.returns-then-self-gt-MAX_LINE-clause-pending
returns-then-self-gt-MAX_LINE-clause-pending c =
    let b = c.args.self.now in
    (1048577, lit< tt, range_front b.bytes.items b.start b.end (b.start + 1048576 + 1) 1048577 (omega arith) (omega arith))

pub returns-else-self-gt-MAX_LINE-clause-pending : goal.returns-else-self-gt-MAX_LINE-clause-pending
returns-else-self-gt-MAX_LINE-clause-pending c =
    let b = c.args.self.now in (
      1048577,
      lit< tt,
      sym (take_all 1048577 _ (omega (arith, length-between b.bytes.items b.start b.end (omega (arith, b.within, b.whole, b.bytes.ok.0))))),
    )
