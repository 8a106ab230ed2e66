use Rattle.std.proofs.Common.{◌-◌, ◌≤◌}
use Rattle.text_io.specs.Buffer.{pending_of}
use Rattle.text_io.proofs.FillLemmas.{Filled}
use Rattle.text_io.proofs.cutter.fill_line.Given as goal

abbrev pub invariant-reads : goal.invariant-reads
invariant-reads g l = record {
  filled : Filled (pending_of l.initial.buffer) (pending_of l.buffer) l.initial.buffer.taken l.buffer.taken
      (g.S.Source.left l.initial.source) (g.S.Source.left l.source) l.searched;
  limited : l.buffer.taken ≤ 67108864;
  faults : g.S.Source.faults l.initial.source ≤ g.S.Source.faults l.source;
}

abbrev pub decreases-reads : goal.decreases-reads
decreases-reads g l = 67108865 - l.buffer.taken
