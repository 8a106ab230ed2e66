use Rattle.std.proofs.Common.{◌-◌, ◌≤◌, length, take}
use Rattle.std.specs.Io.KnownBytes.{Appends}
use Rattle.text_io.proofs.pieces.put_all.Given as goal

abbrev pub invariant-writes : goal.invariant-writes
invariant-writes g l = record {
  within : l.done ≤ length l.bytes;
  held : Appends (g.K.Sink.held l.initial.sink) (g.K.Sink.held l.sink) (take l.done l.bytes);
  faults : g.K.Sink.faults l.initial.sink ≤ g.K.Sink.faults l.sink;
  empties : g.K.Sink.empty_writes l.initial.sink ≤ g.K.Sink.empty_writes l.sink;
}

abbrev pub decreases-writes : goal.decreases-writes
decreases-writes g l = length l.bytes - l.done
