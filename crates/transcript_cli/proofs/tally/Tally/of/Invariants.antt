use Rattle.std.proofs.Common.{◌≡◌, ◌+◌, codes, length}
use Rattle.transcript_cli.specs.Demo.{event_count, event_count_of}
use Rattle.transcript_cli.proofs.tally.Tally.of.Given as goal

-- what was counted, and what the rest has, is what there is
abbrev pub invariant-lines : goal.invariant-lines
invariant-lines l = record {
  events : l.tally.events + event_count l.rest ≡ event_count l.transcript;
  cancels : l.tally.cancels + event_count_of (codes "transitioncancel") l.rest ≡ event_count_of (codes "transitioncancel") l.transcript;
  ends : l.tally.ends + event_count_of (codes "transitionend") l.rest ≡ event_count_of (codes "transitionend") l.transcript;
}

abbrev pub decreases-lines : goal.decreases-lines
decreases-lines l = length l.rest
