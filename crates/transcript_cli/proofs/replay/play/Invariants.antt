use Rattle.text_io.specs.Reader.{steps_left}
use Rattle.transcript_cli.specs.Play.{IsPlaying}
use Rattle.transcript_cli.proofs.replay.play.Given as goal

-- what was read and written so far are the lines that were answered and what they write
abbrev pub invariant-script : goal.invariant-script
invariant-script g l = IsPlaying (g.S.Source.left l.initial.source) (g.S.Source.left l.source) l.lines l.world.value l.number l.refused (g.S.Source.faults l.initial.source) (g.S.Source.faults l.source)
    (record { bytes = g.K.Sink.held l.initial.sink; faults = g.K.Sink.faults l.initial.sink; empty_writes = g.K.Sink.empty_writes l.initial.sink })
    (record { bytes = g.K.Sink.held l.sink; faults = g.K.Sink.faults l.sink; empty_writes = g.K.Sink.empty_writes l.sink })

-- each line is a step towards the end of what may be read
abbrev pub decreases-script : goal.decreases-script
decreases-script g l = steps_left l.lines
