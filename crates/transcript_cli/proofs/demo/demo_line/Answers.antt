use Rattle.transcript_cli.proofs.Demonstrations.{line_written}
use Rattle.transcript_cli.proofs.demo.demo_line.Goals as goal

pub returns : goal.returns
returns g c =
    line_written c.args.seed _ _ _ _ _ _ _ c.new-line.ensures.bytes c.in_ok-writeln.ensures.bytes (c.scripts_are_short.ensures.frames c.args.seed)
    c.of-events.ensures.events c.of-events.ensures.cancels c.of-events.ensures.ends c.deref.ensures.value c.in_ok-transcript.ensures
