use Rattle.transcript_cli.proofs.Orders.{frame_written}
use Rattle.transcript_cli.proofs.answer.frame.Goals as goal

pub returns-clause-piece : goal.returns-clause-piece
returns-clause-piece g c =
    frame_written c.args.world.value c.into_inner.result c.deref.result.now c.in_ok-world.out.events.items _ _
    c.in_ok-world.ensures.events c.into_inner.ensures c.deref.ensures.value c.in_ok-write_events.ensures
