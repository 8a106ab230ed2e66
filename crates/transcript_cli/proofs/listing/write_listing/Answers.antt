use Rattle.transcript_cli.proofs.Listings.{AreAppended, IsRead, listed}
use Rattle.transcript_cli.proofs.listing.write_listing.Goals as goal

pub returns : goal.returns
returns c =
    let is : IsRead c.args.entry.now c.running.result.now c.completed.result.now c.animations.result.now c.gone.result.now c.gone-2.result.now =
    record {
      running_are = c.running.ensures.value;
      completed_are = c.completed.ensures.value;
      animations_are = c.animations.ensures.value;
      gone_are = c.gone.ensures;
      again_are = c.gone-2.ensures;
    } in
    let read : AreAppended c.args.n c.running.result.now c.completed.result.now c.animations.result.now c.gone.result.now c.args.piece.now.items
    c.write_all_running.new.piece.items c.write_all_completed.new.piece.items c.write_animations.new.piece.items c.write_gone_transitions.new.piece.items =
    record {
      first = c.in_ok-write_all_running.ensures;
      second = c.in_ok-write_all_completed.ensures;
      third = c.in_ok-write_animations.ensures;
      fourth = c.in_ok-write_gone_transitions.ensures;
    } in
    listed c.write_gone_animations.result c.args.n c.args.entry.now c.running.result.now c.completed.result.now c.animations.result.now c.gone.result.now c.gone-2.result.now
    c.args.piece.now.items c.write_all_running.new.piece.items c.write_all_completed.new.piece.items c.write_animations.new.piece.items c.write_gone_transitions.new.piece.items
    c.write_gone_animations.new.piece.items is read c.write_gone_animations.ensures
