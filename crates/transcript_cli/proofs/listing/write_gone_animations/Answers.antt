use Rattle.transcript_text.specs.Lines.{gone_line}
use Rattle.transcript_cli.specs.Listing.{is_animation, line_if}
use Rattle.transcript_cli.proofs.ListLines.{line_added, lines_of_all}
use Rattle.transcript_cli.proofs.listing.write_gone_animations.Goals as goal

pub loop-item-preserved : goal.loop-item-preserved
loop-item-preserved c =
    line_added (line_if is_animation (gone_line c.args.n)) c.args.gone.now c.loop-item.item-index c.item-item.result _ _ _
    c.loop-item-test.true c.item-item.is c.loop-item.invariant c.in_ok-write_if_animation.ensures

pub returns : goal.returns
returns c = lines_of_all is_animation (gone_line c.args.n) c.args.gone.now c.loop-item.item-index _ _ c.loop-item-test.false c.loop-item.invariant
