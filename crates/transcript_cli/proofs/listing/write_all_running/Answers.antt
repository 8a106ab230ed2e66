use Rattle.transcript_text.specs.Lines.{running_line}
use Rattle.transcript_cli.proofs.ListLines.{line_added}
use Rattle.transcript_cli.proofs.listing.write_all_running.Goals as goal

pub loop-property-preserved : goal.loop-property-preserved
loop-property-preserved c =
    line_added (λ r. running_line c.args.n r.0 r.1) c.args.running.now c.loop-property.property-index c.loop-property-item.result _ _ _
    c.loop-property-test.true c.loop-property-item.is c.loop-property.invariant c.in_ok-write_running.ensures.ok
