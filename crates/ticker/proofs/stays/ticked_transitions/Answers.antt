use Rattle.std.proofs.Common.{◌∙◌, ap, arith}
use Rattle.computed_style.proofs.ByIndex.{number-property_at, property_at}
use Rattle.style_data.specs.TransitionSets.{kept_with}
use Rattle.ticker.proofs.Kept.{one_after}
use Rattle.ticker.proofs.Steps.{next_kept}
use Rattle.ticker.specs.Ticks.{completed_after, running_after}
use Rattle.ticker.proofs.stays.ticked_transitions.Goals as goal

pub keep-requires-clause-last : goal.keep-requires-clause-last
unfolding property_at
keep-requires-clause-last c = c.loop-p.invariant.last (property_at c.loop-p.p-index) (omega (arith, number-property_at c.loop-p.p-index (omega arith)))

pub keep-requires-clause-apart : goal.keep-requires-clause-apart
unfolding property_at
keep-requires-clause-apart c =
    rw (c.running_after-running.ensures.value, c.completed_after-completed.ensures.value)
    (one_after c.args.t.0 c.args.transitions.now (property_at c.loop-p.p-index) c.running.ensures.kept)

pub loop-p-preserved : goal.loop-p-preserved
unfolding property_at
loop-p-preserved c =
    let p = property_at c.loop-p.p-index in
    next_kept (running_after c.args.t.0 c.args.transitions.now) (completed_after c.args.t.0 c.args.transitions.now) c.loop-p.p-index c.loop-p.ticked _
    c.loop-p.invariant (omega arith)
    (c.in_ok-keep.ensures.ok ∙ ap (λ r. kept_with c.loop-p.ticked p r c.completed_after-completed.result) c.running_after-running.ensures.value
    ∙ ap (λ d. kept_with c.loop-p.ticked p (running_after c.args.t.0 c.args.transitions.now p) d) c.completed_after-completed.ensures.value)
