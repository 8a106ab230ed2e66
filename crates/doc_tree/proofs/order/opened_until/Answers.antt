use Rattle.std.proofs.Common.{arith}
use Rattle.doc_tree.proofs.Numbers.{below-at}
use Rattle.doc_tree.proofs.Walks.{count-until}
use Rattle.doc_tree.proofs.order.opened_until.Goals as goal

pub loop-step-preserved : goal.loop-step-preserved
loop-step-preserved c =
    let count = count-until c.args.next.now c.args.last c.args.most c.loop-step._step c.loop-step.mark c.loop-step-test.true c.if-mark-last.false in
    let small = c.opened_at-count.ensures.small in
    let inv = c.loop-step.invariant in
    record {
      told = omega (arith, inv.told, count, c.opened_at-count.ensures.count);
      few = omega (arith, inv.few, small);
      within = below-at c.args.next.now c.loop-step.mark _ inv.within c.requires.links;
    }
