use Rattle.std.proofs.Common.{None, arith}
use Rattle.pass_core.proofs.Keeping.{all_come, begun, next_come, parent_kept}
use Rattle.pass_core.proofs.alone.pass_alone.Goals as goal

pub loop-place-init : goal.loop-place-init
loop-place-init g c = record {
  come = begun (g.W.TreeWork.meaning c.args.work.now) c.args.plan.now.places.items c.args.entries.items _ c.requires.distinct c.requires.entries (rw c.top.ensures at c.in_ok-downs.ensures);
  last = tt;
}

pub update_place-requires-clause-parent : goal.update_place-requires-clause-parent
update_place-requires-clause-parent g c κs within =
    rw c.deref-place-items.ensures.value (parent_kept (g.W.TreeWork.meaning c.args.work.now) c.args.plan.now.places.items c.args.entries.items c.loop-place.place-index c.loop-place.closing.items
    c.loop-place.downs c.loop-place.invariant.come c.requires.proper (omega arith) record { element = 0; parent = None; end = 0 })

pub loop-place-preserved : goal.loop-place-preserved
loop-place-preserved g c = record {
  come =
      next_come (g.W.TreeWork.meaning c.args.work.now) c.args.plan.now.places.items c.args.entries.items c.loop-place.place-index c.loop-place.closing.items
      c.loop-place.downs c.loop-place.invariant.come c.requires.proper (omega arith) record { element = 0; parent = None; end = 0 }
      c.update_place.new.entries.items c.update_place.new.downs (rw c.deref-place-items.ensures.value at c.in_ok-next.ensures.noted);
  last = c.in_ok-next.ensures.last;
}

pub returns : goal.returns
returns g c =
    all_come (g.W.TreeWork.meaning c.args.work.now) c.args.plan.now.places.items c.args.entries.items c.loop-place.place-index c.loop-place.closing.items
    c.loop-place.downs c.loop-place.invariant.come c.requires.proper c.requires.entries (omega arith)
