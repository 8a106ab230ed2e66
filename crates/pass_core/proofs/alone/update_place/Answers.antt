use Rattle.pass_core.proofs.Lasts.{asked_noted, noted_last}
use Rattle.pass_core.proofs.alone.update_place.Goals as goal

pub returns-clause-noted : goal.returns-clause-noted
returns-clause-noted g c =
    asked_noted (g.W.TreeWork.meaning c.args.work.now) c.args.entries.now.items c.put_outcome.new.entries.items c.args.downs.now c.put_outcome.new.downs c.args.place
    c.index_of-at.result c.index.result.now c.down_for-down.result.now c.is_leaf-leaf.result c.in_ok-outcome.outcome c.requires.distinct
    (rw c.as_slice.ensures.value at c.index_of-at.ensures.within) ((rw c.as_slice.ensures.value at c.index_of-at.ensures.here) c.index.result.now)
    c.index.ensures c.down_for-down.ensures c.is_leaf-leaf.ensures c.in_ok-outcome.ensures c.in_ok-last.ensures.noted

pub returns-clause-last : goal.returns-clause-last
returns-clause-last g c =
    noted_last (g.W.TreeWork.meaning c.args.work.now) c.args.entries.now.items c.put_outcome.new.entries.items c.args.downs.now c.put_outcome.new.downs c.args.place
    c.index_of-at.result c.index.result.now c.down_for-down.result.now c.is_leaf-leaf.result c.in_ok-outcome.outcome c.in_ok-last.field-0
    c.down_for-down.ensures c.index.ensures c.in_ok-outcome.ensures c.in_ok-last.ensures.noted.downs_are c.in_ok-last.ensures.place
    c.in_ok-last.ensures.before c.in_ok-last.ensures.last
