use Rattle.std.proofs.Common.{◌<◌, arith, length}
use Rattle.restyle.proofs.Reordering.{next_left, next_list}
use Rattle.restyle.proofs.entries.reordered.Goals as goal

pub loop-at-preserved : goal.loop-at-preserved
loop-at-preserved c =
    let within : c.loop-at.at < length c.args.tree.now.elements = omega (arith, c.loop-at-test.true, c.len-at-end.ensures.value) in
    record {
      list = next_list c.args.tree.now c.len.ensures.tree c.args.taken c.loop-at.taken c.push_entry.new.taken c.loop-at.at within c.loop-at.invariant.left c.loop-at.list.items c.push_entry.new.list.items
          c.loop-at.invariant.list c.in_ok-push_entry.ensures.list;
      aligned = c.push_entry.ensures.aligned;
      left = next_left c.args.tree.now c.len.ensures.tree c.args.taken c.loop-at.taken c.push_entry.new.taken c.loop-at.at within c.loop-at.invariant.left c.in_ok-push_entry.ensures.others;
    }
