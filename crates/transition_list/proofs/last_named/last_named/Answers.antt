use Rattle.std.proofs.Common.{refl}
use Rattle.transition_list.specs.Matching.{last_named_from}
use Rattle.transition_list.proofs.LastNamed.{next}
use Rattle.transition_list.proofs.last_named.last_named.Goals as goal

pub loop-i-init : goal.loop-i-init
unfolding last_named_from
loop-i-init c = refl

pub loop-i-preserved : goal.loop-i-preserved
loop-i-preserved c =
    rw (c.if_named-last.ensures, c.names.ensures, c.loop-i.invariant) (next c.args.p c.args.items.now c.loop-i.i _ c.loop-i-test.true)
