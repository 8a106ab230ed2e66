use Rattle.std.proofs.Common.{arith}
use Rattle.fix_num.proofs.PrintLemmas.{place_left, digit_pushed, fraction_done, starts_with_more}
use Rattle.fix_num.proofs.print.push_fraction.Goals as goal

pub loop-left-preserved : goal.loop-left-preserved
loop-left-preserved c =
    let before = c.loop-left.invariant in
    let some = place_left c.loop-left.place c.loop-left.left before.below c.loop-left-test.true in
    let unit = c.unit_of-unit.ensures.value in
    let positive = c.unit_of-unit.ensures.positive in
    record {
      few = omega arith;
      starts = rw c.in_ok-push-2.ensures.items (starts_with_more _ _ _ before.starts);
      below = omega arith;
      digits = digit_pushed _ _ _ _ _ _ some c.loop-left-test.true unit c.in_ok-push-2.ensures.items before.digits;
    }

pub returns-clause-ok : goal.returns-clause-ok
returns-clause-ok c =
    fraction_done _ _ _ _ _ _ _ c.if-rest-eq0.false c.loop-left-test.false c.in_ok-push.ensures.items c.loop-left.invariant.digits
