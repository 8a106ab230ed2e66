use Rattle.std.proofs.Common.{arith, ◌∙◌}
use Rattle.fix_num.proofs.DecimalLemmas.{digit_taken}
use Rattle.fix_num.proofs.decimal.with_digits.Goals as goal

pub loop-digit-preserved : goal.loop-digit-preserved
loop-digit-preserved c =
    let read = c.min-value.ensures in
    let digit = c.from.ensures in
    let next = rw digit at read in
    record {
      bound = omega arith;
      same = digit_taken c.args.digits.now c.loop-digit.digit-index c.loop-digit.value c.min-value.result _ c.requires.digits c.loop-digit-test.true next ∙ c.loop-digit.invariant.same;
    }
