use Rattle.std.proofs.Common.{◌^◌}
use Rattle.fix_num.specs.Decimal.{units_of}
use Rattle.fix_num.proofs.DecimalLemmas.{units_read}
use Rattle.fix_num.proofs.decimal.units_at.Goals as goal

pub returns : goal.returns
unfolding units_of
returns c =
    units_read c.args.parts.now.whole.now c.args.parts.now.fraction.now c.args.places c.min-kept.result (2 ^ 63) _ _ _ c.requires c.min-kept.ensures
    c.with_digits-whole.ensures.value c.with_digits-exact.ensures.value c.with_digits.ensures.value
