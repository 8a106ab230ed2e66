use Rattle.std.proofs.Common.{ap, not, sym, ◌∙◌}
use Rattle.fix_num.proofs.RestLemmas.{middle_rest, other_rest}
use Rattle.fix_num.proofs.rounded.rest_counts.Goals as goal

pub returns-then-not-negative : goal.returns-then-not-negative
returns-then-not-negative c =
    let five = middle_rest c.args.negative c.args.places c.args.fraction.now c.requires.digits c.if-fraction-places.false c.if-digit-eq53.true in
    let sign = c.if-not-negative.true in
    rw sign (sym (rw sign at five))

pub returns-else-not-negative : goal.returns-else-not-negative
returns-else-not-negative c =
    let five = middle_rest c.args.negative c.args.places c.args.fraction.now c.requires.digits c.if-fraction-places.false c.if-digit-eq53.true in
    let sign = c.if-not-negative.false in
    rw sign (ap not c.is_exact_at.ensures ∙ sym (rw sign at five))

pub returns : goal.returns
returns c = other_rest c.args.negative c.args.places c.args.fraction.now c.requires.digits c.if-fraction-places.false c.if-digit-eq53.false
