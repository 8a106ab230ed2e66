use Rattle.std.proofs.Common.{◌∙◌, sym, arith}
use Rattle.std.specs.Int.{w128}
use Rattle.std.proofs.lemmas.Int.{ints, to_z-of_z}
use mir.Val.{SFits}
use Rattle.fix_num.specs.declared.units.TheConstants.Bill.{ONE}
use Rattle.keyframes.specs.PropertyKeyframes.{frames_of, zero_offset}
use Rattle.keyframes.proofs.KeyframeLemmas.{end_ahead, no_sample, offset_within, some_sample, start_reached}
use Rattle.keyframes.proofs.effect_value.sample_at.Goals as goal

pub returns-then-not-is_any-clause-value : goal.returns-then-not-is_any-clause-value
returns-then-not-is_any-clause-value c =
    let num : SFits w128 c.args.num = c.ranges.num in
    let den : SFits w128 c.args.den = c.ranges.den in
    let last = simp to_z-of_z at c.last_reached-last.ensures.value in
    let next = simp to_z-of_z at c.first_ahead-next.ensures.value in
    no_sample c.args.x.now c.args.frames.now c.args.num c.args.den c.last_reached-last.result c.first_ahead-next.result c.requires.progress last next
    (sym c.is_any.ensures ∙ c.if-not-is_any.true)

pub interval_value-requires-clause-begun : goal.interval_value-requires-clause-begun
interval_value-requires-clause-begun c =
    let num : SFits w128 c.args.num = c.ranges.num in
    let den : SFits w128 c.args.den = c.ranges.den in
    let last = simp to_z-of_z at c.last_reached-last.ensures.value in
    rw (to_z-of_z w128 c.args.num num, to_z-of_z w128 c.args.den den, c.keyframe_or-from.ensures.value)
    (start_reached c.args.x.now (frames_of c.args.x.now.property c.args.frames.now) c.args.num c.args.den c.last_reached-last.result c.requires.progress last)

pub interval_value-requires-clause-ahead : goal.interval_value-requires-clause-ahead
interval_value-requires-clause-ahead c =
    let num : SFits w128 c.args.num = c.ranges.num in
    let den : SFits w128 c.args.den = c.ranges.den in
    let next = simp to_z-of_z at c.first_ahead-next.ensures.value in
    rw (to_z-of_z w128 c.args.num num, to_z-of_z w128 c.args.den den, c.keyframe_or-to.ensures.value)
    (end_ahead c.args.x.now (frames_of c.args.x.now.property c.args.frames.now) c.args.num c.args.den c.first_ahead-next.result next)

pub interval_value-requires-clause-start : goal.interval_value-requires-clause-start
interval_value-requires-clause-start c =
    rw c.keyframe_or-from.ensures.value
    (offset_within c.args.x.now c.args.x.now.property c.last_reached-last.result zero_offset c.last_reached-last.ensures.bounds
    (record { low = omega (arith, ints); high = omega (arith, ints) }))

pub interval_value-requires-clause-end : goal.interval_value-requires-clause-end
interval_value-requires-clause-end c =
    rw c.keyframe_or-to.ensures.value
    (offset_within c.args.x.now c.args.x.now.property c.first_ahead-next.result ONE c.first_ahead-next.ensures.bounds
    (record { low = omega (arith, ints); high = omega (arith, ints) }))

pub returns-clause-value : goal.returns-clause-value
returns-clause-value c =
    let num : SFits w128 c.args.num = c.ranges.num in
    let den : SFits w128 c.args.den = c.ranges.den in
    let last = simp to_z-of_z at c.last_reached-last.ensures.value in
    let next = simp to_z-of_z at c.first_ahead-next.ensures.value in
    let value = simp to_z-of_z at c.interval_value.ensures.value in
    some_sample c.args.x.now c.args.frames.now c.args.num c.args.den c.last_reached-last.result c.first_ahead-next.result c.keyframe_or-from.result
    c.keyframe_or-to.result c.interval_value.result c.requires.progress last next (sym c.is_any.ensures ∙ c.if-not-is_any.false)
    c.keyframe_or-from.ensures.value c.keyframe_or-to.ensures.value value
