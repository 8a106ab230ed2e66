use Rattle.std.specs.Int.{w128}
use Rattle.std.proofs.lemmas.Int.{to_z-of_z}
use mir.Val.{SFits}
use Rattle.keyframes.proofs.Distances.{IsDistance, distances}
use Rattle.keyframes.proofs.effect_value.output_between.Goals as goal

distance : (c : goal.After-length) → IsDistance c.passed.result c.length.result
distance c =
    let num : SFits w128 c.args.num = c.ranges.num in
    let den : SFits w128 c.args.den = c.ranges.den in
    let passed = simp to_z-of_z at c.passed.ensures in
    let length = simp to_z-of_z at c.length.ensures in
    rw (passed, length)
    (distances c.args.num c.args.den c.args.a.offset.0 c.args.b.offset.0 c.requires.progress c.requires.start c.requires.end c.requires.begun c.requires.ahead)

pub output-requires-clause-low : goal.output-requires-clause-low
output-requires-clause-low c =
    let passed : SFits w128 c.passed.result = record { sfits = c.passed.type_inv } in rw (to_z-of_z w128 c.passed.result passed) (distance c).low

pub output-requires-clause-high : goal.output-requires-clause-high
output-requires-clause-high c =
    let passed : SFits w128 c.passed.result = record { sfits = c.passed.type_inv } in
    let length : SFits w128 c.length.result = record { sfits = c.length.type_inv } in
    rw (to_z-of_z w128 c.passed.result passed, to_z-of_z w128 c.length.result length) (distance c).high

pub output-requires-clause-positive : goal.output-requires-clause-positive
output-requires-clause-positive c =
    let length : SFits w128 c.length.result = record { sfits = c.length.type_inv } in rw (to_z-of_z w128 c.length.result length) (distance c).positive

pub output-requires-clause-small : goal.output-requires-clause-small
output-requires-clause-small c =
    let length : SFits w128 c.length.result = record { sfits = c.length.type_inv } in rw (to_z-of_z w128 c.length.result length) (distance c).small
