use Rattle.std.proofs.Common.{rules}
use Rattle.std.specs.Prelude.{pos, ◌*ℤ◌}
use Rattle.std.specs.Int.{w32, w128}
use Rattle.std.proofs.lemmas.Int.{to_z-of_z}
use mir.Val.{SFits}
use Rattle.easing.specs.Bezier.{whole}
use Rattle.easing.proofs.Halving.{le_tells}
use Rattle.easing.proofs.curve.is_reached.Goals as goal

pub returns : goal.returns
returns c =
    let first : SFits w32 c.args.x1 = c.ranges.x1 in
    let second : SFits w32 c.args.x2 = c.ranges.x2 in
    let is = simp to_z-of_z at c.coordinate.ensures.value in
    let one = c.from.ensures in
    let two = c.from-2.ensures in
    let f1 : SFits w128 c.coordinate.result = record { sfits = c.coordinate.type_inv } in
    let f2 : SFits w128 c.from.result = search rules in
    let f3 : SFits w128 c.from-2.result = search rules in
    let f4 : SFits w128 (c.coordinate.result *ℤ c.from.result) = search rules in
    let f5 : SFits w128 (c.from-2.result *ℤ pos whole) = search rules in
    simp to_z-of_z (rw (is, one, two) (le_tells _ _))
