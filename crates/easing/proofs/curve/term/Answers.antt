use Rattle.std.proofs.Common.{rules}
use Rattle.std.specs.Prelude.{pos, ◌*ℤ◌}
use Rattle.std.specs.Int.{w32, w128}
use Rattle.std.proofs.lemmas.Int.{to_z-of_z}
use mir.Val.{SFits}
use Rattle.easing.proofs.Points.{term_size}
use Rattle.easing.proofs.curve.term.Goals as goal

pub returns-clause-size : goal.returns-clause-size
returns-clause-size c =
    let coordinate : SFits w32 c.args.coordinate = c.ranges.coordinate in
    let coordinate_wide : SFits w128 c.args.coordinate = search rules in
    let first = c.from.ensures in
    let second = simp to_z-of_z at c.from-2.ensures in
    let size = term_size c.args.weight c.args.coordinate c.requires.coordinate in
    let weight_wide : SFits w128 (pos c.args.weight) = search rules in
    let wide : SFits w128 (pos c.args.weight *ℤ c.args.coordinate) = search rules in
    simp (first, second, to_z-of_z) size
