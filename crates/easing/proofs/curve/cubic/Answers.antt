use Rattle.std.proofs.Common.{◌∙◌, ap, arith}
use Rattle.std.specs.Prelude.{pos}
use Rattle.std.specs.Int.{w32, w128}
use Rattle.std.proofs.lemmas.Int.{ints, to_z-of_z}
use mir.Val.{SFits}
use Rattle.easing.specs.Bezier.{parameter_of, ordinate_output, whole}
use Rattle.easing.specs.Billionths.{billionths}
use Rattle.easing.proofs.Halving.{parameter_only}
use Rattle.easing.proofs.curve.cubic.Goals as goal

pub returns-clause-value : goal.returns-clause-value
returns-clause-value c =
    let x1 : SFits w32 c.args.x1 = c.ranges.x1 in
    let x2 : SFits w32 c.args.x2 = c.ranges.x2 in
    let y1 : SFits w32 c.args.y1 = c.ranges.y1 in
    let y2 : SFits w32 c.args.y2 = c.ranges.y2 in
    let num : SFits w128 c.args.num = c.ranges.num in
    let den : SFits w128 c.args.den = c.ranges.den in
    let point : SFits w128 c.coordinate.result = record { sfits = c.coordinate.type_inv } in
    let input = simp to_z-of_z at c.input.ensures.value in
    let found = simp to_z-of_z at c.parameter-k.ensures in
    let height = simp to_z-of_z at c.coordinate.ensures.value in
    let output = simp to_z-of_z at c.billionths.ensures.value in
    let same = parameter_only c.args.x1 c.args.x2 (pos c.input.result) c.parameter-k.result (omega (arith, ints)) found in
    output ∙ ap (λ v. billionths v (pos whole)) height
    ∙ ap (ordinate_output c.args.y1 c.args.y2) (same ∙ ap (parameter_of c.args.x1 c.args.x2) input)
