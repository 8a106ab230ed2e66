use Rattle.std.proofs.Common.{◌∙◌, sym, ap, subst, rules}
use Rattle.std.specs.Int.{w32, w128}
use Rattle.std.proofs.lemmas.Int.{to_z-of_z}
use mir.Val.{SFits}
use Rattle.timing_types.specs.declared.easing.Easing.{Easing}
use Rattle.fix_num.specs.Fractions.{IsFraction}
use Rattle.easing.specs.Easings.{output_of}
use Rattle.easing.proofs.Ordered.{unit_of}
use Rattle.easing.proofs.outputs.output.Goals as goal

pub returns-in-Linear-clause-unit : goal.returns-in-Linear-clause-unit
unfolding output_of
returns-in-Linear-clause-unit c keeps =
    let num : SFits w128 c.args.num = c.ranges.num in
    let den : SFits w128 c.args.den = c.ranges.den in
    let value = simp to_z-of_z at c.billionths.ensures.value in
    let is = value ∙ sym (ap (λ (e : Easing). output_of e c.args.num c.args.den c.args.before) c.in-Linear.is) in
    subst IsFraction (sym is) (unit_of c.args.e c.args.num c.args.den c.args.before c.requires.easing keeps c.requires.low c.requires.high c.requires.positive)

pub returns-in-Cubic-clause-unit : goal.returns-in-Cubic-clause-unit
unfolding output_of
returns-in-Cubic-clause-unit c keeps =
    let num : SFits w128 c.args.num = c.ranges.num in
    let den : SFits w128 c.args.den = c.ranges.den in
    let x1 : SFits w32 c.in-Cubic.x1 = search rules in
    let y1 : SFits w32 c.in-Cubic.y1 = search rules in
    let x2 : SFits w32 c.in-Cubic.x2 = search rules in
    let y2 : SFits w32 c.in-Cubic.y2 = search rules in
    let value = simp to_z-of_z at c.cubic.ensures.value in
    let is = value ∙ sym (ap (λ (e : Easing). output_of e c.args.num c.args.den c.args.before) c.in-Cubic.is) in
    subst IsFraction (sym is) (unit_of c.args.e c.args.num c.args.den c.args.before c.requires.easing keeps c.requires.low c.requires.high c.requires.positive)

pub returns-in-Steps-clause-unit : goal.returns-in-Steps-clause-unit
unfolding output_of
returns-in-Steps-clause-unit c keeps =
    let num : SFits w128 c.args.num = c.ranges.num in
    let den : SFits w128 c.args.den = c.ranges.den in
    let value = simp to_z-of_z at c.steps.ensures.value in
    let is = value ∙ sym (ap (λ (e : Easing). output_of e c.args.num c.args.den c.args.before) c.in-Steps.is) in
    subst IsFraction (sym is) (unit_of c.args.e c.args.num c.args.den c.args.before c.requires.easing keeps c.requires.low c.requires.high c.requires.positive)
