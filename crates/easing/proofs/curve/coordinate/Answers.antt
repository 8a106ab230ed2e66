use Rattle.std.proofs.Common.{◌≡◌, ◌∙◌, ◌-◌, arith, rules, refl, sym}
use Rattle.std.specs.Prelude.{ℤ, ◌+ℤ◌}
use Rattle.std.specs.Int.{w32, w128, cast_signed, cast_unsigned}
use Rattle.std.proofs.lemmas.Int.{to_z-of_z}
use mir.Val.{SFits}
use Rattle.easing.specs.Bezier.{parts}
use Rattle.easing.proofs.Points.{weighted, is_weighted, weighted_size}
use Rattle.easing.proofs.curve.coordinate.Goals as goal

abbrev sum : (c : goal.After-term-3) → ℤ
sum c = cast_signed w128 (cast_unsigned w128 (cast_signed w128 (cast_unsigned w128 (cast_signed w128 (cast_unsigned w128 c.term.result) +ℤ cast_signed w128 (cast_unsigned w128 c.term-2.result))) +ℤ cast_signed w128 (cast_unsigned w128 c.term-3.result)))

sum_is : (c : goal.After-term-3) → sum c ≡ weighted c.product.result c.product-2.result c.product-3.result c.args.first c.args.second
sum_is c =
    let first : SFits w32 c.args.first = c.ranges.first in
    let second : SFits w32 c.args.second = c.ranges.second in
    let f1 : SFits w128 c.term.result = record { sfits = c.term.type_inv } in
    let f2 : SFits w128 c.term-2.result = record { sfits = c.term-2.type_inv } in
    let f3 : SFits w128 c.term-3.result = record { sfits = c.term-3.type_inv } in
    let f4 : SFits w128 (c.term.result +ℤ c.term-2.result) = search rules in
    let f5 : SFits w128 ((c.term.result +ℤ c.term-2.result) +ℤ c.term-3.result) = search rules in
    let one = simp to_z-of_z at c.term.ensures.value in
    let two = simp to_z-of_z at c.term-2.ensures.value in
    let three = c.term-3.ensures.value in
    simp to_z-of_z (rw (one, two, three) refl)

pub returns-clause-value : goal.returns-clause-value
returns-clause-value c = sum_is c ∙ sym (is_weighted c.args.k c.product.result c.product-2.result c.product-3.result c.args.first c.args.second c.product.ensures.value c.product-2.ensures.value c.product-3.ensures.value)

pub returns-clause-size : goal.returns-clause-size
returns-clause-size c =
    rw (sum_is c) (weighted_size c.args.k (parts - c.args.k) c.product.result c.product-2.result c.product-3.result c.args.first c.args.second (omega arith)
    c.product.ensures.value c.product-2.ensures.value c.product-3.ensures.value c.requires.first c.requires.second)
