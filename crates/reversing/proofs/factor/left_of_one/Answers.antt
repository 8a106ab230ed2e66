use Rattle.std.proofs.Common.{◌≡◌, ◌^◌, ◌<◌, arith, refl, rules}
use Rattle.std.specs.Prelude.{◌+ℤ◌, ◌-ℤ◌, unsigned_abs}
use Rattle.std.specs.Int.{w64, w128}
use Rattle.std.proofs.lemmas.Int.{fits_signed_from_abs, ints, to_z-of_z}
use mir.Val.{SFits}
use Rattle.fix_num.specs.declared.units.TheConstants.Bill.{ONE}
use Rattle.reversing.specs.Reversal.{part_of}
use Rattle.reversing.proofs.Parts.{part_size}
use Rattle.reversing.proofs.factor.left_of_one.Goals as goal

part : (c : goal.After-from) → c.rounded_product.result ≡ part_of c.args.old.0 c.args.q.0
unfolding part_of
part c =
    let old : SFits w64 c.args.old.0 = search rules in
    let q : SFits w64 c.args.q.0 = search rules in
    simp to_z-of_z at c.rounded_product.ensures.value

rest : (c : goal.After-from) → c.from.result ≡ ONE.0 -ℤ c.args.old.0
rest c =
    let old : SFits w64 c.args.old.0 = search rules in
    let left : SFits w64 (ONE.0 -ℤ c.args.old.0) = search rules in
    simp to_z-of_z at c.from.ensures

size : (c : goal.After-from) → unsigned_abs (c.rounded_product.result +ℤ c.from.result) < 2 ^ 65
size c =
    let q : SFits w64 c.args.q.0 = search rules in
    let most = part_size c.args.old.0 c.args.q.0 c.requires in
    let small = q.sfits in
    let low = c.requires.low in
    let high = c.requires.high in
    rw (part c, rest c) (omega (arith, ints, most, small))

sum_fits : (c : goal.After-from) → SFits w128 (c.rounded_product.result +ℤ c.from.result)
sum_fits c = let small = size c in fits_signed_from_abs w128 (c.rounded_product.result +ℤ c.from.result) (omega (arith, small))

pub overflow_add-result : goal.overflow_add-result
overflow_add-result c =
    let product : SFits w128 c.rounded_product.result = record { sfits = c.rounded_product.type_inv } in
    let left : SFits w128 c.from.result = record { sfits = c.from.type_inv } in
    simp to_z-of_z (sum_fits c)

pub returns-clause-value : goal.returns-clause-value
returns-clause-value c =
    let product : SFits w128 c.rounded_product.result = record { sfits = c.rounded_product.type_inv } in
    let left : SFits w128 c.from.result = record { sfits = c.from.type_inv } in
    let sum = sum_fits c in
    simp to_z-of_z (rw (part c, rest c) refl)

pub returns-clause-size : goal.returns-clause-size
returns-clause-size c =
    let product : SFits w128 c.rounded_product.result = record { sfits = c.rounded_product.type_inv } in
    let left : SFits w128 c.from.result = record { sfits = c.from.type_inv } in
    let sum = sum_fits c in
    simp to_z-of_z (size c)
