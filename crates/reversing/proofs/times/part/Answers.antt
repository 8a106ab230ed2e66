use Rattle.std.proofs.Common.{◌≡◌, ◌≤◌, arith}
use Rattle.std.specs.Prelude.{unsigned_abs}
use Rattle.std.specs.Int.{w64, w128, cast_signed, cast_unsigned}
use Rattle.std.proofs.lemmas.Int.{to_z-of_z, fits_signed_from_abs}
use mir.Val.{SFits}
use Rattle.reversing.specs.Reversal.{part_of}
use Rattle.reversing.proofs.Parts.{part_size}
use Rattle.reversing.proofs.times.part.Goals as goal

rounds : (c : goal.After-rounded_product) → c.rounded_product.result ≡ part_of c.args.factor c.args.v
unfolding part_of
rounds c =
    let factor : SFits w64 c.args.factor = c.ranges.factor in
    let v : SFits w64 c.args.v = c.ranges.v in
    simp to_z-of_z at c.rounded_product.ensures.value

result_is : (c : goal.After-rounded_product) → cast_signed w128 (cast_unsigned w128 c.rounded_product.result) ≡ c.rounded_product.result
result_is c = to_z-of_z w128 c.rounded_product.result (record { sfits = c.rounded_product.type_inv })

size : (c : goal.After-rounded_product) → unsigned_abs c.rounded_product.result ≤ unsigned_abs c.args.v
size c = rw (rounds c) (part_size c.args.factor c.args.v c.requires.factor)

fits : (c : goal.After-rounded_product) → SFits w64 c.rounded_product.result
fits c = fits_signed_from_abs w64 c.rounded_product.result (omega (arith, size c))

pub overflow_cast-result : goal.overflow_cast-result
overflow_cast-result c = rw (result_is c) (fits c)

pub returns-clause-value : goal.returns-clause-value
returns-clause-value c = rw (result_is c, to_z-of_z w64 c.rounded_product.result (fits c)) (rounds c)

pub returns-clause-size : goal.returns-clause-size
returns-clause-size c = rw (result_is c, to_z-of_z w64 c.rounded_product.result (fits c)) (size c)
