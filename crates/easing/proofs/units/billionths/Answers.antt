use Rattle.std.proofs.Common.{◌≡◌, ◌^◌, ◌≤◌, arith, rules}
use Rattle.std.specs.Prelude.{pos, ◌*ℤ◌, unsigned_abs}
use Rattle.std.specs.Int.{w64, w128, cast_signed, cast_unsigned}
use Rattle.std.proofs.lemmas.Int.{to_z-of_z, fits_signed_from_abs}
use mir.Val.{SFits}
use Rattle.easing.specs.Billionths.{billionths}
use Rattle.easing.proofs.Rises.{billionths_size}
use Rattle.easing.proofs.units.billionths.Goals as goal

rounds : (c : goal.After-rnd) → c.rnd.result ≡ billionths c.args.part c.args.whole
rounds c =
    let part : SFits w128 c.args.part = c.ranges.part in
    let whole : SFits w128 c.args.whole = c.ranges.whole in
    let one = c.from.ensures in
    let one_wide : SFits w128 (pos (10 ^ 9)) = search rules in
    let product_wide : SFits w128 (c.args.part *ℤ pos (10 ^ 9)) = search rules in
    simp (one, to_z-of_z) at c.rnd.ensures.value

result_is : (c : goal.After-rnd) → cast_signed w128 (cast_unsigned w128 c.rnd.result) ≡ c.rnd.result
result_is c = to_z-of_z w128 c.rnd.result (record { sfits = c.rnd.type_inv })

size : (c : goal.After-rnd) → unsigned_abs c.rnd.result ≤ 10 ^ 10
size c = rw (rounds c) (billionths_size c.args.part c.args.whole c.requires.positive c.requires.within)

fits : (c : goal.After-rnd) → SFits w64 c.rnd.result
fits c = fits_signed_from_abs w64 c.rnd.result (omega (arith, size c))

pub overflow_cast-result : goal.overflow_cast-result
overflow_cast-result c = rw (result_is c) (fits c)

pub returns-clause-value : goal.returns-clause-value
returns-clause-value c = rw (result_is c, to_z-of_z w64 c.rnd.result (fits c)) (rounds c)

pub returns-clause-size : goal.returns-clause-size
returns-clause-size c = rw (result_is c, to_z-of_z w64 c.rnd.result (fits c)) (size c)
