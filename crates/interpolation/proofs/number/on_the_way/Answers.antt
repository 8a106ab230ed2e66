use Rattle.std.proofs.Common.{◌≤◌, ◌*◌, ◌^◌, ap, arith, rules}
use Rattle.std.specs.Prelude.{◌+ℤ◌, ◌-ℤ◌, unsigned_abs}
use Rattle.std.specs.Int.{w64, w128}
use Rattle.std.proofs.lemmas.Int.{fits_signed_from_abs, ints, to_z-of_z}
use Rattle.std.proofs.Math.Nat.{mul-le-mul}
use mir.Val.{SFits}
use Rattle.interpolation.specs.Numbers.{on_the_way}
use Rattle.interpolation.proofs.number.on_the_way.Goals as goal

-- the way as long as it may be, at the furthest output
size : (c : goal.After-rounded_product) → unsigned_abs c.rounded_product.result ≤ (2 * 10 ^ 12) * (4 * 10 ^ 10)
size c =
    let a : SFits w64 c.args.a = c.ranges.a in
    let b : SFits w64 c.args.b = c.ranges.b in
    let q : SFits w64 c.args.q = c.ranges.q in
    let way : unsigned_abs (c.args.b -ℤ c.args.a) ≤ 2 * 10 ^ 12 = omega (arith, ints) in
    let way_fits : SFits w64 (c.args.b -ℤ c.args.a) = fits_signed_from_abs w64 (c.args.b -ℤ c.args.a) (omega (arith, way)) in
    let most = mul-le-mul way c.requires.output in
    let part = simp to_z-of_z at c.rounded_product.ensures.size in
    omega (arith, most, part)

sum_fits : (c : goal.After-rounded_product) → SFits w128 (c.args.a +ℤ c.rounded_product.result)
sum_fits c = let part = size c in fits_signed_from_abs w128 (c.args.a +ℤ c.rounded_product.result) (omega (arith, ints, part))

pub overflow_add-result : goal.overflow_add-result
overflow_add-result c =
    let a : SFits w64 c.args.a = c.ranges.a in
    let a_wide : SFits w128 c.args.a = search rules in
    let first = simp to_z-of_z at c.from.ensures in
    let part : SFits w128 c.rounded_product.result = record { sfits = c.rounded_product.type_inv } in
    simp (first, to_z-of_z) (sum_fits c)

pub returns : goal.returns
unfolding on_the_way
returns c =
    let a : SFits w64 c.args.a = c.ranges.a in
    let b : SFits w64 c.args.b = c.ranges.b in
    let q : SFits w64 c.args.q = c.ranges.q in
    let a_wide : SFits w128 c.args.a = search rules in
    let way : SFits w64 (c.args.b -ℤ c.args.a) = search rules in
    let first = simp to_z-of_z at c.from.ensures in
    let part : SFits w128 c.rounded_product.result = record { sfits = c.rounded_product.type_inv } in
    let sum : SFits w128 (c.args.a +ℤ c.rounded_product.result) = sum_fits c in
    let taken = simp to_z-of_z at c.rounded_product.ensures.value in
    simp (first, to_z-of_z) (ap (λ z. c.args.a +ℤ z) taken)
