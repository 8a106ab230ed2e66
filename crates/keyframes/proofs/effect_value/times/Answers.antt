use Rattle.std.proofs.Common.{◌≡◌, ◌^◌, ◌≤◌, ap, arith, rules}
use Rattle.std.specs.Prelude.{◌*ℤ◌, unsigned_abs}
use Rattle.std.specs.Int.{w64, w128}
use Rattle.std.proofs.lemmas.Int.{fits_signed_mul, ints, to_z-of_z, unsigned_abs-mul}
use Rattle.std.proofs.Math.Nat.{mul-le-mul_left}
use mir.Val.{SFits}
use Rattle.keyframes.proofs.effect_value.times.Goals as goal

offset_is : (c : goal.After-from) → c.from.result ≡ c.args.offset.0
offset_is c = let offset : SFits w64 c.args.offset.0 = search rules in simp to_z-of_z at c.from.ensures

part_size : (c : goal.After-from) → unsigned_abs c.args.part ≤ 10 ^ 15
part_size c = let low = c.requires.low in let high = c.requires.high in omega (arith, ints)

product : (c : goal.After-from) → SFits w128 (c.from.result *ℤ c.args.part)
product c =
    let offset : SFits w64 c.args.offset.0 = search rules in
    let small = offset.sfits in
    rw (offset_is c) (fits_signed_mul w128 c.args.offset.0 c.args.part (2 ^ 63) (10 ^ 15) (omega (arith, ints)) (part_size c) (omega arith))

pub overflow_mul-result : goal.overflow_mul-result
overflow_mul-result c =
    let from : SFits w128 c.from.result = record { sfits = c.from.type_inv } in
    let part : SFits w128 c.args.part = c.ranges.part in
    simp to_z-of_z (product c)

pub returns-clause-value : goal.returns-clause-value
returns-clause-value c =
    let from : SFits w128 c.from.result = record { sfits = c.from.type_inv } in
    let part : SFits w128 c.args.part = c.ranges.part in
    let fits = product c in
    simp to_z-of_z (ap (λ v. v *ℤ c.args.part) (offset_is c))

pub returns-clause-size : goal.returns-clause-size
returns-clause-size c =
    let from : SFits w128 c.from.result = record { sfits = c.from.type_inv } in
    let part : SFits w128 c.args.part = c.ranges.part in
    let fits = product c in
    simp to_z-of_z (rw (offset_is c, unsigned_abs-mul c.args.offset.0 c.args.part) (mul-le-mul_left (unsigned_abs c.args.offset.0) (part_size c)))
