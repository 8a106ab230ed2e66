use Rattle.std.proofs.Common.{arith, refl}
use Rattle.std.specs.Prelude.{◌-ℤ◌}
use Rattle.std.specs.Int.{w128}
use Rattle.std.proofs.lemmas.Int.{fits_signed_from_abs, ints, to_z-of_z}
use mir.Val.{SFits}
use Rattle.keyframes.proofs.effect_value.passed.Goals as goal

difference : (c : goal.After-times-2) → SFits w128 (c.times.result -ℤ c.times-2.result)
difference c =
    let whole = c.times.ensures.size in
    let part = c.times-2.ensures.size in
    let low = c.requires.offset.low in
    let high = c.requires.offset.high in
    fits_signed_from_abs w128 (c.times.result -ℤ c.times-2.result) (omega (arith, ints))

pub overflow_sub-result : goal.overflow_sub-result
overflow_sub-result c =
    let whole : SFits w128 c.times.result = record { sfits = c.times.type_inv } in
    let part : SFits w128 c.times-2.result = record { sfits = c.times-2.type_inv } in
    simp to_z-of_z (difference c)

pub returns : goal.returns
returns c =
    let whole : SFits w128 c.times.result = record { sfits = c.times.type_inv } in
    let part : SFits w128 c.times-2.result = record { sfits = c.times-2.type_inv } in
    let num : SFits w128 c.args.num = c.ranges.num in
    let den : SFits w128 c.args.den = c.ranges.den in
    let fits = difference c in
    let first = simp to_z-of_z at c.times.ensures.value in
    let second = simp to_z-of_z at c.times-2.ensures.value in
    simp to_z-of_z (rw (first, second) refl)
