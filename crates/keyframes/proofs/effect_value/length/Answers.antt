use Rattle.std.proofs.Common.{arith, rules}
use Rattle.std.specs.Prelude.{◌-ℤ◌}
use Rattle.std.specs.Int.{w64, w128}
use Rattle.std.proofs.lemmas.Int.{fits_signed_from_abs, ints, to_z-of_z}
use mir.Val.{SFits}
use Rattle.keyframes.proofs.effect_value.length.Goals as goal

pub returns : goal.returns
returns c =
    let den : SFits w128 c.args.den = c.ranges.den in
    let from : SFits w64 c.args.from.0 = search rules in
    let to : SFits w64 c.args.to.0 = search rules in
    let low = c.requires.from.low in
    let high = c.requires.from.high in
    let start = c.requires.to.low in
    let end = c.requires.to.high in
    let difference : SFits w64 (c.args.to.0 -ℤ c.args.from.0) = fits_signed_from_abs w64 (c.args.to.0 -ℤ c.args.from.0) (omega (arith, ints)) in
    let result : SFits w128 c.times.result = record { sfits = c.times.type_inv } in
    rw (to_z-of_z w128 c.times.result result) (simp to_z-of_z at c.times.ensures.value)
