use Rattle.std.proofs.Common.{◌≡◌, ◌^◌, arith, rules}
use Rattle.std.specs.Prelude.{pos, ◌*ℤ◌}
use Rattle.std.specs.Int.{w64, w128}
use Rattle.std.proofs.lemmas.Int.{fits_signed_from_abs, fits_signed_mul, ints, to_z-of_z}
use mir.Val.{SFits}
use Rattle.fix_num.specs.Rounding.{rounded_quotient}
use Rattle.anim_timing.proofs.Bounds.{in_billionths}
use Rattle.anim_timing.proofs.progress.billionths.Goals as goal

rounds : (c : goal.After-rnd) → c.rnd.result ≡ rounded_quotient (c.args.r.num *ℤ pos (10 ^ 9)) c.args.r.den
rounds c =
    let num : SFits w128 c.args.r.num = search rules in
    let den : SFits w128 c.args.r.den = search rules in
    let low = c.requires.low in
    let high = c.requires.high in
    let small = c.requires.small in
    let product : SFits w128 (c.args.r.num *ℤ pos (10 ^ 9)) = fits_signed_mul w128 c.args.r.num (pos (10 ^ 9)) (10 ^ 15) (10 ^ 9) (omega (arith, ints)) (omega arith) (omega arith) in
    simp (c.from.ensures, to_z-of_z) at c.rnd.ensures.value

fits : (c : goal.After-rnd) → SFits w64 c.rnd.result
fits c =
    let h = in_billionths c.args.r.num c.args.r.den c.requires.low c.requires.high c.requires.positive in
    let low = h.low in
    let high = h.high in
    rw (rounds c) (fits_signed_from_abs w64 (rounded_quotient (c.args.r.num *ℤ pos (10 ^ 9)) c.args.r.den) (omega (arith, ints)))

pub overflow_cast-result : goal.overflow_cast-result
overflow_cast-result c =
    let wide : SFits w128 c.rnd.result = record { sfits = c.rnd.type_inv } in rw (to_z-of_z w128 c.rnd.result wide) (fits c)

pub returns : goal.returns
returns c =
    let wide : SFits w128 c.rnd.result = record { sfits = c.rnd.type_inv } in
    rw (to_z-of_z w128 c.rnd.result wide, to_z-of_z w64 c.rnd.result (fits c)) (rounds c)
