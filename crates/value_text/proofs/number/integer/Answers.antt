use Rattle.std.proofs.Common.{arith, sym, w32, w64}
use Rattle.std.proofs.lemmas.Int.{fits_signed_from_abs, to_z-of_z}
use mir.Val.{SFits}
use Rattle.fix_num.specs.declared.limits.TheConstants.{MAX_INTEGER}
use Rattle.fix_num.proofs.ReadingLemmas.{number_told}
use Rattle.value_text.specs.NumberReading.{integer_in}
use Rattle.value_text.proofs.number.integer.Goals as goal

pub overflow_cast-result : goal.overflow_cast-result
overflow_cast-result c =
    let size = (number_told 0 MAX_INTEGER c.args.text.now c.in-Ok.i (sym c.in-Ok.ensures)).1 in
    let i : SFits w64 c.in-Ok.i = fits_signed_from_abs w64 c.in-Ok.i (omega (arith, size)) in
    rw (to_z-of_z w64 c.in-Ok.i i) (fits_signed_from_abs w32 c.in-Ok.i (omega (arith, size)))

pub returns-in-Ok : goal.returns-in-Ok
unfolding integer_in
returns-in-Ok c =
    let size = (number_told 0 MAX_INTEGER c.args.text.now c.in-Ok.i (sym c.in-Ok.ensures)).1 in
    let i : SFits w64 c.in-Ok.i = fits_signed_from_abs w64 c.in-Ok.i (omega (arith, size)) in
    let j : SFits w32 c.in-Ok.i = fits_signed_from_abs w32 c.in-Ok.i (omega (arith, size)) in
    rw (to_z-of_z w64 c.in-Ok.i i, to_z-of_z w32 c.in-Ok.i j) (grind (arith, c.in-Ok.ensures))
