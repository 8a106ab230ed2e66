-- Times between a transition's start and its end.
use Rattle.std.proofs.Common.{◌≡◌, ◌*◌, ◌^◌, ◌≤◌, arith}
use Rattle.std.specs.Prelude.{ℤ, ◌-ℤ◌, int_le, unsigned_abs, false}
use Rattle.std.specs.Int.{w64}
use Rattle.std.proofs.lemmas.Int.{ints, fits_signed_from_abs}
use mir.Val.{SFits}
use Rattle.style_data.specs.Transitions.{IsMoment}

-- how long a transition has run while it runs
elapsed_small : (t start end : ℤ) → int_le end t ≡ false → int_le t start ≡ false → unsigned_abs start ≤ 3 * 10 ^ 15 → unsigned_abs end ≤ 3 * 10 ^ 15
    → unsigned_abs (t -ℤ start) ≤ 6 * 10 ^ 15
elapsed_small t start end running begun from to = grind (arith, ints)

pub elapsed_fits : (t start end : ℤ) → int_le end t ≡ false → int_le t start ≡ false → unsigned_abs start ≤ 3 * 10 ^ 15 → unsigned_abs end ≤ 3 * 10 ^ 15
    → SFits w64 (t -ℤ start)
elapsed_fits t start end running begun from to =
    let small = elapsed_small t start end running begun from to in fits_signed_from_abs w64 (t -ℤ start) (omega arith)

-- the difference of two times
pub difference_fits : (a b : ℤ) → unsigned_abs a ≤ 3 * 10 ^ 15 → unsigned_abs b ≤ 3 * 10 ^ 15 → SFits w64 (a -ℤ b)
difference_fits a b small little =
    let fits : unsigned_abs (a -ℤ b) ≤ 6 * 10 ^ 15 = omega (arith, ints) in fits_signed_from_abs w64 (a -ℤ b) (omega arith)

pub moment_small : (t : ℤ) → IsMoment t → unsigned_abs t ≤ 3 * 10 ^ 15
moment_small t is = let low = is.low in let high = is.high in omega (arith, ints)
