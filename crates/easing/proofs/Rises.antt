-- Billionths keep order.
use Rattle.std.proofs.Common.{◌*◌, ◌^◌, ◌≤◌, arith}
use Rattle.std.specs.Prelude.{ℤ, pos, negsuc, ◌*ℤ◌, ◌≤ℤ◌, ◌<ℤ◌, unsigned_abs}
use Rattle.std.proofs.lemmas.Int.{ints}
use Rattle.fix_num.proofs.RoundingLemmas.{rounded_between, rounded_rises}
use Rattle.fix_num.specs.Fractions.{IsFraction}
use Rattle.easing.specs.Billionths.{billionths}

-- a part that is at most ten times the whole gives at most ten
pub billionths_size : (part whole : ℤ) → pos 0 <ℤ whole → unsigned_abs part ≤ 10 * unsigned_abs whole → unsigned_abs (billionths part whole) ≤ 10 ^ 10
billionths_size part (pos w) some within =
    let h = rounded_between (negsuc 9999999999) (pos (10 ^ 10)) (part *ℤ pos (10 ^ 9)) (pos w) some (omega (arith, ints)) (omega (arith, ints)) in
    omega (arith, ints, h)
billionths_size part (negsuc w) some within = absurd (omega (arith, ints))

-- a part of the whole gives 0 to 1
pub billionths_unit : (part whole : ℤ) → pos 0 <ℤ whole → pos 0 ≤ℤ part → part ≤ℤ whole → IsFraction (billionths part whole)
billionths_unit part (pos w) some low high =
    let h = rounded_between (pos 0) (pos (10 ^ 9)) (part *ℤ pos (10 ^ 9)) (pos w) some (omega (arith, ints)) (omega (arith, ints)) in
    record { low = h.0; high = h.1 }
billionths_unit part (negsuc w) some low high = absurd (omega (arith, ints))

pub billionths_rise : (x y whole : ℤ) → pos 0 <ℤ whole → x ≤ℤ y → billionths x whole ≤ℤ billionths y whole
billionths_rise x y whole some h = rounded_rises (x *ℤ pos (10 ^ 9)) (y *ℤ pos (10 ^ 9)) whole some (omega (arith, ints))
