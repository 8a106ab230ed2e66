-- What a factor leaves, and the factor at the ends.
use Rattle.std.proofs.Common.{◌≡◌, ◌∙◌, ◌*◌, ◌^◌, ◌≤◌, refl, ap, arith}
use Rattle.std.specs.Prelude.{ℤ, pos, negsuc, ◌+ℤ◌, ◌-ℤ◌, ◌*ℤ◌, ◌≤ℤ◌, unsigned_abs, Bool, true, false, if◌then◌else◌, int_lt}
use Rattle.std.proofs.lemmas.Int.{ints, clamps, unsigned_abs-mul}
use Rattle.std.proofs.Math.Nat.{mul-le-mul_right}
use Rattle.fix_num.specs.Clamping.{clamped_number}
use Rattle.fix_num.specs.declared.units.TheConstants.Bill.{ONE}
use Rattle.fix_num.proofs.RoundingLemmas.{rounded_between}
use Rattle.reversing.specs.Reversal.{IsFactor, part_of, reversed_delay, shortened}

-- a part between two numbers times a billion lies between these, and a whole one is exact
part_between : (low high factor v : ℤ) → (low *ℤ ONE.0) ≤ℤ (factor *ℤ v) → (factor *ℤ v) ≤ℤ (high *ℤ ONE.0)
    → (low ≤ℤ part_of factor v) × (part_of factor v ≤ℤ high)
unfolding part_of
part_between low high factor v above below = rounded_between low high (factor *ℤ v) ONE.0 (omega (arith, ints)) above below

equal : (factor v n : ℤ) → factor *ℤ v ≡ n *ℤ ONE.0 → part_of factor v ≡ n
equal factor v n e = let near = part_between n n factor v (omega (arith, ints)) (omega (arith, ints)) in omega (arith, ints, near.0, near.1)

pub product_size : (f v : ℤ) → IsFactor f → unsigned_abs (f *ℤ v) ≤ 10 ^ 9 * unsigned_abs v
product_size f v is = rw (unsigned_abs-mul f v) (let low = is.low in let high = is.high in mul-le-mul_right (unsigned_abs v) (omega (arith, ints)))

pub part_size : (factor v : ℤ) → IsFactor factor → unsigned_abs (part_of factor v) ≤ unsigned_abs v
part_size factor v is =
    let size = product_size factor v is in
    let near = part_between (pos 0 -ℤ pos (unsigned_abs v)) (pos (unsigned_abs v)) factor v (omega (arith, ints)) (omega (arith, ints)) in
    omega (arith, ints, near.0, near.1)

-- a part of what isn't negative isn't negative, and is no greater
pub part_within : (factor v : ℤ) → IsFactor factor → pos 0 ≤ℤ v → (pos 0 ≤ℤ part_of factor v) × (part_of factor v ≤ℤ v)
part_within (pos f) (pos v) is some =
    let size = product_size (pos f) (pos v) is in
    part_between (pos 0) (pos v) (pos f) (pos v) (omega (arith, ints)) (omega (arith, ints))
part_within (negsuc f) v is some = absurd (let low = is.low in omega (arith, ints))
part_within (pos f) (negsuc v) is some = absurd (omega (arith, ints))

pub full_part : (v : ℤ) → part_of ONE.0 v ≡ v
full_part v = equal ONE.0 v v (omega (arith, ints))

no_part : (factor : ℤ) → part_of factor (pos 0) ≡ pos 0
no_part factor = equal factor (pos 0) (pos 0) (omega (arith, ints))

part_of_one : (factor : ℤ) → part_of factor ONE.0 ≡ factor
part_of_one factor = equal factor ONE.0 factor refl

pub full_delay : (delay : ℤ) → reversed_delay ONE.0 delay ≡ delay
unfolding reversed_delay
full_delay delay = pick (int_lt delay (pos 0)) where
  pick : (b : Bool) → (if b then part_of ONE.0 delay else delay) ≡ delay
  pick true = full_part delay
  pick false = refl

-- ---- the factor at the ends

-- the size of a number, up to 1
abbrev pub clipped : ℤ → ℤ
clipped v = clamped_number (pos (unsigned_abs v)) (pos 0) ONE.0

pub clipped_factor : (v : ℤ) → IsFactor (clipped v)
unfolding clamped_number
clipped_factor v = record { low = omega (arith, ints, clamps); high = omega (arith, ints, clamps) }

clipped_same : (v : ℤ) → pos 0 ≤ℤ v → v ≤ℤ ONE.0 → clipped v ≡ v
unfolding clamped_number
clipped_same (pos n) low high = omega (arith, ints, clamps)
clipped_same (negsuc n) low high = absurd (omega (arith, ints))

pub at_start : (factor : ℤ) → IsFactor factor → shortened factor (pos 0) ≡ ONE.0 -ℤ factor
unfolding shortened
at_start factor is =
    let low = is.low in
    let high = is.high in
    let e : part_of factor (pos 0) +ℤ (ONE.0 -ℤ factor) ≡ ONE.0 -ℤ factor = omega (arith, ints, no_part factor) in
    ap clipped e ∙ clipped_same (ONE.0 -ℤ factor) (omega (arith, ints)) (omega (arith, ints))

pub at_end : (factor : ℤ) → shortened factor ONE.0 ≡ ONE.0
unfolding shortened
at_end factor =
    let e : part_of factor ONE.0 +ℤ (ONE.0 -ℤ factor) ≡ ONE.0 = omega (arith, ints, part_of_one factor) in
    ap clipped e ∙ clipped_same ONE.0 (omega (arith, ints)) (omega (arith, ints))

pub further : (start part : ℤ) → pos 0 ≤ℤ part → start ≤ℤ (start +ℤ part)
further start part h = omega (arith, ints)

pub no_further : (start part duration : ℤ) → part ≤ℤ duration → (start +ℤ part) ≤ℤ (start +ℤ duration)
no_further start part duration h = omega (arith, ints)
