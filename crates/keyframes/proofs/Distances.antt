-- How far a progress is in an interval.
use Rattle.std.proofs.Common.{◌≡◌, ℕ, ◌+◌, ◌-◌, ◌*◌, ◌^◌, ◌<◌, ◌≤◌, refl, ap, subst, mul-pos, arith, inl, inr}
use Rattle.std.specs.Prelude.{◌⊎◌, ℤ, pos, negsuc, ◌-ℤ◌, ◌*ℤ◌, ◌≤ℤ◌, ◌<ℤ◌, int_le, int_lt, unsigned_abs, Bool, true, false, ◌&&◌}
use Rattle.std.proofs.lemmas.Bool.{cases_lt, false≢true}
use Rattle.std.proofs.lemmas.Int.{ints}
use Rattle.std.proofs.Math.Nat.{mul-le-mul_left, mul-le-mul_right}
use Rattle.fix_num.specs.Fractions.{IsFraction}
use Rattle.fix_num.specs.declared.units.TheConstants.Bill.{ONE}
use Rattle.keyframes.specs.EffectValues.{is_reached}
use Rattle.keyframes.specs.Validity.{IsProgress}

-- a distance in an interval is a part of its length
pub record IsDistance (passed length : ℤ) : Type 0 where
  pub low : pos 0 ≤ℤ passed
  pub high : passed ≤ℤ length
  pub positive : pos 0 <ℤ length
  pub small : unsigned_abs length < 2 ^ 81

is_most : (a b : ℤ) → int_le a b ≡ true → a ≤ℤ b
is_most a b e = grind (arith, ints)

not_most : (a b : ℤ) → int_le a b ≡ false → b <ℤ a
not_most a b e = grind (arith, ints)

is_less : (a b : ℤ) → int_lt a b ≡ true → a <ℤ b
is_less a b e = grind (arith, ints)

not_less : (a b : ℤ) → int_lt a b ≡ false → b ≤ℤ a
not_less a b e = grind (arith, ints)

both : (x y : Bool) → (x && y) ≡ true → (x ≡ true) × (y ≡ true)
both true y e = (refl, e)
both false y e = absurd (false≢true e)

not_both : (x y : Bool) → (x && y) ≡ false → (x ≡ false) ⊎ (y ≡ false)
not_both true y e = inr e
not_both false y e = inl refl

-- the end lies beyond the progress, or at 1
Beyond : ℕ → ℕ → ℕ → Type 0
Beyond n d b = (10 ^ 9 * n < b * d) ⊎ (10 ^ 9 ≤ b)

further : (a b n d : ℕ) → a * d ≤ 10 ^ 9 * n → a < 10 ^ 9 → Beyond n d b → a < b
unfolding Beyond
further a b n d reached early (inr late) = omega arith
further a b n d reached early (inl beyond) = pick (cases_lt a b) where
  pick : (a < b) ⊎ (b ≤ a) → a < b
  pick (inl less) = less
  pick (inr most) = let rest : b * d ≤ a * d = mul-le-mul_right d most in absurd (omega arith)

covers : (b n d : ℕ) → n ≤ d → Beyond n d b → 10 ^ 9 * n ≤ b * d
unfolding Beyond
covers b n d part (inl beyond) = omega arith
covers b n d part (inr late) = omega (arith, mul-le-mul_left (10 ^ 9) part, mul-le-mul_right d late)

length_is : (a k d : ℕ) → (pos (a + k) -ℤ pos a) *ℤ pos d ≡ pos (k * d)
length_is a k d = let e : pos (a + k) -ℤ pos a ≡ pos k = omega (arith, ints) in ap (λ v. v *ℤ pos d) e

within : (a k n d : ℕ) → a * d ≤ 10 ^ 9 * n → 10 ^ 9 * n ≤ (a + k) * d → 0 < k → 0 < d → k ≤ 10 ^ 9 → d ≤ 10 ^ 15
    → IsDistance (pos (10 ^ 9 * n) -ℤ pos (a * d)) (pos (k * d))
within a k n d reached covered some any short small =
    let size : k * d ≤ 10 ^ 24 = omega (arith, mul-le-mul_left k small, mul-le-mul_right (10 ^ 15) short) in
    let positive : 0 < k * d = mul-pos some any in
    record { low = omega (arith, ints); high = omega (arith, ints); positive = omega (arith, ints); small = omega arith }

at_distance : (a k n d : ℕ) → a * d ≤ 10 ^ 9 * n → 10 ^ 9 * n ≤ (a + k) * d → 0 < k → 0 < d → k ≤ 10 ^ 9 → d ≤ 10 ^ 15
    → IsDistance (ONE.0 *ℤ pos n -ℤ pos a *ℤ pos d) ((pos (a + k) -ℤ pos a) *ℤ pos d)
at_distance a k n d reached covered some any short small = rw (length_is a k d) (within a k n d reached covered some any short small)

pub distances : (num den a b : ℤ) → IsProgress num den → IsFraction a → IsFraction b → is_reached num den a ≡ true → is_reached num den b ≡ false
    → IsDistance (ONE.0 *ℤ num -ℤ a *ℤ den) ((b -ℤ a) *ℤ den)
unfolding Beyond
distances (negsuc n) den a b is start end begun on = absurd (let h = is.low in omega (arith, ints))
distances (pos n) (negsuc d) a b is start end begun on = absurd (let h = is.positive in omega (arith, ints))
distances (pos n) (pos d) (negsuc a) b is start end begun on = absurd (let h = start.low in omega (arith, ints))
distances (pos n) (pos d) (pos a) (negsuc b) is start end begun on = absurd (let h = end.low in omega (arith, ints))
distances (pos n) (pos d) (pos a) (pos b) is start end begun on =
    let parts = both (int_le (pos a *ℤ pos d) (ONE.0 *ℤ pos n)) (int_lt (pos a) ONE.0) begun in
    let passed = is_most (pos a *ℤ pos d) (ONE.0 *ℤ pos n) parts.0 in
    let first = is_less (pos a) ONE.0 parts.1 in
    let reached : a * d ≤ 10 ^ 9 * n = omega (arith, ints) in
    let early : a < 10 ^ 9 = omega (arith, ints) in
    let beyond : Beyond n d b = elim (not_both (int_le (pos b *ℤ pos d) (ONE.0 *ℤ pos n)) (int_lt (pos b) ONE.0) on) [
      | inl e ↦ let h = not_most (pos b *ℤ pos d) (ONE.0 *ℤ pos n) e in inl (omega (arith, ints))
      | inr e ↦ let h = not_less (pos b) ONE.0 e in inr (omega (arith, ints))
    ] in
    let part = is.high in
    let any = is.positive in
    let small = is.small in
    let limit = end.high in
    let more : a < b = further a b n d reached early beyond in
    let split : a + (b - a) ≡ b = omega arith in
    let covered = covers b n d (omega (arith, ints)) beyond in
    subst (λ (m : ℕ). IsDistance (ONE.0 *ℤ pos n -ℤ pos a *ℤ pos d) ((pos m -ℤ pos a) *ℤ pos d)) split
    (at_distance a (b - a) n d reached (rw split covered) (omega arith) (omega (arith, ints)) (omega (arith, ints)) (omega (arith, ints)))
