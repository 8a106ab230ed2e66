-- How large the times of events are.
use Rattle.std.proofs.Common.{◌≡◌, ℕ, ◌*◌, ◌^◌, ◌≤◌, arith}
use Rattle.std.specs.Prelude.{ℤ, pos, negsuc, ◌+ℤ◌, ◌-ℤ◌, ◌*ℤ◌, ◌≤ℤ◌, Option, None, Some, IfSome, unsigned_abs}
use Rattle.std.specs.Int.{int_max, w64, w128}
use Rattle.std.proofs.lemmas.Int.{ints, clamps, fits_signed_from_abs, to_z-of_z}
use mir.Val.{SFits, of_z, to_z}
use Rattle.std.specs.Option.{option_map_or}
use Rattle.fix_num.specs.declared.units.Micros.{Micros}
use Rattle.style_data.specs.Animations.{IsAnimation}
use Rattle.style_data.specs.Transitions.{IsMoment}
use Rattle.style_data.specs.declared.animation.AnimationState.{AnimationState}
use Rattle.anim_timing.specs.Durations.{no_later_than}
use Rattle.anim_timing.specs.Playing.{local_time}

-- a time since some active time of an animation, step by step
pub record SumsFit (t local delay active : ℤ) : Type 0 where
  pub since : SFits w64 (t -ℤ local)
  pub began : SFits w64 ((t -ℤ local) +ℤ delay)
  pub came : SFits w64 (((t -ℤ local) +ℤ delay) +ℤ active)

pub sums_fit : (t local delay active : ℤ) → IsMoment t → unsigned_abs local ≤ 10 ^ 15 → unsigned_abs delay ≤ 10 ^ 15 → pos 0 ≤ℤ active → active ≤ℤ pos (10 ^ 18)
    → SumsFit t local delay active
sums_fit t local delay active moment local_small delay_small low high =
    let from = moment.low in
    let to = moment.high in
    let since : unsigned_abs (t -ℤ local) ≤ 2 * 10 ^ 15 = omega (arith, ints) in
    let began : unsigned_abs ((t -ℤ local) +ℤ delay) ≤ 3 * 10 ^ 15 = omega (arith, ints) in
    let came : unsigned_abs (((t -ℤ local) +ℤ delay) +ℤ active) ≤ 2 * 10 ^ 18 = omega (arith, ints) in
    record {
      since = fits_signed_from_abs w64 _ (omega (arith, since));
      began = fits_signed_from_abs w64 _ (omega (arith, began));
      came = fits_signed_from_abs w64 _ (omega (arith, came));
    }

-- what a delay skips
pub skipped_fits : (delay : ℤ) → unsigned_abs delay ≤ 10 ^ 15 → SFits w64 (pos 0 -ℤ delay)
skipped_fits delay small =
    let size : unsigned_abs (pos 0 -ℤ delay) ≤ 10 ^ 15 = omega (arith, ints) in fits_signed_from_abs w64 (pos 0 -ℤ delay) (omega arith)

pub start_small : (limit : Option ℤ) (delay : ℤ) → unsigned_abs delay ≤ 10 ^ 15 → int_max (no_later_than limit (pos 0 -ℤ delay)) (pos 0) ≤ℤ pos (10 ^ 15)
start_small None delay small = omega (arith, ints, clamps)
start_small (Some limit) delay small = omega (arith, ints, clamps)

-- ---- products

product_small : (i : ℕ) (d : ℤ) → pos 0 ≤ℤ d → i * unsigned_abs d ≤ 2 * 10 ^ 15 → unsigned_abs (pos i *ℤ d) ≤ 2 * 10 ^ 15
product_small i (pos d) low small = small
product_small i (negsuc d) low small = absurd (omega (arith, ints))

-- a product of 128 bits that is small, in 64
pub narrowed_product : (x y : ℤ) (i : ℕ) (d : ℤ) → SFits w128 x → SFits w128 y → x ≡ pos i → y ≡ d → pos 0 ≤ℤ d → i * unsigned_abs d ≤ 2 * 10 ^ 15
    → to_z w64 (of_z w64 (to_z w128 (of_z w128 (to_z w128 (of_z w128 x) *ℤ to_z w128 (of_z w128 y))))) ≡ pos i *ℤ d
narrowed_product x y i d x_fits y_fits x_is y_is low small =
    let size = product_small i d low small in
    let wide : SFits w128 (pos i *ℤ d) = fits_signed_from_abs w128 (pos i *ℤ d) (omega (arith, size)) in
    let narrow : SFits w64 (pos i *ℤ d) = fits_signed_from_abs w64 (pos i *ℤ d) (omega (arith, size)) in
    rw (to_z-of_z w128 x x_fits, to_z-of_z w128 y y_fits, x_is, y_is, to_z-of_z w128 (pos i *ℤ d) wide) (to_z-of_z w64 (pos i *ℤ d) narrow)

-- ---- local times

pub local_small : (a : AnimationState) (t : ℤ) → IsAnimation a → IsMoment t → unsigned_abs (local_time a t) ≤ 10 ^ 15
local_small a t is moment = go a.hold is.hold where
  go : (hold : Option Micros) → IfSome hold (λ h. IsMoment h.0) → unsigned_abs (option_map_or (λ h. h.0) hold (t -ℤ a.start.0)) ≤ 10 ^ 15
  go None held = let a = moment.low in let b = moment.high in let d = is.start.low in let e = is.start.high in omega (arith, ints)
  go (Some h) held = let low = held.low in let high = held.high in omega (arith, ints)
