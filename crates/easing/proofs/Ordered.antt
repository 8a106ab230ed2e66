-- Outputs that keep to 0 to 1 don't fall as the input rises.
use Rattle.std.proofs.Common.{◌≡◌, ◌∙◌, ℕ, ◌*◌, ◌/◌, ◌%◌, ◌^◌, ◌<◌, ◌≤◌, refl, sym, ap, arith, inl, inr}
use Rattle.std.specs.Prelude.{ℤ, pos, negsuc, ◌+ℤ◌, ◌-ℤ◌, ◌*ℤ◌, ◌≤ℤ◌, ◌<ℤ◌, Bool, true, false, if◌then◌else◌}
use Rattle.std.specs.Int.{int_min, int_max}
use Rattle.std.specs.Ordering.{int_eq}
use Rattle.std.proofs.lemmas.Bool.{cases_lt, false≢true}
use Rattle.std.proofs.lemmas.Bool.Decides.{Decides-int_eq}
use Rattle.std.proofs.lemmas.Int.{ints, clamps}
use Rattle.std.proofs.Math.Nat.{mul-le-mul_left, mul-le-mul_right}
use Rattle.timing_types.specs.Timing.{IsEasing, fewest_steps}
use Rattle.timing_types.specs.declared.easing.Easing.{Easing}
use Rattle.timing_types.specs.declared.easing.Easing.TheVariants.{Linear, Cubic, Steps}
use Rattle.timing_types.specs.declared.easing.Jump.{Jump}
use Rattle.timing_types.specs.declared.easing.Jump.TheVariants.{Start, End, Both, Nowhere}
use Rattle.easing.specs.Bezier.{coordinate, input_billionths, parameter_of, whole}
use Rattle.fix_num.specs.Fractions.{IsFraction}
use Rattle.easing.specs.Easings.{output_of, KeepsUnit}
use Rattle.easing.specs.Stepping.{jumps_at_start, jumps_of, step_back, step_of}
use Rattle.easing.proofs.Halving.{parameter_is}
use Rattle.easing.proofs.Points.{coordinate_unit, coordinates_rise}
use Rattle.fix_num.proofs.RoundingLemmas.{div_rises, quotient_rises}
use Rattle.easing.proofs.Rises.{billionths_unit, billionths_rise}

-- ---- steps

pub some_jumps : (jump : Jump) (count : ℕ) → fewest_steps jump ≤ count → pos 0 <ℤ pos (jumps_of jump count)
some_jumps Start count h = omega (arith, ints)
some_jumps End count h = omega (arith, ints)
some_jumps Both count h = omega (arith, ints)
some_jumps Nowhere count h = omega (arith, ints)

clamped_within : (j v : ℤ) → pos 0 ≤ℤ j → (pos 0 ≤ℤ int_max (pos 0) (int_min j v)) × (int_max (pos 0) (int_min j v) ≤ℤ j)
clamped_within j v h = (omega (arith, ints, clamps), omega (arith, ints, clamps))

clamped_rises : (j v w : ℤ) → v ≤ℤ w → int_max (pos 0) (int_min j v) ≤ℤ int_max (pos 0) (int_min j w)
clamped_rises j v w h = omega (arith, ints, clamps)

-- at the very beginning of a step a smaller position has a smaller step or is the same
begins_further : (u v d : ℕ) → 0 < d → u ≤ v → v % d ≡ 0 → (u % d ≡ 0 → ⊥) → u / d < v / d
begins_further u v d some h even odd = elim (cases_lt (u / d) (v / d)) [
  | inl less ↦ less
  | inr more ↦ let far = mul-le-mul_left d more in absurd (odd (omega (arith, far)))
]

back_rises : (u v d : ℕ) (before : Bool) → 0 < d → u ≤ v
    → (pos (u / d) -ℤ step_back (pos u) (pos d) before) ≤ℤ (pos (v / d) -ℤ step_back (pos v) (pos d) before)
back_rises u v d false some h = let q = quotient_rises u v d some h in omega (arith, ints, q)
back_rises u v d true some h = pick (int_eq (pos (u % d)) (pos 0)) (int_eq (pos (v % d)) (pos 0)) refl refl where
  pos_is : (n : ℕ) → pos n ≡ pos 0 → n ≡ 0
  pos_is n e = cc

  pick : (s t : Bool) → int_eq (pos (u % d)) (pos 0) ≡ s → int_eq (pos (v % d)) (pos 0) ≡ t
      → (pos (u / d) -ℤ (if s then pos 1 else pos 0)) ≤ℤ (pos (v / d) -ℤ (if t then pos 1 else pos 0))
  pick true true e f = let q = quotient_rises u v d some h in omega (arith, ints, q)
  pick true false e f = let q = quotient_rises u v d some h in omega (arith, ints, q)
  pick false false e f = let q = quotient_rises u v d some h in omega (arith, ints, q)
  pick false true e f =
      let even : v % d ≡ 0 = pos_is (v % d) ((Decides-int_eq (pos (v % d)) (pos 0)).0 f) in
      let q = begins_further u v d some h even (λ is. false≢true (sym e ∙ (Decides-int_eq (pos (u % d)) (pos 0)).1 (ap pos is))) in
      omega (arith, ints, q)

steps_rise : (count : ℕ) (jump : Jump) (n m d : ℕ) (before : Bool) → 0 < d → n ≤ m
    → step_of count jump (pos n) (pos d) before ≤ℤ step_of count jump (pos m) (pos d) before
steps_rise count jump n m d before some h =
    let back = back_rises (n * count) (m * count) d before some (mul-le-mul_right count h) in
    clamped_rises (pos (jumps_of jump count)) _ _
    (shifted (pos (n * count / d)) (pos (jumps_at_start jump)) (step_back (pos (n * count)) (pos d) before)
    (pos (m * count / d)) (step_back (pos (m * count)) (pos d) before) back) where
      shifted : (a s b a' b' : ℤ) → (a -ℤ b) ≤ℤ (a' -ℤ b') → ((a +ℤ s) -ℤ b) ≤ℤ ((a' +ℤ s) -ℤ b')
      shifted a s b a' b' h = omega (arith, ints)

-- ---- curves

pub input_positive : (num den : ℤ) → pos 0 ≤ℤ num → pos 0 <ℤ den → pos 0 ≤ℤ input_billionths num den
input_positive (pos n) (pos d) low some = omega (arith, ints)
input_positive (negsuc n) den low some = absurd (omega (arith, ints))
input_positive (pos n) (negsuc d) low some = absurd (omega (arith, ints))

input_rises : (num more den : ℤ) → num ≤ℤ more → pos 0 <ℤ den → input_billionths num den ≤ℤ input_billionths more den
input_rises num more (pos d) h some = div_rises (num *ℤ pos (10 ^ 9)) (more *ℤ pos (10 ^ 9)) d (omega (arith, ints)) (omega (arith, ints))
input_rises num more (negsuc d) h some = absurd (omega (arith, ints))

still_reached : (u x y w : ℤ) → x ≤ℤ y → (u ≤ℤ (x *ℤ pos whole)) → u ≤ℤ (y *ℤ pos whole)
still_reached u x y w h k = omega (arith, ints)

parameters_rise : (x1 x2 x y : ℤ) → pos 0 ≤ℤ x → x ≤ℤ y → parameter_of x1 x2 x ≤ parameter_of x1 x2 y
parameters_rise x1 x2 x y some h =
    let here = parameter_is x1 x2 x some in
    let there = parameter_is x1 x2 y (omega (arith, ints)) in
    there.greatest (parameter_of x1 x2 x) here.within
    (still_reached (coordinate x1 x2 (parameter_of x1 x2 x) *ℤ pos (10 ^ 9)) x y (pos 0) h here.has)

-- ---- all

pub unit_of : (e : Easing) (num den : ℤ) (before : Bool) → IsEasing e → KeepsUnit e → pos 0 ≤ℤ num → num ≤ℤ den → pos 0 <ℤ den → IsFraction (output_of e num den before)
unfolding output_of
unit_of Linear num den before is keeps low high some = billionths_unit num den some low high
unit_of (Cubic x1 y1 x2 y2) num den before is (h1, h2) low high some =
    let k = (parameter_is x1 x2 (input_billionths num den) (input_positive num den low some)).within in
    let within = coordinate_unit y1 y2 (parameter_of x1 x2 (input_billionths num den)) h1 h2 k in
    billionths_unit (coordinate y1 y2 (parameter_of x1 x2 (input_billionths num den))) (pos whole) (omega (arith, ints)) within.0 within.1
unit_of (Steps count jump) num den before (fewest, most) keeps low high some =
    let jumps = some_jumps jump count fewest in
    let within = clamped_within (pos (jumps_of jump count)) _ (omega (arith, ints)) in
    billionths_unit (step_of count jump num den before) (pos (jumps_of jump count)) jumps within.0 within.1

pub never_falls : (e : Easing) (num more den : ℤ) (before : Bool) → IsEasing e → KeepsUnit e → pos 0 ≤ℤ num → num ≤ℤ more → pos 0 <ℤ den
    → output_of e num den before ≤ℤ output_of e more den before
unfolding output_of
never_falls Linear num more den before is keeps low h some = billionths_rise num more den some h
never_falls (Cubic x1 y1 x2 y2) num more den before is (h1, h2) low h some =
    let k = parameters_rise x1 x2 (input_billionths num den) (input_billionths more den) (input_positive num den low some) (input_rises num more den h some) in
    let within = (parameter_is x1 x2 (input_billionths more den) (input_positive more den (omega (arith, ints)) some)).within in
    billionths_rise _ _ (pos whole) (omega (arith, ints)) (coordinates_rise y1 y2 (parameter_of x1 x2 (input_billionths num den)) (parameter_of x1 x2 (input_billionths more den)) h1 h2 k within)
never_falls (Steps count jump) (pos n) (pos m) (pos d) before (fewest, most) keeps low h some =
    billionths_rise _ _ (pos (jumps_of jump count)) (some_jumps jump count fewest) (steps_rise count jump n m d before (omega (arith, ints)) (omega (arith, ints)))
never_falls (Steps count jump) (negsuc n) more den before is keeps low h some = absurd (omega (arith, ints))
never_falls (Steps count jump) (pos n) (negsuc m) den before is keeps low h some = absurd (omega (arith, ints))
never_falls (Steps count jump) (pos n) (pos m) (negsuc d) before is keeps low h some = absurd (omega (arith, ints))
