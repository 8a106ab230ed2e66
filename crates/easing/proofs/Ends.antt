-- Outputs at the ends of the input, and exact ones.
use Rattle.std.proofs.Common.{◌≡◌, ◌∙◌, ℕ, ◌*◌, ◌/◌, ◌^◌, ◌<◌, ◌≤◌, refl, sym, ap, arith}
use Rattle.std.specs.Prelude.{ℤ, pos, negsuc, ◌+ℤ◌, ◌-ℤ◌, ◌*ℤ◌, ◌≤ℤ◌, ◌<ℤ◌, Bool, false}
use Rattle.std.specs.Int.{int_min, int_max}
use Rattle.std.proofs.lemmas.Int.{ints, clamps}
use Rattle.std.proofs.Math.Nat.{zero-div, mul-div_cancel_left}
use Rattle.fix_num.specs.Rounding.{rounded_quotient}
use Rattle.timing_types.specs.Timing.{IsEasing, fewest_steps}
use Rattle.timing_types.specs.declared.easing.Easing.TheVariants.{Linear, Cubic, Steps}
use Rattle.timing_types.specs.declared.easing.Jump.{Jump}
use Rattle.timing_types.specs.declared.easing.Jump.TheVariants.{Start, End, Both, Nowhere}
use Rattle.easing.specs.Bezier.{coordinate, input_billionths, ordinate_output, parameter_of, parts, whole, IsParameter}
use Rattle.easing.specs.Billionths.{billionths}
use Rattle.easing.specs.Easings.{output_of}
use Rattle.easing.specs.Stepping.{jumps_at_start, jumps_of, step_of}
use Rattle.easing.proofs.Halving.{parameter_only, reached_at_start}
use Rattle.easing.proofs.Ordered.{some_jumps}
use Rattle.easing.proofs.Points.{coordinate_at_start, coordinate_at_end, only_start_reached}
use Rattle.fix_num.proofs.RoundingLemmas.{rounded_exact}

-- what is a whole number of billionths is given as it is
pub exact : (part whole q : ℤ) → pos 0 <ℤ whole → part *ℤ pos (10 ^ 9) ≡ q *ℤ whole → billionths part whole ≡ q
exact part whole q some e = ap (λ v. rounded_quotient v whole) e ∙ rounded_exact q whole some

-- ---- curves

input_at_start : (d : ℕ) → input_billionths (pos 0) (pos d) ≡ pos 0
input_at_start d = ap pos (zero-div d)

input_at_end : (d : ℕ) → 0 < d → input_billionths (pos d) (pos d) ≡ pos (10 ^ 9)
input_at_end d some = ap pos (mul-div_cancel_left (10 ^ 9) some)

parameter_at_start : (x1 x2 : ℤ) → pos 0 ≤ℤ x1 → pos 0 ≤ℤ x2 → parameter_of x1 x2 (pos 0) ≡ 0
parameter_at_start x1 x2 h1 h2 = sym (parameter_only x1 x2 (pos 0) 0 (omega (arith, ints)) (record {
  within = omega arith;
  has = reached_at_start x1 x2 (pos 0) (omega (arith, ints));
  greatest = λ m within h. only_start_reached x1 x2 m h1 h2 h;
}))

all_reached : (v : ℤ) → v ≡ pos whole → (v *ℤ pos (10 ^ 9)) ≤ℤ (pos (10 ^ 9) *ℤ pos whole)
all_reached v e = rw e (omega (arith, ints))

parameter_at_end : (x1 x2 : ℤ) → parameter_of x1 x2 (pos (10 ^ 9)) ≡ parts
parameter_at_end x1 x2 = sym (parameter_only x1 x2 (pos (10 ^ 9)) parts (omega (arith, ints)) (record {
  within = omega arith;
  has = all_reached (coordinate x1 x2 parts) (coordinate_at_end x1 x2);
  greatest = λ m within h. within;
}))

at_parameter : (y1 y2 q v : ℤ) (k n : ℕ) → k ≡ n → coordinate y1 y2 n ≡ v → v *ℤ pos (10 ^ 9) ≡ q *ℤ pos whole → ordinate_output y1 y2 k ≡ q
at_parameter y1 y2 q v k n is there e =
    ap (λ m. billionths (coordinate y1 y2 m) (pos whole)) is ∙ ap (λ w. billionths w (pos whole)) there ∙ exact v (pos whole) q (omega (arith, ints)) e

pub cubic_at_start : (x1 y1 x2 y2 den : ℤ) (before : Bool) → IsEasing (Cubic x1 y1 x2 y2) → pos 0 <ℤ den → output_of (Cubic x1 y1 x2 y2) (pos 0) den before ≡ pos 0
unfolding output_of
cubic_at_start x1 y1 x2 y2 (pos d) before (first, second) some =
    at_parameter y1 y2 (pos 0) (pos 0) (parameter_of x1 x2 (input_billionths (pos 0) (pos d))) 0
    (ap (parameter_of x1 x2) (input_at_start d) ∙ parameter_at_start x1 x2 first.low second.low) (coordinate_at_start y1 y2) refl
cubic_at_start x1 y1 x2 y2 (negsuc d) before is some = absurd (omega (arith, ints))

pub cubic_at_end : (x1 y1 x2 y2 den : ℤ) (before : Bool) → pos 0 <ℤ den → output_of (Cubic x1 y1 x2 y2) den den before ≡ pos (10 ^ 9)
unfolding output_of
cubic_at_end x1 y1 x2 y2 (pos d) before some =
    at_parameter y1 y2 (pos (10 ^ 9)) (pos whole) (parameter_of x1 x2 (input_billionths (pos d) (pos d))) parts
    (ap (parameter_of x1 x2) (input_at_end d (omega (arith, ints))) ∙ parameter_at_end x1 x2) (coordinate_at_end y1 y2) refl
cubic_at_end x1 y1 x2 y2 (negsuc d) before some = absurd (omega (arith, ints))

-- the output of a curve at the one parameter of its input
pub cubic_by_parameter : (x1 y1 x2 y2 num den : ℤ) (before : Bool) (k : ℕ) → pos 0 ≤ℤ input_billionths num den → IsParameter x1 x2 (input_billionths num den) k
    → output_of (Cubic x1 y1 x2 y2) num den before ≡ ordinate_output y1 y2 k
unfolding output_of
cubic_by_parameter x1 y1 x2 y2 num den before k low is = ap (ordinate_output y1 y2) (sym (parameter_only x1 x2 (input_billionths num den) k low is))

-- ---- linear and steps

pub linear_exact : (num den q : ℤ) (before : Bool) → pos 0 <ℤ den → num *ℤ pos (10 ^ 9) ≡ q *ℤ den → output_of Linear num den before ≡ q
unfolding output_of
linear_exact num den q before some e = exact num den q some e

past_last : (j v : ℤ) → pos 0 ≤ℤ j → j ≤ℤ v → int_max (pos 0) (int_min j v) ≡ j
past_last j v some h = omega (arith, ints, clamps)

all_taken : (jump : Jump) (count : ℕ) → pos (jumps_of jump count) ≤ℤ ((pos count +ℤ pos (jumps_at_start jump)) -ℤ pos 0)
all_taken Start count = omega (arith, ints)
all_taken End count = omega (arith, ints)
all_taken Both count = omega (arith, ints)
all_taken Nowhere count = omega (arith, ints)

last_step : (count : ℕ) (jump : Jump) (d : ℕ) → 0 < d → step_of count jump (pos d) (pos d) false ≡ pos (jumps_of jump count)
last_step count jump d some =
    let all : d * count / d ≡ count = mul-div_cancel_left count some in
    past_last (pos (jumps_of jump count)) ((pos (d * count / d) +ℤ pos (jumps_at_start jump)) -ℤ pos 0) (omega (arith, ints)) (rw all (all_taken jump count))

one_to_one : (j : ℕ) → pos j *ℤ pos (10 ^ 9) ≡ pos (10 ^ 9) *ℤ pos j
one_to_one j = ap pos (omega arith)

pub steps_at_end : (count : ℕ) (jump : Jump) (den : ℤ) → fewest_steps jump ≤ count → pos 0 <ℤ den → output_of (Steps count jump) den den false ≡ pos (10 ^ 9)
unfolding output_of
steps_at_end count jump (pos d) fewest some =
    ap (λ v. billionths v (pos (jumps_of jump count))) (last_step count jump d (omega (arith, ints)))
    ∙ exact (pos (jumps_of jump count)) (pos (jumps_of jump count)) (pos (10 ^ 9)) (some_jumps jump count fewest) (one_to_one (jumps_of jump count))
steps_at_end count jump (negsuc d) fewest some = absurd (omega (arith, ints))

pub times_zero : (den : ℤ) → pos 0 *ℤ pos (10 ^ 9) ≡ pos 0 *ℤ den
times_zero den = omega (arith, ints)

pub turned : (den : ℤ) → den *ℤ pos (10 ^ 9) ≡ pos (10 ^ 9) *ℤ den
turned den = omega (arith, ints)
