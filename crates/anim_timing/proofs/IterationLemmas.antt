-- Iterations and the progress in them.
use Rattle.std.proofs.Common.{◌≡◌, ◌∙◌, ℕ, ◌*◌, ◌/◌, ◌%◌, ◌<◌, refl, sym, ap, zero, suc, mul-pos, arith}
use Rattle.std.specs.Prelude.{◌≢◌, ℤ, pos, negsuc, ◌+ℤ◌, ◌-ℤ◌, ◌*ℤ◌, ◌≤ℤ◌, ◌<ℤ◌, Bool, true, false, not, ◌&&◌, Option, None, Some, if◌then◌else◌}
use Rattle.std.specs.Int.{int_div_euclid, int_rem_euclid}
use Rattle.std.specs.Option.{option_map_or}
use Rattle.std.specs.Ordering.{int_eq}
use Rattle.std.proofs.lemmas.Bool.{false≢true}
use Rattle.std.proofs.lemmas.Bool.Decides.{Decides-int_eq}
use Rattle.std.proofs.lemmas.Int.{ints}
use Rattle.std.proofs.Math.IntN.{suc_ℤ-*ℤ}
use Rattle.std.proofs.Math.Nat.{div-add-mod, mul-div_cancel, mul-mod_left}
use Rattle.style_data.specs.declared.timing.AnimationTiming.{AnimationTiming}
use Rattle.style_data.specs.declared.transition.Phase.{Phase}
use Rattle.style_data.specs.declared.transition.Phase.TheVariants.{Idle, Before, Active, After}
use Rattle.anim_timing.specs.declared.iterations.Ratio.{Ratio}
use Rattle.anim_timing.specs.Durations.{active_duration}
use Rattle.anim_timing.specs.Iterations.{current_iteration, ends_iteration, is_before, is_whole, iteration_in, overall_progress, progress_in_iteration, ratio, simple_iteration_progress}

equal : (x y : ℤ) → x ≡ y → int_eq x y ≡ true
equal x y e = (Decides-int_eq x y).1 e

unequal : (x y : ℤ) → (x ≡ y → ⊥) → int_eq x y ≡ false
unequal x y h = not_true (int_eq x y) (λ e. h ((Decides-int_eq x y).0 e)) where
  not_true : (b : Bool) → (b ≡ true → ⊥) → b ≡ false
  not_true true k = absurd (k refl)
  not_true false k = refl

-- where an iteration lasts any time, the overall progress counts its durations
overall_is : (t : AnimationTiming) (phase : Phase) (active : ℤ) → pos 0 <ℤ t.duration.0 → overall_progress t phase active ≡ Some (ratio active t.duration.0)
overall_is t phase active some = rw (unequal t.duration.0 (pos 0) (λ e. absurd (omega (arith, ints)))) refl

-- ---- whole iterations and the rest

abbrev counted : Ratio → Bool → ℤ
counted r ends = (if ends then int_div_euclid r.num r.den -ℤ pos 1 else int_div_euclid r.num r.den)

step_back : (n : ℕ) (d : ℤ) → ((pos n -ℤ pos 1) *ℤ d) +ℤ d ≡ pos n *ℤ d
step_back zero d = sym (suc_ℤ-*ℤ (negsuc 0) d)
step_back (suc n) d = let e : pos (suc n) -ℤ pos 1 ≡ pos n = omega (arith, ints) in rw e (sym (suc_ℤ-*ℤ (pos n) d))

made_up : (active duration : ℤ) (ends : Bool) → pos 0 <ℤ duration → pos 0 ≤ℤ active → (ends ≡ true → int_rem_euclid active duration ≡ pos 0)
    → (counted (ratio active duration) ends *ℤ duration) +ℤ (simple_iteration_progress (Some (ratio active duration)) ends).num ≡ active
made_up (pos a) (pos d) true some low whole =
    let e = whole refl in
    let none : a % d ≡ 0 = omega (arith, ints) in
    step_back (a / d) (pos d) ∙ ap pos (omega (arith, div-add-mod a d))
made_up (pos a) (pos d) false some low whole = ap pos (omega (arith, div-add-mod a d))
made_up (negsuc a) d ends some low whole = absurd (omega (arith, ints))
made_up (pos a) (negsuc d) ends some low whole = absurd (omega (arith, ints))

right_of_and : (x y : Bool) → (x && y) ≡ true → y ≡ true
right_of_and true y e = e
right_of_and false y e = absurd (false≢true e)

-- at the end of the last iteration nothing is left beside whole ones
no_rest : (t : AnimationTiming) (phase : Phase) (active : ℤ) → pos 0 <ℤ t.duration.0 → ends_iteration t phase active ≡ true
    → int_rem_euclid active t.duration.0 ≡ pos 0
no_rest t phase active some ends =
    let whole = right_of_and (option_map_or (λ lasting. int_eq active lasting) (active_duration t) false) (is_whole (overall_progress t phase active))
    (right_of_and (not (is_before phase)) _ ends) in
    let of_duration = sym (ap is_whole (overall_is t phase active some)) ∙ whole in
    (Decides-int_eq (int_rem_euclid active t.duration.0) (pos 0)).0 (right_of_and (not (int_eq active (pos 0))) _ of_duration)

pub makes_up : (t : AnimationTiming) (phase : Phase) (active iteration : ℤ) → pos 0 <ℤ t.duration.0 → pos 0 ≤ℤ active → iteration_in t phase active ≡ Some iteration
    → (iteration *ℤ t.duration.0) +ℤ (progress_in_iteration t phase active).num ≡ active
makes_up t phase active iteration some low is = go (ends_iteration t phase active) refl (overall_progress t phase active) (overall_is t phase active some) is where
  go : (ends : Bool) → ends_iteration t phase active ≡ ends → (overall : Option Ratio) → overall ≡ Some (ratio active t.duration.0)
      → current_iteration overall ends ≡ Some iteration → (iteration *ℤ t.duration.0) +ℤ (simple_iteration_progress overall ends).num ≡ active
  go ends e overall o current =
      let number : counted (ratio active t.duration.0) ends ≡ iteration = cc (ap (λ v. current_iteration v ends) o) in
      rw (o, sym number) (made_up active t.duration.0 ends some low (λ b. no_rest t phase active some (e ∙ b)))

-- ---- at whole iterations

abbrev whole_count : ℕ → ℕ → Option Ratio
whole_count n d = Some (ratio (pos (n * d)) (pos d))

overall_at : (t : AnimationTiming) (phase : Phase) (n d : ℕ) → t.duration.0 ≡ pos d → pos 0 <ℤ pos d → overall_progress t phase (pos (n * d)) ≡ whole_count n d
overall_at t phase n d e some = overall_is t phase (pos (n * d)) (rw e some) ∙ ap (λ duration. Some (ratio (pos (n * d)) duration)) e

quotient : (n d : ℕ) → 0 < d → n * d / d ≡ n
quotient n d some = mul-div_cancel n some

is_at : (lasting : Option ℤ) (active : ℤ) → lasting ≡ Some active → option_map_or (λ v. int_eq active v) lasting false ≡ true
is_at lasting active e = rw e (equal active active refl)

not_at : (lasting : Option ℤ) (active : ℤ) → lasting ≢ Some active → option_map_or (λ v. int_eq active v) lasting false ≡ false
not_at None active h = refl
not_at (Some v) active h = unequal active v (λ e. h (ap Some (sym e)))

after_before : (phase : Phase) → phase ≢ Before → not (is_before phase) ≡ true
after_before Idle h = refl
after_before Before h = absurd (h refl)
after_before Active h = refl
after_before After h = refl

and_false : (b : Bool) → (b && false) ≡ false
and_false true = refl
and_false false = refl

whole : (n d : ℕ) → 0 < d → 0 < n → is_whole (whole_count n d) ≡ true
whole n d some times =
    let product : 0 < n * d = mul-pos times some in
    rw (unequal (pos (n * d)) (pos 0) (λ e. absurd (omega (arith, ints))), equal (pos (n * d % d)) (pos 0) (ap pos (mul-mod_left n d))) refl

ends_there : (t : AnimationTiming) (phase : Phase) (n d : ℕ) → overall_progress t phase (pos (n * d)) ≡ whole_count n d → 0 < d → 0 < n → phase ≢ Before
    → active_duration t ≡ Some (pos (n * d)) → ends_iteration t phase (pos (n * d)) ≡ true
ends_there t phase n d overall some times late lasting =
    rw (after_before phase late, is_at (active_duration t) (pos (n * d)) lasting, overall) (whole n d some times)

goes_on : (t : AnimationTiming) (phase : Phase) (active : ℤ) → active_duration t ≢ Some active → ends_iteration t phase active ≡ false
goes_on t phase active h = rw (not_at (active_duration t) active h) (and_false (not (is_before phase)))

abbrev AtEnd : AnimationTiming → Phase → ℕ → ℤ → Type 0
AtEnd t phase n duration =
    (iteration_in t phase (pos n *ℤ duration) ≡ Some (pos n -ℤ pos 1)) × (progress_in_iteration t phase (pos n *ℤ duration) ≡ ratio duration duration)

abbrev AtStart : AnimationTiming → Phase → ℕ → ℤ → Type 0
AtStart t phase n duration = (iteration_in t phase (pos n *ℤ duration) ≡ Some (pos n)) × (progress_in_iteration t phase (pos n *ℤ duration) ≡ ratio (pos 0) duration)

pub at_end : (t : AnimationTiming) (phase : Phase) (n : ℕ) → pos 0 <ℤ t.duration.0 → phase ≢ Before → 0 < n
    → active_duration t ≡ Some (pos n *ℤ t.duration.0) → AtEnd t phase n t.duration.0
at_end t phase n some late times lasting = go t.duration.0 refl some lasting where
  go : (duration : ℤ) → t.duration.0 ≡ duration → pos 0 <ℤ duration → active_duration t ≡ Some (pos n *ℤ duration) → AtEnd t phase n duration
  go (negsuc d) e some lasting = absurd (omega (arith, ints))
  go (pos d) e some lasting =
      let overall = overall_at t phase n d e some in
      let ends = ends_there t phase n d overall (omega (arith, ints)) times late lasting in
      (rw (ends, overall, quotient n d (omega (arith, ints))) refl, rw (ends, overall) refl)

pub at_next : (t : AnimationTiming) (phase : Phase) (n : ℕ) → pos 0 <ℤ t.duration.0 → active_duration t ≢ Some (pos n *ℤ t.duration.0)
    → AtStart t phase n t.duration.0
at_next t phase n some on = go t.duration.0 refl some on where
  go : (duration : ℤ) → t.duration.0 ≡ duration → pos 0 <ℤ duration → active_duration t ≢ Some (pos n *ℤ duration) → AtStart t phase n duration
  go (negsuc d) e some on = absurd (omega (arith, ints))
  go (pos d) e some on =
      let overall = overall_at t phase n d e some in
      let ends = goes_on t phase (pos (n * d)) on in
      (rw (ends, overall, quotient n d (omega (arith, ints))) refl, rw (ends, overall, mul-mod_left n d) refl)
