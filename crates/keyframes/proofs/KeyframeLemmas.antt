-- The interval endpoints among the keyframes of a property.
use Rattle.std.proofs.Common.{◌≡◌, ◌∙◌, refl, sym, ap, arith}
use Rattle.std.specs.Prelude.{ℤ, pos, negsuc, ◌*ℤ◌, ◌≤ℤ◌, int_le, Bool, true, false, not, ◌&&◌, ◌||◌, List, [], ◌∷◌, ◌++◌, map, find, Option, None, Some, option_map, is_some, IfSome, if◌then◌else◌}
use Rattle.std.specs.List.{list_any}
use Rattle.std.specs.Option.{option_or}
use Rattle.std.specs.Ordering.{int_eq}
use Rattle.std.proofs.lemmas.Bool.{false≢true}
use Rattle.std.proofs.lemmas.Bool.Decides.{Decides-int_eq}
use Rattle.std.proofs.lemmas.Int.{ints}
use Rattle.std.proofs.lemmas.List.Folds.{find-append}
use Rattle.fix_num.specs.Fractions.{IsFraction}
use Rattle.fix_num.specs.declared.units.Bill.{Bill}
use Rattle.fix_num.specs.declared.units.TheConstants.Bill.{ONE}
use Rattle.value_types.specs.declared.frame.Frame.{Frame}
use Rattle.value_types.specs.declared.property.PropertyId.{PropertyId}
use Rattle.value_types.specs.declared.value.Value.{Value}
use Rattle.value_types.proofs.PropertyLemmas.{find_passes}
use Rattle.keyframes.specs.declared.keyframe.EffectContext.{EffectContext}
use Rattle.keyframes.specs.declared.keyframe.Keyframe.{Keyframe}
use Rattle.keyframes.specs.EffectValues.{end_of, interval_value, is_reached, sample_of, start_of, where_any}
use Rattle.keyframes.specs.Last.{last_passing}
use Rattle.keyframes.specs.PropertyKeyframes.{constructed_at, frames_of, keyframe_of, keyframe_or, underlying_at, with_ends, zero_offset}
use Rattle.keyframes.specs.Validity.{IsFrameOf, IsProgress}
use Rattle.keyframes.proofs.ListLemmas.{find-map, find-none, last_given-append, last_passing-map, last_passing-none, last_passing-passes, neither}

le_true : (a b : ℤ) → a ≤ℤ b → int_le a b ≡ true
le_true a b h = grind (arith, ints)

and_false : (b : Bool) → (b && false) ≡ false
and_false true = refl
and_false false = refl

-- ---- offsets that a progress reaches

nothing_passed : (num den : ℤ) → pos 0 ≤ℤ num → (pos 0 *ℤ den) ≤ℤ (ONE.0 *ℤ num)
nothing_passed (pos n) (pos d) h = omega (arith, ints)
nothing_passed (pos n) (negsuc d) h = omega (arith, ints)
nothing_passed (negsuc n) den h = absurd (omega (arith, ints))

pub starts : (num den : ℤ) → IsProgress num den → is_reached num den (pos 0) ≡ true
starts num den is = rw (le_true (pos 0 *ℤ den) (ONE.0 *ℤ num) (nothing_passed num den is.low)) refl

pub ends : (num den : ℤ) → is_reached num den ONE.0 ≡ false
ends num den = and_false (int_le (ONE.0 *ℤ den) (ONE.0 *ℤ num))

abbrev pub reaches : ℤ → ℤ → Frame → Bool
reaches num den f = is_reached num den f.offset.0

abbrev pub ahead : ℤ → ℤ → Frame → Bool
ahead num den f = not (is_reached num den f.offset.0)

-- ---- the endpoints

start_or : (x : EffectContext) (o : Option Frame) (offset : Bill) (k : Option Keyframe) → (o ≡ None → k ≡ Some (underlying_at x offset))
    → option_or (option_map (keyframe_of x) o) k ≡ Some (keyframe_or x o offset)
start_or x None offset k h = h refl
start_or x (Some f) offset k h = refl

-- the constructed keyframe at 0 is reached, the one at 1 isn't
last_constructed : (x : EffectContext) (fs : List Frame) (num den : ℤ) → IsProgress num den → list_any (λ f. int_eq f.offset.0 (pos 0)) fs ≡ false
    → last_passing (λ k. is_reached num den k.offset.0) (constructed_at x fs zero_offset) ≡ Some (underlying_at x zero_offset)
last_constructed x fs num den is e = rw (e, starts num den is) refl

no_last_at_end : (x : EffectContext) (fs : List Frame) (num den : ℤ) → last_passing (λ k. is_reached num den k.offset.0) (constructed_at x fs ONE) ≡ None
no_last_at_end x fs num den = go (list_any (λ f. int_eq f.offset.0 ONE.0) fs) where
  go : (b : Bool) → last_passing (λ (k : Keyframe). is_reached num den k.offset.0) (if b then [] else underlying_at x ONE ∷ []) ≡ None
  go true = refl
  go false = rw (ends num den) refl

first_constructed : (x : EffectContext) (fs : List Frame) (num den : ℤ) → list_any (λ f. int_eq f.offset.0 ONE.0) fs ≡ false
    → find (λ k. not (is_reached num den k.offset.0)) (constructed_at x fs ONE) ≡ Some (underlying_at x ONE)
first_constructed x fs num den e = rw (e, ends num den) refl

no_first_at_start : (x : EffectContext) (fs : List Frame) (num den : ℤ) → IsProgress num den → find (λ k. not (is_reached num den k.offset.0)) (constructed_at x fs zero_offset) ≡ None
no_first_at_start x fs num den is = go (list_any (λ f. int_eq f.offset.0 (pos 0)) fs) where
  go : (b : Bool) → find (λ (k : Keyframe). not (is_reached num den k.offset.0)) (if b then [] else underlying_at x zero_offset ∷ []) ≡ None
  go true = refl
  go false = rw (starts num den is) refl

pub reached_at : (num den : ℤ) (f : Frame) (offset : ℤ) (b : Bool) → is_reached num den offset ≡ b → int_eq f.offset.0 offset ≡ true → is_reached num den f.offset.0 ≡ b
reached_at num den f offset b e same = ap (is_reached num den) ((Decides-int_eq f.offset.0 offset).0 same) ∙ e

pub start_is : (x : EffectContext) (fs : List Frame) (num den : ℤ) → IsProgress num den
    → start_of (with_ends x fs) num den ≡ Some (keyframe_or x (last_passing (reaches num den) fs) zero_offset)
start_is x fs num den is =
    let test : Keyframe → Bool = λ k. is_reached num den k.offset.0 in
    let first = constructed_at x fs zero_offset in
    let given = map (keyframe_of x) fs in
    last_given-append _ (first ++ given) (constructed_at x fs ONE)
    ∙ ap (λ o. option_or o (last_passing test (first ++ given))) (no_last_at_end x fs num den)
    ∙ last_given-append _ first given
    ∙ ap (λ o. option_or o (last_passing test first)) (last_passing-map test (keyframe_of x) fs)
    ∙ start_or x (last_passing (reaches num den) fs) zero_offset (last_passing test first)
    (λ none. last_constructed x fs num den is (last_passing-none (reaches num den) _ (λ f same. reached_at num den f (pos 0) true (starts num den is) same) fs none))

pub end_is : (x : EffectContext) (fs : List Frame) (num den : ℤ) → IsProgress num den
    → end_of (with_ends x fs) num den ≡ Some (keyframe_or x (find (ahead num den) fs) ONE)
end_is x fs num den is =
    let test : Keyframe → Bool = λ k. not (is_reached num den k.offset.0) in
    let first = constructed_at x fs zero_offset in
    let given = map (keyframe_of x) fs in
    find-append test (first ++ given) (constructed_at x fs ONE)
    ∙ ap (λ o. option_or o (find test (constructed_at x fs ONE)))
    (find-append test first given ∙ ap (λ o. option_or o (find test given)) (no_first_at_start x fs num den is) ∙ find-map test (keyframe_of x) fs)
    ∙ start_or x (find (ahead num den) fs) ONE (find test (constructed_at x fs ONE))
    (λ none. first_constructed x fs num den (find-none (ahead num den) _ (λ f same. ap not (reached_at num den f ONE.0 false (ends num den) same)) fs none))

-- ---- the sample

any_frame : (num den : ℤ) (fs : List Frame) (v : Option Value)
    → where_any fs v ≡ (if is_some (last_passing (reaches num den) fs) || is_some (find (ahead num den) fs) then v else None)
any_frame num den fs v = go (last_passing (reaches num den) fs) refl (find (ahead num den) fs) refl where
  some : (gs : List Frame) → (gs ≡ [] → ⊥) → where_any gs v ≡ v
  some [] h = absurd (h refl)
  some (g ∷ gs) h = refl

  go : (last : Option Frame) → last_passing (reaches num den) fs ≡ last → (next : Option Frame) → find (ahead num den) fs ≡ next
      → where_any fs v ≡ (if is_some last || is_some next then v else None)
  go None e None f = rw (neither (reaches num den) fs e f) refl
  go (Some a) e next f = some fs (λ none. let h = sym (ap (last_passing (reaches num den)) none) ∙ e in cc)
  go None e (Some b) f = some fs (λ none. let h = sym (ap (find (ahead num den)) none) ∙ f in cc)

-- the value between the keyframes of two frames, where there is any
abbrev pub chosen : EffectContext → ℤ → ℤ → Option Frame → Option Frame → Option Value
chosen x num den last next =
    (if is_some last || is_some next then Some (interval_value x.property num den (keyframe_or x last zero_offset) (keyframe_or x next ONE)) else None)

pub sample_is : (x : EffectContext) (frames : List Frame) (num den : ℤ) → IsProgress num den
    → sample_of frames x num den ≡ chosen x num den (last_passing (reaches num den) (frames_of x.property frames)) (find (ahead num den) (frames_of x.property frames))
unfolding sample_of
sample_is x frames num den is =
    let fs = frames_of x.property frames in rw (start_is x fs num den is, end_is x fs num den is) (any_frame num den fs _)

pub no_sample : (x : EffectContext) (frames : List Frame) (num den : ℤ) (last next : Option Frame) → IsProgress num den
    → last ≡ last_passing (reaches num den) (frames_of x.property frames) → next ≡ find (ahead num den) (frames_of x.property frames)
    → (is_some last || is_some next) ≡ false → None ≡ sample_of frames x num den
no_sample x frames num den last next is e f none = rw (sample_is x frames num den is, ← e, ← f, none) refl

pub some_sample : (x : EffectContext) (frames : List Frame) (num den : ℤ) (last next : Option Frame) (from to : Keyframe) (v : Value) → IsProgress num den
    → last ≡ last_passing (reaches num den) (frames_of x.property frames) → next ≡ find (ahead num den) (frames_of x.property frames)
    → (is_some last || is_some next) ≡ true → from ≡ keyframe_or x last zero_offset → to ≡ keyframe_or x next ONE
    → v ≡ interval_value x.property num den from to → Some v ≡ sample_of frames x num den
some_sample x frames num den last next from to v is e f some a b value = rw (sample_is x frames num den is, ← e, ← f, some, value, a, b) refl

-- ---- what the endpoints have

pub start_reached : (x : EffectContext) (fs : List Frame) (num den : ℤ) (last : Option Frame) → IsProgress num den → last ≡ last_passing (reaches num den) fs
    → is_reached num den (keyframe_or x last zero_offset).offset.0 ≡ true
start_reached x fs num den None is e = starts num den is
start_reached x fs num den (Some f) is e = last_passing-passes (reaches num den) fs f (sym e)

pub end_ahead : (x : EffectContext) (fs : List Frame) (num den : ℤ) (next : Option Frame) → next ≡ find (ahead num den) fs
    → is_reached num den (keyframe_or x next ONE).offset.0 ≡ false
end_ahead x fs num den None e = ends num den
end_ahead x fs num den (Some f) e = not_true (is_reached num den f.offset.0) (find_passes (ahead num den) fs f (sym e)) where
  not_true : (b : Bool) → not b ≡ true → b ≡ false
  not_true true h = absurd (false≢true h)
  not_true false h = refl

pub offset_within : (x : EffectContext) (p : PropertyId) (f : Option Frame) (offset : Bill) → IfSome f (IsFrameOf p) → IsFraction offset.0
    → IsFraction (keyframe_or x f offset).offset.0
offset_within x p None offset is within = within
offset_within x p (Some f) offset is within = record { low = is.frame.low; high = is.frame.high }
