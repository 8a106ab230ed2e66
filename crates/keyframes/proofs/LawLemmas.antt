-- Samples in single cases.
use Rattle.std.proofs.Common.{◌≡◌, ◌∙◌, refl, sym, ap}
use Rattle.std.specs.Prelude.{ℤ, pos, ◌*ℤ◌, int_lt, Bool, true, false, not, List, [], ◌∷◌, ◌++◌, find, All, Option, None, Some, IfSome, if◌then◌else◌}
use Rattle.std.specs.Option.{option_or}
use Rattle.std.proofs.lemmas.Bool.{false≢true}
use Rattle.fix_num.specs.declared.units.Fix.{Fix}
use Rattle.fix_num.specs.declared.units.TheConstants.Bill.{ONE}
use Rattle.interpolation.proofs.BetweenLemmas.{equal_stays}
use Rattle.interpolation.specs.Interpolation.{is_interpolable, value_between}
use Rattle.value_types.specs.declared.frame.Frame.{Frame}
use Rattle.value_types.specs.declared.property.PropertyId.{PropertyId}
use Rattle.value_types.specs.declared.value.Value.{Value}
use Rattle.keyframes.specs.declared.animation_sample.SampleParts.{SampleParts}
use Rattle.keyframes.specs.declared.keyframe.EffectContext.{EffectContext}
use Rattle.keyframes.specs.EffectValues.{combined_value, output_between, sample_of}
use Rattle.keyframes.specs.Last.{last_passing}
use Rattle.keyframes.specs.PropertyKeyframes.{frames_of, has_frame_at, keyframe_of, value_given, zero_offset}
use Rattle.keyframes.specs.SampleLists.{value_given_by, value_of_samples}
use Rattle.keyframes.specs.Validity.{IsProgress}
use Rattle.keyframes.proofs.KeyframeLemmas.{ahead, chosen, ends, reached_at, reaches, sample_is, starts}
use Rattle.keyframes.proofs.ListLemmas.{find-holds, find-none, last_given-append, last_passing-holds, last_passing-none, neither}

pub no_frames : (frames : List Frame) (x : EffectContext) (num den : ℤ) → frames_of x.property frames ≡ [] → sample_of frames x num den ≡ None
unfolding sample_of
no_frames frames x num den e = rw e refl

pub only_no_frames : (frames : List Frame) (x : EffectContext) (num den : ℤ) → IsProgress num den → sample_of frames x num den ≡ None → frames_of x.property frames ≡ []
only_no_frames frames x num den is none =
    let fs = frames_of x.property frames in
    go (last_passing (reaches num den) fs) refl (find (ahead num den) fs) refl (sym (sample_is x frames num den is) ∙ none) where
      go : (last : Option Frame) → last_passing (reaches num den) (frames_of x.property frames) ≡ last → (next : Option Frame)
          → find (ahead num den) (frames_of x.property frames) ≡ next
          → chosen x num den (last_passing (reaches num den) (frames_of x.property frames)) (find (ahead num den) (frames_of x.property frames)) ≡ None
          → frames_of x.property frames ≡ []
      go None e None f none = neither (reaches num den) (frames_of x.property frames) e f
      go (Some a) e next f none = let h = rw e at none in cc
      go None e (Some b) f none = let h = rw (e, f) at none in cc

-- ---- one value throughout

stays : (p : PropertyId) (v : Value) (q : ℤ) → combined_value p v v q ≡ v
stays p v q = go (is_interpolable p v v) (int_lt (pos 2 *ℤ q) ONE.0) where
  go : (a b : Bool) → (if a then value_between p v v q else if b then v else v) ≡ v
  go true b = equal_stays p v q
  go false true = refl
  go false false = refl

same_values : (p : PropertyId) (a b v : Value) (q : ℤ) → a ≡ v → b ≡ v → combined_value p a b q ≡ v
same_values p a b v q e f = rw (e, f) (stays p v q)

abbrev GivesOnly : EffectContext → Value → Frame → Type 0
GivesOnly x v f = value_given x f.declared ≡ v

pub one_value : (frames : List Frame) (x : EffectContext) (num den : ℤ) (v : Value) → IsProgress num den
    → has_frame_at zero_offset (frames_of x.property frames) ≡ true → has_frame_at ONE (frames_of x.property frames) ≡ true
    → All (λ f. value_given x f.declared ≡ v) (frames_of x.property frames) → sample_of frames x num den ≡ Some v
one_value frames x num den v is first last all =
    let fs = frames_of x.property frames in
    sample_is x frames num den is
    ∙ go (last_passing (reaches num den) fs) refl (find (ahead num den) fs) refl (last_passing-holds (reaches num den) (GivesOnly x v) fs all)
    (find-holds (ahead num den) (GivesOnly x v) fs all) where
      go : (a : Option Frame) → last_passing (reaches num den) (frames_of x.property frames) ≡ a → (b : Option Frame)
          → find (ahead num den) (frames_of x.property frames) ≡ b → IfSome (last_passing (reaches num den) (frames_of x.property frames)) (GivesOnly x v)
          → IfSome (find (ahead num den) (frames_of x.property frames)) (GivesOnly x v)
          → chosen x num den (last_passing (reaches num den) (frames_of x.property frames)) (find (ahead num den) (frames_of x.property frames)) ≡ Some v
      go None e b f p q = absurd (false≢true
          (sym (last_passing-none (reaches num den) _ (λ g same. reached_at num den g (pos 0) true (starts num den is) same) (frames_of x.property frames) e) ∙ first))
      go (Some a) e None f p q = absurd (false≢true
          (sym (find-none (ahead num den) _ (λ g same. ap not (reached_at num den g ONE.0 false (ends num den) same)) (frames_of x.property frames) f) ∙ last))
      go (Some a) e (Some b) f p q =
          let from : value_given x a.declared ≡ v = rw e at p in
          let to : value_given x b.declared ≡ v = rw f at q in
          rw (e, f)
          (ap Some (same_values x.property (value_given x a.declared) (value_given x b.declared) v (output_between num den (keyframe_of x a) (keyframe_of x b)) from to))

-- ---- the last animation

pub last_wins : (samples : List SampleParts) (s : SampleParts) (p : PropertyId) (parent own root : Fix) (under v : Value)
    → value_given_by p parent own root under s ≡ Some v → value_of_samples (samples ++ s ∷ []) p parent own root under ≡ Some v
last_wins samples s p parent own root under v e =
    last_given-append (value_given_by p parent own root under) samples (s ∷ []) ∙ ap (λ o. option_or o (value_of_samples samples p parent own root under)) e

pub others_stay : (samples : List SampleParts) (s : SampleParts) (p : PropertyId) (parent own root : Fix) (under : Value)
    → value_given_by p parent own root under s ≡ None → value_of_samples (samples ++ s ∷ []) p parent own root under ≡ value_of_samples samples p parent own root under
others_stay samples s p parent own root under e =
    last_given-append (value_given_by p parent own root under) samples (s ∷ []) ∙ ap (λ o. option_or o (value_of_samples samples p parent own root under)) e
