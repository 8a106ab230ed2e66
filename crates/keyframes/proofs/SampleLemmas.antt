-- What samples give are values of the property.
use Rattle.std.proofs.Common.{◌≡◌, ◌∙◌, refl, sym, ap, subst, rules}
use Rattle.std.specs.Prelude.{ℤ, pos, ◌*ℤ◌, ◌||◌, int_lt, cond, slice_get, Bool, true, false, List, [], ◌∷◌, ◌++◌, find, All, Option, None, Some, is_some, IfSome, if◌then◌else◌}
use Rattle.std.proofs.lemmas.Bool.{eqb-true}
use Rattle.std.proofs.lemmas.List.Elements.{All-cons, All-head, All-nil, All-tail}
use Rattle.computed_value.proofs.Validity.{em_size_is, resolved_valid}
use Rattle.computed_value.specs.Absolute.{em_size_of}
use Rattle.fix_num.specs.declared.units.Bill.{Bill}
use Rattle.fix_num.specs.declared.units.Fix.{Fix}
use Rattle.fix_num.specs.declared.units.TheConstants.Bill.{ONE}
use Rattle.interpolation.proofs.ValidityLemmas.{either, value_valid}
use Rattle.interpolation.specs.Interpolation.{is_interpolable, value_between}
use Rattle.value_types.proofs.PropertyLemmas.{at_its_number}
use Rattle.value_types.specs.Keyframes.{IsFrame}
use Rattle.value_types.specs.Properties.{all_properties, number_of}
use Rattle.value_types.specs.Ranges.{IsSize}
use Rattle.value_types.specs.Table.{initial_value}
use Rattle.value_types.specs.Validity.{IsDeclaredFor, IsValid}
use Rattle.value_types.specs.declared.declared.Declared.{Declared}
use Rattle.value_types.specs.declared.declared.Declared.TheVariants.{Inherit, Initial}
use Rattle.value_types.specs.declared.frame.Frame.{Frame}
use Rattle.value_types.specs.declared.property.PropertyId.{PropertyId}
use Rattle.value_types.specs.declared.property.PropertyId.TheVariants.{BackgroundColor}
use Rattle.value_types.specs.declared.value.Value.{Value}
use Rattle.keyframes.specs.declared.keyframe.EffectContext.{EffectContext}
use Rattle.keyframes.specs.declared.animation_sample.SampleParts.{SampleParts}
use Rattle.keyframes.specs.EffectValues.{combined_value, interval_value, sample_of}
use Rattle.keyframes.specs.Last.{last_given, last_passing}
use Rattle.keyframes.specs.PropertyKeyframes.{effect_context, frames_of, gives, keyframe_or, value_given, zero_offset}
use Rattle.keyframes.specs.SampleLists.{GiveValid, IsSample, value_given_by, value_of_samples}
use Rattle.keyframes.specs.Validity.{IsContext, IsFrameOf, IsProgress}
use Rattle.keyframes.proofs.KeyframeLemmas.{ahead, chosen, reaches, sample_is}
use Rattle.keyframes.proofs.ListLemmas.{find-holds, last_given-append, last_passing-holds, or_holds}

-- ---- frames of a property

property_is : (q p : PropertyId) → number_of q ≡ number_of p → q ≡ p
property_is q p e = let same = sym (at_its_number q) ∙ ap (slice_get all_properties) e ∙ at_its_number p in cc

pub frames_are : (p : PropertyId) (frames : List Frame) → All IsFrame frames → All (IsFrameOf p) (frames_of p frames)
frames_are p [] all = All-nil (IsFrameOf p)
frames_are p (f ∷ fs) all = go (gives p f) refl (frames_are p fs (All-tail IsFrame f fs all)) where
  go : (b : Bool) → gives p f ≡ b → All (IsFrameOf p) (frames_of p fs) → All (IsFrameOf p) (cond b (f ∷ frames_of p fs) (frames_of p fs))
  go true e rest =
      All-cons (IsFrameOf p) f (frames_of p fs)
      (record { frame = All-head IsFrame f fs all; property = property_is f.property p (eqb-true (number_of f.property) (number_of p) e) }) rest
  go false e rest = rest

pub last_frame : (p : PropertyId) (num den : ℤ) (frames : List Frame) → All IsFrame frames → IfSome (last_passing (reaches num den) (frames_of p frames)) (IsFrameOf p)
last_frame p num den frames all = last_passing-holds (reaches num den) (IsFrameOf p) (frames_of p frames) (frames_are p frames all)

pub next_frame : (p : PropertyId) (num den : ℤ) (frames : List Frame) → All IsFrame frames → IfSome (find (ahead num den) (frames_of p frames)) (IsFrameOf p)
next_frame p num den frames all = find-holds (ahead num den) (IsFrameOf p) (frames_of p frames) (frames_are p frames all)

-- ---- values

pub initial_valid : (p : PropertyId) → IsValid p (initial_value p)
initial_valid BackgroundColor = search rules
initial_valid p = search rules

pub given_valid : (x : EffectContext) (d : Declared) → IsContext x → IsDeclaredFor x.property d → IsValid x.property (value_given x d)
given_valid x Inherit is ok = is.under
given_valid x Initial is ok = initial_valid x.property
given_valid x d is ok =
    resolved_valid x.property (em_size_of x.property x.parent_size x.own_size) x.root_size d (em_size_is x.property x.parent_size x.own_size is.parent is.own) is.root tt ok

keyframe_valid : (x : EffectContext) (f : Option Frame) (offset : Bill) → IsContext x → IfSome f (IsFrameOf x.property) → IsValid x.property (keyframe_or x f offset).value
keyframe_valid x None offset is of = is.under
keyframe_valid x (Some f) offset is of = given_valid x f.declared is (subst (λ (p : PropertyId). IsDeclaredFor p f.declared) of.property of.frame.declared)

pub combined_valid : (p : PropertyId) (a b : Value) (q : ℤ) → IsValid p a → IsValid p b → IsValid p (combined_value p a b q)
combined_valid p a b q from to =
    either (IsValid p) (is_interpolable p a b) (value_between p a b q) (if int_lt (pos 2 *ℤ q) ONE.0 then a else b) (value_valid p a b q from to)
    (either (IsValid p) (int_lt (pos 2 *ℤ q) ONE.0) a b from to)

chosen_valid : (x : EffectContext) (num den : ℤ) (last next : Option Frame) → IsContext x → IfSome last (IsFrameOf x.property) → IfSome next (IsFrameOf x.property)
    → IfSome (chosen x num den last next) (IsValid x.property)
chosen_valid x num den last next is from to = go (is_some last || is_some next) where
  go : (b : Bool) → IfSome (if b then Some (interval_value x.property num den (keyframe_or x last zero_offset) (keyframe_or x next ONE)) else None) (IsValid x.property)
  go true =
      combined_valid x.property (keyframe_or x last zero_offset).value (keyframe_or x next ONE).value _ (keyframe_valid x last zero_offset is from)
      (keyframe_valid x next ONE is to)
  go false = tt

sample_valid : (frames : List Frame) (x : EffectContext) (num den : ℤ) → All IsFrame frames → IsContext x → IsProgress num den → IfSome (sample_of frames x num den) (IsValid x.property)
sample_valid frames x num den all is progress =
    subst (λ (o : Option Value). IfSome o (IsValid x.property)) (sym (sample_is x frames num den progress))
    (chosen_valid x num den (last_passing (reaches num den) (frames_of x.property frames)) (find (ahead num den) (frames_of x.property frames)) is
    (last_frame x.property num den frames all) (next_frame x.property num den frames all))

-- ---- lists of samples

value_given_valid : (s : SampleParts) → IsSample s → (p : PropertyId) (parent own root : Fix) (under : Value)
    → IsValid p under → IsSize parent → IsSize own → IsSize root → IfSome (value_given_by p parent own root under s) (IsValid p)
value_given_valid s of p parent own root under is a b c =
    sample_valid s.frames (effect_context p s.easing parent own root under) s.num s.den of.frames
    (record { easing = of.easing; parent = a; own = b; root = c; under = is }) of.progress

pub none_is_valid : GiveValid []
none_is_valid p parent own root under is a b c = tt

pub more_are_valid : (samples more : List SampleParts) (s : SampleParts) → more ≡ samples ++ s ∷ [] → GiveValid samples → IsSample s → GiveValid more
more_are_valid samples more s e valid of p parent own root under is a b c =
    subst (λ (o : Option Value). IfSome o (IsValid p)) (sym (ap (last_given (value_given_by p parent own root under)) e ∙ last_given-append (value_given_by p parent own root under) samples (s ∷ [])))
    (or_holds (IsValid p) (value_given_by p parent own root under s) (value_of_samples samples p parent own root under) (value_given_valid s of p parent own root under is a b c)
    (valid p parent own root under is a b c))
