-- Of two frames of one offset and property the later one is kept.
use Rattle.std.proofs.Common.{◌≡◌, List, [], ◌∷◌, Bool, true, false, ◌&&◌, ◌==◌, cond, refl, ap, sym, ◌∙◌, inl, inr, arith}
use Rattle.std.specs.Prelude.{if◌then◌else◌, Some}
use Rattle.std.proofs.lemmas.Bool.{eqb-true}
use Rattle.std.proofs.lemmas.Bool.Decides.{Decides-int_eq}
use Rattle.std.proofs.lemmas.Int.{ints}
use Rattle.std.specs.Ordering.{int_eq}
use Rattle.fix_num.specs.declared.units.Bill.{Bill}
use Rattle.value_types.specs.Keyframes.{IsFrameBefore}
use Rattle.value_types.specs.Properties.{number_of}
use Rattle.value_types.specs.declared.frame.Frame.{Frame}
use Rattle.value_types.specs.declared.property.PropertyId.{PropertyId}
use Rattle.sheet_rules.specs.Frames.{frame_of, is_of, put_frame, stands_before}
use Rattle.sheet_rules.proofs.FrameLemmas.{put_cons, put_nil}
use Rattle.sheet_rules.proofs.FrameOrder.{same_place, stands}

both_true : (a b : Bool) → (a && b) ≡ true → (a ≡ true) × (b ≡ true)
both_true true b is = (refl, is)
both_true false b is = absurd (cc)

-- where the frame is of them, its offset and its number are theirs
of_is : (at : Bill) (p : PropertyId) (f : Frame) → is_of at p f ≡ true → (f.offset.0 ≡ at.0) × (number_of f.property ≡ number_of p)
of_is at p f is =
    let parts = both_true (int_eq f.offset.0 at.0) (number_of f.property == number_of p) is in
    ((Decides-int_eq f.offset.0 at.0).0 parts.0, eqb-true (number_of f.property) (number_of p) parts.1)

never_before : (f g : Frame) → (f.offset.0 ≡ g.offset.0) × (number_of f.property ≡ number_of g.property) → IsFrameBefore f g → ⊥
never_before f g same (inl less) = let e = same.0 in omega (arith, ints, e, less)
never_before f g same (inr less) = let e = same.1 in let h = less.1 in omega (arith, e, h)

-- a frame before another is of no offset and property that the other is of
apart_of : (at : Bill) (p : PropertyId) (f g : Frame) → stands_before g f ≡ true → is_of at p f ≡ true → is_of at p g ≡ false
apart_of at p f g before is = by (is_of at p g) refl
  where
    by : (b : Bool) → is_of at p g ≡ b → b ≡ false
    by true own =
        let a = of_is at p f is in
        let b = of_is at p g own in
        absurd (never_before g f (b.0 ∙ sym a.0, b.1 ∙ sym a.1) (stands g f before))
    by false own = refl

swapped : {X : Type 0} (b c : Bool) (x y r : X) → (b ≡ true → c ≡ false) → cond c y (cond b x r) ≡ cond b x (cond c y r)
swapped true true x y r apart = absurd (let e = apart refl in cc)
swapped true false x y r apart = refl
swapped false c x y r apart = refl

once : {X : Type 0} (b c : Bool) (x y r : X) → c ≡ b → cond b x r ≡ cond b x (cond c y r)
once true c x y r same = refl
once false c x y r same = rw same refl

pub later_wins : (at : Bill) (p : PropertyId) (f : Frame) (fs : List Frame) → frame_of at p (put_frame f fs) ≡ (if is_of at p f then Some f else frame_of at p fs)
later_wins at p f [] = ap (frame_of at p) (put_nil f)
later_wins at p f (g ∷ gs) = ap (frame_of at p) (put_cons f g gs) ∙ by (later_wins at p f gs) (stands_before g f) refl (stands_before f g) refl
  where
    by : frame_of at p (put_frame f gs) ≡ (if is_of at p f then Some f else frame_of at p gs)
        → (before : Bool) → stands_before g f ≡ before → (after : Bool) → stands_before f g ≡ after
        → frame_of at p (if before then g ∷ put_frame f gs else (if after then f ∷ g ∷ gs else f ∷ gs)) ≡ (if is_of at p f then Some f else frame_of at p (g ∷ gs))
    by others true is after e =
        ap (cond (is_of at p g) (Some g)) others ∙ swapped (is_of at p f) (is_of at p g) (Some f) (Some g) (frame_of at p gs) (apart_of at p f g is)
    by others false is true e = refl
    by others false is false e =
        let same = same_place g f is e in
        once (is_of at p f) (is_of at p g) (Some f) (Some g) (frame_of at p gs) (λ j. int_eq (same.0 j) at.0 && (same.1 j == number_of p))
