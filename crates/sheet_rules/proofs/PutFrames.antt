-- Frames stay in their order when one is put among them.
use Rattle.std.proofs.Common.{◌≡◌, List, [], ◌∷◌, get_or, suc, refl, sym, subst, Bool, true, false, arith}
use Rattle.std.specs.Prelude.{All, AllPairs, if◌then◌else◌}
use Rattle.std.proofs.lemmas.List.Elements.{All-cons, All-head, All-nil, All-tail}
use Rattle.std.proofs.lemmas.List.Kept.{AllPairs-cons}
use Rattle.value_types.specs.Keyframes.{IsFrameBefore, IsFrame, IsFrames}
use Rattle.value_types.specs.declared.frame.Frame.{Frame}
use Rattle.sheet_rules.specs.Frames.{put_frame, stands_before}
use Rattle.sheet_rules.proofs.FrameLemmas.{put_cons, put_nil}
use Rattle.sheet_rules.proofs.FrameOrder.{moved, same_place, stands, stands_after}

pairs_tail : {X : Type 0} (R : X → X → Type 0) (x : X) (xs : List X) → AllPairs R (x ∷ xs) → AllPairs R xs
pairs_tail R x xs h = λ i j d p q. h (suc i) (suc j) d (omega (arith, p)) (omega (arith, q))

pairs_head : {X : Type 0} (R : X → X → Type 0) (x : X) (xs : List X) → AllPairs R (x ∷ xs) → All (R x) xs
pairs_head R x xs h = λ k d p. h 0 (suc k) d (omega arith) (omega (arith, p))

all_mapped : {X : Type 0} (P Q : X → Type 0) (xs : List X) → ((x : X) → P x → Q x) → All P xs → All Q xs
all_mapped P Q xs f h = λ k d p. f (get_or xs k d) (h k d p)

chosen_all : (P : Frame → Type 0) (f g : Frame) (gs : List Frame) (a b : Bool) → P f → All P (g ∷ gs) → All P (put_frame f gs)
    → All P (if a then g ∷ put_frame f gs else (if b then f ∷ g ∷ gs else f ∷ gs))
chosen_all P f g gs true b p h others = All-cons P g (put_frame f gs) (All-head P g gs h) others
chosen_all P f g gs false true p h others = All-cons P f (g ∷ gs) p h
chosen_all P f g gs false false p h others = All-cons P f gs p (All-tail P g gs h)

-- what holds of the frame and of the others holds of all of them
all_put : (P : Frame → Type 0) (f : Frame) (gs : List Frame) → P f → All P gs → All P (put_frame f gs)
all_put P f [] p h = subst (All P) (sym (put_nil f)) (All-cons P f [] p (All-nil P))
all_put P f (g ∷ gs) p h =
    subst (All P) (sym (put_cons f g gs)) (chosen_all P f g gs (stands_before g f) (stands_before f g) p h (all_put P f gs p (All-tail P g gs h)))

chosen_ordered : (f g : Frame) (gs : List Frame) (a b : Bool) → stands_before g f ≡ a → stands_before f g ≡ b → AllPairs IsFrameBefore (g ∷ gs)
    → AllPairs IsFrameBefore (put_frame f gs) → AllPairs IsFrameBefore (if a then g ∷ put_frame f gs else (if b then f ∷ g ∷ gs else f ∷ gs))
chosen_ordered f g gs true b e k h others =
    AllPairs-cons IsFrameBefore g (put_frame f gs) (all_put (IsFrameBefore g) f gs (stands g f e) (pairs_head IsFrameBefore g gs h)) others
chosen_ordered f g gs false true e k h others =
    let later = all_mapped (IsFrameBefore g) (IsFrameBefore f) gs (λ x q. stands_after f g x (stands f g k) q) (pairs_head IsFrameBefore g gs h) in
    AllPairs-cons IsFrameBefore f (g ∷ gs) (All-cons (IsFrameBefore f) g gs (stands f g k) later) h
chosen_ordered f g gs false false e k h others =
    let later = all_mapped (IsFrameBefore g) (IsFrameBefore f) gs (λ x q. moved f g x (same_place f g k e) q) (pairs_head IsFrameBefore g gs h) in
    AllPairs-cons IsFrameBefore f gs later (pairs_tail IsFrameBefore g gs h)

ordered_put : (f : Frame) (gs : List Frame) → AllPairs IsFrameBefore gs → AllPairs IsFrameBefore (put_frame f gs)
ordered_put f [] h = subst (AllPairs IsFrameBefore) (sym (put_nil f)) (AllPairs-cons IsFrameBefore f [] (All-nil (IsFrameBefore f)) h)
ordered_put f (g ∷ gs) h =
    subst (AllPairs IsFrameBefore) (sym (put_cons f g gs))
    (chosen_ordered f g gs (stands_before g f) (stands_before f g) refl refl h (ordered_put f gs (pairs_tail IsFrameBefore g gs h)))

-- frames with one more are frames
pub put_frames : (f : Frame) (gs : List Frame) → IsFrame f → IsFrames gs → IsFrames (put_frame f gs)
put_frames f gs frame frames = record { each = all_put IsFrame f gs frame frames.each; ascending = ordered_put f gs frames.ascending }
