-- Frames that are put in their places.
use Rattle.std.proofs.Common.{◌≡◌, ℕ, ◌+◌, suc, cond, arith, List, [], ◌∷◌, refl, ap, sym, ◌∙◌, Bool, true, false, not}
use Rattle.std.specs.Prelude.{insert, set, if◌then◌else◌}
use Rattle.std.specs.List.{prefix_len}
use Rattle.value_types.specs.declared.frame.Frame.{Frame}
use Rattle.sheet_rules.specs.Frames.{is_taken, put_frame, stands_before}

abbrev pub place_of : Frame → List Frame → ℕ
place_of f gs = prefix_len (λ g. stands_before g f) gs

-- the frame in its place: over the one that has it, or between two others
abbrev pub placed_at : ℕ → Bool → Frame → List Frame → List Frame
placed_at n true f gs = set gs n f
placed_at n false f gs = insert gs n f

abbrev pub placed : Bool → Frame → List Frame → List Frame
placed taken f gs = placed_at (place_of f gs) taken f gs

later_place : (taken : Bool) (f g : Frame) (gs : List Frame) (n : ℕ) → placed_at (suc n) taken f (g ∷ gs) ≡ g ∷ placed_at n taken f gs
later_place true f g gs n = refl
later_place false f g gs n = refl

pub put_cons : (f g : Frame) (gs : List Frame) → put_frame f (g ∷ gs)
    ≡ (if stands_before g f then g ∷ put_frame f gs else (if stands_before f g then f ∷ g ∷ gs else f ∷ gs))
unfolding put_frame
put_cons f g gs = refl

pub put_nil : (f : Frame) → put_frame f [] ≡ f ∷ []
unfolding put_frame
put_nil f = refl

place_after : (f g : Frame) (gs : List Frame) → stands_before g f ≡ true → place_of f (g ∷ gs) ≡ suc (place_of f gs)
place_after f g gs b = ap (λ (t : Bool). cond t (1 + place_of f gs) 0) b ∙ omega arith

place_first : (f g : Frame) (gs : List Frame) → stands_before g f ≡ false → place_of f (g ∷ gs) ≡ 0
place_first f g gs b = ap (λ (t : Bool). cond t (1 + place_of f gs) 0) b

put_first : (f g : Frame) (gs : List Frame) (t : Bool) → stands_before f g ≡ t → placed_at 0 (not t) f (g ∷ gs) ≡ (if t then f ∷ g ∷ gs else f ∷ gs)
put_first f g gs true b = refl
put_first f g gs false b = refl

put_at_cons : (f g : Frame) (gs : List Frame) (taken before : Bool)
    → ((t : Bool) → is_taken f gs (place_of f gs) ≡ t → placed t f gs ≡ put_frame f gs)
    → stands_before g f ≡ before → is_taken f (g ∷ gs) (place_of f (g ∷ gs)) ≡ taken
    → placed taken f (g ∷ gs) ≡ put_frame f (g ∷ gs)
put_at_cons f g gs taken true others b e =
    let at = place_after f g gs b in
    let later : is_taken f gs (place_of f gs) ≡ taken = ap (is_taken f (g ∷ gs)) (sym at) ∙ e in
    ap (λ n. placed_at n taken f (g ∷ gs)) at ∙ later_place taken f g gs (place_of f gs) ∙ ap (λ fs. g ∷ fs) (others taken later)
    ∙ sym (put_cons f g gs ∙ rw b refl)
put_at_cons f g gs taken false others b e =
    let at = place_first f g gs b in
    let here : not (stands_before f g) ≡ taken = ap (is_taken f (g ∷ gs)) (sym at) ∙ e in
    ap (λ n. placed_at n taken f (g ∷ gs)) at ∙ ap (λ t. placed_at 0 t f (g ∷ gs)) (sym here) ∙ put_first f g gs (stands_before f g) refl
    ∙ sym (put_cons f g gs ∙ rw b refl)

-- a frame is put over the one that has its place, or between two others
pub put_at : (f : Frame) (gs : List Frame) (taken : Bool) → is_taken f gs (place_of f gs) ≡ taken → placed taken f gs ≡ put_frame f gs
put_at f [] true e = cc
put_at f [] false e = sym (put_nil f)
put_at f (g ∷ gs) taken e = put_at_cons f g gs taken (stands_before g f) (put_at f gs) refl e

-- and so by what the code found
pub put_is : (f : Frame) (gs xs ys : List Frame) (at : ℕ) (b taken : Bool) → at ≡ place_of f xs → xs ≡ gs → b ≡ is_taken f ys at → ys ≡ gs → b ≡ taken
    → placed_at at taken f gs ≡ put_frame f gs
put_is f gs xs ys at b taken place same test other is =
    let here : at ≡ place_of f gs = place ∙ ap (place_of f) same in
    let found : is_taken f gs (place_of f gs) ≡ taken = ap (is_taken f gs) (sym here) ∙ ap (λ zs. is_taken f zs at) (sym other) ∙ sym test ∙ is in
    ap (λ n. placed_at n taken f gs) here ∙ put_at f gs taken found
