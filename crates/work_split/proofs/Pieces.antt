-- Lists, piece by piece.
use Rattle.std.proofs.Common.{◌≡◌, ℕ, zero, suc, ◌+◌, ◌-◌, ◌*◌, ◌<◌, ◌≤◌, min, refl, ap, sym, subst, arith, List, ◌∷◌, [], ◌++◌, length, map, take, get_or, All, Ok, Err}
use Rattle.std.specs.Prelude.{IfOk, MatchResult}
use Rattle.std.specs.List.{AllZip, flat_map}
use Rattle.std.specs.declared.result.Result.{Result}
use Rattle.std.proofs.lemmas.List.{take_more}
use Rattle.std.proofs.lemmas.List.Elements.{All-cons, All-nil}
use Rattle.std.proofs.lemmas.Slice.Zip.{all_zipped_more}
use Rattle.std.proofs.Math.Nat.{lt_of_mul-lt-mul_left, suc-mul}
use Rattle.rayon.proofs.ListFacts.{All-parts, AllZip-append}

pub nothing_left : {X : Type 0} (l : List X) → length l ≡ 0 → l ≡ []
nothing_left [] h = refl
nothing_left (x ∷ xs) h = absurd (omega (arith, h))

-- one more of a list with what belongs to it
pub zipped_more : {X Y : Type 0} (R : X → Y → Type 0) (xs : List X) (ys : List Y) (i : ℕ) (d : X) (y : Y) → i < length xs → AllZip R (take i xs) ys → R (get_or xs i d) y
    → AllZip R (take (i + 1) xs) (ys ++ y ∷ [])
zipped_more R xs ys i d y within so_far here =
    subst (λ l. AllZip R l (ys ++ y ∷ [])) (sym (take_more xs i d within)) (all_zipped_more R (take i xs) ys (get_or xs i d) y so_far here)

-- what all of the pieces together have, each piece has
pub each_piece : {X Z : Type 0} (P : X → Type 0) (f : Z → List X) (zs : List Z) → All P (flat_map f zs) → All (λ z. All P (f z)) zs
each_piece P f [] all = All-nil (λ z. All P (f z))
each_piece P f (z ∷ zs) all =
    let parts = All-parts P (f z) (flat_map f zs) all in
    All-cons (λ z. All P (f z)) z zs parts.0 (each_piece P f zs parts.1)

-- what belongs to each piece belongs to all of them together, where there is something for each
pub pieces_zipped : {X Y Z V E : Type 0} (R : X → Y → Type 0) (f : Z → List X) (g : V → List Y) (zs : List Z) (rs : List (Result V E)) (vs : List V)
    → AllZip (λ z r. IfOk r (λ v. AllZip R (f z) (g v))) zs rs → rs ≡ map Ok vs → AllZip R (flat_map f zs) (flat_map g vs)
pieces_zipped R f g [] [] [] zipped is = tt
pieces_zipped R f g [] [] (v ∷ vs) zipped is = absurd (cc)
pieces_zipped R f g [] (r ∷ rs) vs zipped is = absurd zipped
pieces_zipped R f g (z ∷ zs) [] vs zipped is = absurd zipped
pieces_zipped R f g (z ∷ zs) (r ∷ rs) [] zipped is = absurd (cc)
pieces_zipped R f g (z ∷ zs) (r ∷ rs) (v ∷ vs) zipped is =
    let heads : r ≡ Ok v = cc in
    let rest : rs ≡ map Ok vs = cc in
    AllZip-append R (f z) (flat_map f zs) (g v) (flat_map g vs) (subst (λ q. IfOk q (λ w. AllZip R (f z) (g w))) heads zipped.0)
    (pieces_zipped R f g zs rs vs zipped.1 rest)

-- a relation of what pieces show
pub flat_map-map : {X Y Z : Type 0} (f : Y → List Z) (g : X → Y) (xs : List X) → flat_map f (map g xs) ≡ flat_map (λ x. f (g x)) xs
flat_map-map f g [] = refl
flat_map-map f g (x ∷ xs) = ap (λ l. f (g x) ++ l) (flat_map-map f g xs)

-- what follows from the value of an `Ok`
pub match_ok : {T E : Type 0} (r : Result T E) (P Q : T → Type 0) (F : E → Type 0) → MatchResult r P F → ((v : T) → P v → Q v) → IfOk r Q
match_ok (Ok v) P Q F h f = f v h
match_ok (Err e) P Q F h f = tt

-- ---- cutting

pub record CutMore (n size most k r : ℕ) : Type 0 where
  pub some : 0 < min size r
  pub most_is : k + 1 ≤ most
  pub left : r - min size r ≡ n - (k + 1) * size

pub cut_more : (n size most k r : ℕ) → n ≤ size * most → 0 < r → r ≡ n - k * size → CutMore n size most k r
cut_more n size most k r enough some left =
    let next : (k + 1) * size ≡ k * size + size = omega (arith, suc-mul k size) in
    let less : size * k < size * most = omega (arith, enough, some, left) in
    let k_is : k < most = lt_of_mul-lt-mul_left size less in
    record {
      some = positive size enough;
      most_is = omega (arith, k_is);
      left = omega (arith, next, left);
    }
  where
    positive : (s : ℕ) → n ≤ s * most → 0 < min s r
    positive zero e = absurd (omega (arith, e, some, left))
    positive (suc s) e = omega (arith, some)
