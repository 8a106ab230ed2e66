-- Each of some texts once.
use Rattle.std.proofs.Common.{Bor, ◌≡◌, ℕ, ◌+◌, ◌<◌, ◌≤◌, ◌||◌, Bool, true, false, not, cond, List, [], ◌∷◌, ◌++◌, map, filter, length, take, drop, get_or, set, suc, refl, sym, ap, ◌∙◌, subst, inl, inr, arith, length-append, append_assoc, bytes_eq}
use Rattle.std.specs.List.{list_any}
use Rattle.std.proofs.lemmas.Bool.{cases_Bool}
use Rattle.std.proofs.lemmas.List.{append-nil, length-map, length-take, map-append, take-append-drop}
use Rattle.std.proofs.Math.Seq.{take-suc, take-suc-set}
use Rattle.std.proofs.lemmas.List.Elements.{filter-append}
use Rattle.std.proofs.lemmas.Slice.Eq.{bytes_eq-Decides}
use Rattle.doc_tree.specs.Change.{each_once}

-- y is one of the texts
abbrev pub is_one : List ℕ → List (List ℕ) → Bool
is_one y xs = list_any (λ x. bytes_eq x y) xs

-- texts that aren't y stay as those that are x are left out
filter-one : (x y : List ℕ) (xs : List (List ℕ)) → bytes_eq x y ≡ false → is_one y (filter (λ z. not (bytes_eq x z)) xs) ≡ is_one y xs
filter-one x y [] other = refl
filter-one x y (z ∷ xs) other =
    elim (cases_Bool (bytes_eq x z)) [
      | inl same ↦
          (let equal : x ≡ z = (bytes_eq-Decides x z).0 same in
          rw (same, subst (λ (w : List ℕ). bytes_eq w y ≡ false) equal other) (filter-one x y xs other))
      | inr differs ↦ rw differs (ap (λ (b : Bool). bytes_eq z y || b) (filter-one x y xs other))
    ]

-- one more text
pub each_once-last : (xs : List (List ℕ)) (y : List ℕ) → each_once (xs ++ y ∷ []) ≡ each_once xs ++ cond (is_one y (each_once xs)) [] (y ∷ [])
each_once-last [] y = refl
each_once-last (x ∷ xs) y =
    let p = (λ (z : List ℕ). not (bytes_eq x z)) in
    let step : filter p (each_once (xs ++ y ∷ [])) ≡ filter p (each_once xs) ++ filter p (cond (is_one y (each_once xs)) [] (y ∷ [])) =
    ap (filter p) (each_once-last xs y) ∙ filter-append p (each_once xs) (cond (is_one y (each_once xs)) [] (y ∷ [])) in
    elim (cases_Bool (bytes_eq x y)) [
      | inl same ↦
          (let gone : filter p (cond (is_one y (each_once xs)) [] (y ∷ [])) ≡ [] = dropped x y (is_one y (each_once xs)) same in
          rw same (ap (λ (zs : List (List ℕ)). x ∷ zs) (step ∙ ap (λ (zs : List (List ℕ)). filter p (each_once xs) ++ zs) gone)))
      | inr differs ↦
          (let stays : filter p (cond (is_one y (each_once xs)) [] (y ∷ [])) ≡ cond (is_one y (each_once xs)) [] (y ∷ []) = kept x y (is_one y (each_once xs)) differs in
          rw (differs, filter-one x y (each_once xs) differs) (ap (λ (zs : List (List ℕ)). x ∷ zs) (step ∙ ap (λ (zs : List (List ℕ)). filter p (each_once xs) ++ zs) stays)))
    ]
  where
    dropped : (x y : List ℕ) (b : Bool) → bytes_eq x y ≡ true → filter (λ z. not (bytes_eq x z)) (cond b [] (y ∷ [])) ≡ []
    dropped x y true same = refl
    dropped x y false same = rw same refl

    kept : (x y : List ℕ) (b : Bool) → bytes_eq x y ≡ false → filter (λ z. not (bytes_eq x z)) (cond b [] (y ∷ [])) ≡ cond b [] (y ∷ [])
    kept x y true differs = refl
    kept x y false differs = rw differs refl

-- more texts are no fewer
pub each_once-longer : (xs ys : List (List ℕ)) → length (each_once xs) ≤ length (each_once (xs ++ ys))
each_once-longer xs [] = omega (arith, ap (λ (zs : List (List ℕ)). length (each_once zs)) (append-nil xs))
each_once-longer xs (y ∷ ys) =
    let next = each_once-longer (xs ++ y ∷ []) ys in
    let step = ap length (each_once-last xs y) ∙ length-append (each_once xs) (cond (is_one y (each_once xs)) [] (y ∷ [])) in
    omega (arith, next, step, ap (λ (zs : List (List ℕ)). length (each_once zs)) (append_assoc xs (y ∷ []) ys))

-- the bytes of texts
abbrev pub texts : List (Bor (List ℕ)) → List (List ℕ)
texts names = map (λ (t : Bor (List ℕ)). t.now) names

texts-next : (names : List (Bor (List ℕ))) (i : ℕ) (d : Bor (List ℕ)) → i < length names → texts (take (i + 1) names) ≡ texts (take i names) ++ (get_or names i d).now ∷ []
texts-next names i d h =
    let one : i + 1 ≡ suc i = omega arith in
    ap (λ (n : ℕ). texts (take n names)) one ∙ (ap texts (take-suc names i d h) ∙ map-append (λ (t : Bor (List ℕ)). t.now) (take i names) (get_or names i d ∷ []))

once-next : (names : List (Bor (List ℕ))) (i : ℕ) (d : Bor (List ℕ)) (kept : List (List ℕ)) (b : Bool) → i < length names → kept ≡ each_once (texts (take i names)) → b ≡ is_one (get_or names i d).now kept
    → each_once (texts (take (i + 1) names)) ≡ kept ++ cond b [] ((get_or names i d).now ∷ [])
once-next names i d kept b h told test =
    let v = (get_or names i d).now in
    ap each_once (texts-next names i d h) ∙ (each_once-last (texts (take i names)) v ∙ (ap (λ (zs : List (List ℕ)). zs ++ cond (is_one v zs) [] (v ∷ [])) (sym told) ∙ ap (λ (c : Bool). kept ++ cond c [] (v ∷ [])) (sym test)))

pub name-put : (names kept : List (Bor (List ℕ))) (i n : ℕ) (d : Bor (List ℕ)) → i < length names → n < length kept → texts (take n kept) ≡ each_once (texts (take i names)) → false ≡ is_one (get_or names i d).now (texts (take n kept))
    → texts (take (n + 1) (set kept n (get_or names i d))) ≡ each_once (texts (take (i + 1) names))
name-put names kept i n d h room told new =
    let one : n + 1 ≡ suc n = omega arith in
    let v = get_or names i d in
    let left : texts (take (n + 1) (set kept n v)) ≡ texts (take n kept) ++ v.now ∷ [] =
    ap (λ (m : ℕ). texts (take m (set kept n v))) one ∙ (ap texts (take-suc-set kept n v room) ∙ map-append (λ (t : Bor (List ℕ)). t.now) (take n kept) (v ∷ [])) in
    left ∙ sym (once-next names i d (texts (take n kept)) false h told new)

pub name-known : (names kept : List (Bor (List ℕ))) (i n : ℕ) (d : Bor (List ℕ)) → i < length names → texts (take n kept) ≡ each_once (texts (take i names)) → true ≡ is_one (get_or names i d).now (texts (take n kept))
    → texts (take n kept) ≡ each_once (texts (take (i + 1) names))
name-known names kept i n d h told known = sym (once-next names i d (texts (take n kept)) true h told known ∙ append-nil (texts (take n kept)))

pub name-many : (names kept : List (Bor (List ℕ))) (i n : ℕ) (d : Bor (List ℕ)) → i < length names → n ≤ length kept → length kept ≤ n → texts (take n kept) ≡ each_once (texts (take i names)) → false ≡ is_one (get_or names i d).now (texts (take n kept))
    → length kept < length (each_once (texts names))
name-many names kept i n d h low full told new =
    let whole : texts (take (i + 1) names) ++ texts (drop (i + 1) names) ≡ texts names =
    sym (map-append (λ (t : Bor (List ℕ)). t.now) (take (i + 1) names) (drop (i + 1) names)) ∙ ap texts (take-append-drop (i + 1) names) in
    let longer = each_once-longer (texts (take (i + 1) names)) (texts (drop (i + 1) names)) in
    let count = ap length (once-next names i d (texts (take n kept)) false h told new) ∙ length-append (texts (take n kept)) ((get_or names i d).now ∷ []) in
    let first : length (texts (take n kept)) ≡ length (take n kept) = length-map (take n kept) (λ (t : Bor (List ℕ)). t.now) in
    omega (arith, longer, count, first, length-take n kept, ap (λ (zs : List (List ℕ)). length (each_once zs)) whole)

-- what was kept is no more than there was room for
pub names-few : (kept : List (Bor (List ℕ))) (n most : ℕ) (once : List (List ℕ)) → length kept ≡ most → texts (take n kept) ≡ once → length once ≤ most
names-few kept n most once room is =
    omega (arith, ap length is, length-map (take n kept) (λ (t : Bor (List ℕ)). t.now), length-take n kept)
