-- Groups, step by step.
use Rattle.std.proofs.Common.{◌≡◌, ℕ, ◌+◌, ◌-◌, ◌<◌, ◌≤◌, refl, arith, ap, subst, sym, ◌∙◌, List, ◌∷◌, [], ◌++◌, length, get_or, drop, take, map, Bool, true, false, append_assoc, append-nil, length-drop}
use Rattle.std.specs.Prelude.{slice_range}
use Rattle.std.proofs.lemmas.List.{drop_more, get_or-drop, map-append, take_more}
use Rattle.token_parts.specs.Parts.{TokenPart}
use Rattle.list_text.specs.ItemReading.{groups_of, is_inside, onto_first_group, parts_items}

pub onto_first-nil : {A : Type 0} (xss : List (List A)) → onto_first_group [] xss ≡ xss
onto_first-nil [] = refl
onto_first-nil (xs ∷ xss) = refl

pub onto_first-append : {A : Type 0} (xs ys : List A) (xss : List (List A)) → onto_first_group xs (onto_first_group ys xss) ≡ onto_first_group (xs ++ ys) xss
onto_first-append xs ys [] = refl
onto_first-append xs ys (zs ∷ xss) = ap (λ l. l ∷ xss) (sym (append_assoc xs ys zs))

at_comma : (done whole : List (List TokenPart)) (front : List TokenPart) (inside : Bool) (p : TokenPart) (rest : List TokenPart) → parts_items inside p ≡ true
    → done ++ onto_first_group front (groups_of inside (p ∷ rest)) ≡ whole → (done ++ front ∷ []) ++ onto_first_group [] (groups_of false rest) ≡ whole
at_comma done whole front inside p rest e h =
    let cut : groups_of inside (p ∷ rest) ≡ [] ∷ groups_of false rest = rw e refl in
    let told : done ++ (front ++ []) ∷ groups_of false rest ≡ whole = subst (λ gs. done ++ onto_first_group front gs ≡ whole) cut h in
    let tidy : done ++ front ∷ groups_of false rest ≡ whole = subst (λ f. done ++ f ∷ groups_of false rest ≡ whole) (append-nil front) told in
    rw (onto_first-nil (groups_of false rest)) (append_assoc done (front ∷ []) (groups_of false rest) ∙ tidy)

at_other : (done whole : List (List TokenPart)) (front : List TokenPart) (inside : Bool) (p : TokenPart) (rest : List TokenPart) → parts_items inside p ≡ false
    → done ++ onto_first_group front (groups_of inside (p ∷ rest)) ≡ whole → done ++ onto_first_group (front ++ p ∷ []) (groups_of (is_inside inside p) rest) ≡ whole
at_other done whole front inside p rest e h =
    let grown : groups_of inside (p ∷ rest) ≡ onto_first_group (p ∷ []) (groups_of (is_inside inside p) rest) = rw e refl in
    let told : done ++ onto_first_group front (onto_first_group (p ∷ []) (groups_of (is_inside inside p) rest)) ≡ whole = subst (λ gs. done ++ onto_first_group front gs ≡ whole) grown h in
    subst (λ gs. done ++ gs ≡ whole) (onto_first-append front (p ∷ []) (groups_of (is_inside inside p) rest)) told

pub rest_is : {A : Type 0} (f : A → TokenPart) (ps : List A) (i : ℕ) (d : A) → i < length ps → map f (drop i ps) ≡ f (get_or ps i d) ∷ map f (drop (i + 1) ps)
rest_is f ps i d h = ap (map f) (drop_more ps i d h)

pub slice_more : {A : Type 0} (ps : List A) (from i : ℕ) (d : A) → from ≤ i → i < length ps → slice_range ps from (i + 1) ≡ slice_range ps from i ++ get_or ps i d ∷ []
slice_more ps from i d low h =
    let size = length-drop from ps in
    let next : i + 1 - from ≡ i - from + 1 = omega arith in
    let there : from + (i - from) ≡ i = omega arith in
    let inside : i - from < length (drop from ps) = omega (arith, size) in
    ap (λ n. take n (drop from ps)) next ∙ take_more (drop from ps) (i - from) d inside
    ∙ ap (λ x. take (i - from) (drop from ps) ++ x ∷ []) (get_or-drop from ps (i - from) d ∙ ap (λ n. get_or ps n d) there)

pub comma_step : {A : Type 0} (f : A → TokenPart) (done whole : List (List TokenPart)) (ps : List A) (from i : ℕ) (inside : Bool) (d : A) → i < length ps
    → parts_items inside (f (get_or ps i d)) ≡ true
    → done ++ onto_first_group (map f (slice_range ps from i)) (groups_of inside (map f (drop i ps))) ≡ whole
    → (done ++ map f (slice_range ps from i) ∷ []) ++ onto_first_group (map f (slice_range ps (i + 1) (i + 1))) (groups_of false (map f (drop (i + 1) ps))) ≡ whole
comma_step f done whole ps from i inside d h comma before =
    let none : i + 1 - (i + 1) ≡ 0 = omega arith in
    let told : done ++ onto_first_group (map f (slice_range ps from i)) (groups_of inside (f (get_or ps i d) ∷ map f (drop (i + 1) ps))) ≡ whole =
    subst (λ l. done ++ onto_first_group (map f (slice_range ps from i)) (groups_of inside l) ≡ whole) (rest_is f ps i d h) before in
    let after : (done ++ map f (slice_range ps from i) ∷ []) ++ onto_first_group [] (groups_of false (map f (drop (i + 1) ps))) ≡ whole =
    at_comma done whole (map f (slice_range ps from i)) inside (f (get_or ps i d)) (map f (drop (i + 1) ps)) comma told in
    subst (λ n. (done ++ map f (slice_range ps from i) ∷ []) ++ onto_first_group (map f (take n (drop (i + 1) ps))) (groups_of false (map f (drop (i + 1) ps))) ≡ whole) (sym none) after

pub other_step : {A : Type 0} (f : A → TokenPart) (done whole : List (List TokenPart)) (ps : List A) (from i : ℕ) (inside : Bool) (d : A) → from ≤ i → i < length ps
    → parts_items inside (f (get_or ps i d)) ≡ false
    → done ++ onto_first_group (map f (slice_range ps from i)) (groups_of inside (map f (drop i ps))) ≡ whole
    → done ++ onto_first_group (map f (slice_range ps from (i + 1))) (groups_of (is_inside inside (f (get_or ps i d))) (map f (drop (i + 1) ps))) ≡ whole
other_step f done whole ps from i inside d low h other before =
    let told : done ++ onto_first_group (map f (slice_range ps from i)) (groups_of inside (f (get_or ps i d) ∷ map f (drop (i + 1) ps))) ≡ whole =
    subst (λ l. done ++ onto_first_group (map f (slice_range ps from i)) (groups_of inside l) ≡ whole) (rest_is f ps i d h) before in
    let more : map f (slice_range ps from (i + 1)) ≡ map f (slice_range ps from i) ++ f (get_or ps i d) ∷ [] =
    ap (map f) (slice_more ps from i d low h) ∙ map-append f (slice_range ps from i) (get_or ps i d ∷ []) in
    rw more (at_other done whole (map f (slice_range ps from i)) inside (f (get_or ps i d)) (map f (drop (i + 1) ps)) other told)
