-- Lists by names, where a place is put under one.
use Rattle.std.proofs.Common.{◌≡◌, ◌≢◌, ℕ, ◌+◌, ◌<◌, ◌≤◌, List, [], ◌∷◌, ◌++◌, Bool, true, false, length, get_or, set, map, refl, ap, sym, ◌∙◌, subst, arith, cond, ◌⊎◌, inl, inr}
use Rattle.std.specs.Prelude.{◌||◌, if◌then◌else◌, not, position, None, Some}
use Rattle.std.specs.Global.{Vec}
use Rattle.std.specs.List.{list_any, position_or_len}
use Rattle.std.specs.Str.{bytes_eq}
use Rattle.std.proofs.lemmas.Bool.{cases_lt, le-ltb, lt-ltb, true≢false}
use Rattle.std.proofs.lemmas.Bool.Decides.{nat_tests}
use Rattle.std.proofs.lemmas.List.{append-nil, get_or-set_same, get_or-set_other, get_or_past, get_or_push, get_or_append_left, get_or-map, length-append, length-map, map-append, map-set}
use Rattle.std.proofs.lemmas.List.Folds.{position_or_len_push}
use Rattle.std.proofs.lemmas.List.Sums.{passes_at_first, prefix_len-le-length}
use Rattle.std.proofs.lemmas.Slice.Eq.{bytes_eq-Decides}
use Rattle.sheet_types.specs.declared.selector_place.SelectorPlace.{SelectorPlace}
use Rattle.sheet_types.specs.Candidates.{place_if}
use Rattle.sheet_types.specs.Index.{held_in, is_named}

abbrev pub lists_of : List (Vec SelectorPlace) → List (List SelectorPlace)
lists_of lists = map (λ list. list.items) lists

-- two names at one place are one name
one_name : (names : List (Vec ℕ)) (name other : List ℕ) → position_or_len (is_named name) names < length names
    → position_or_len (is_named other) names ≡ position_or_len (is_named name) names → other ≡ name
one_name [] name other within same = absurd (omega (arith, within))
one_name (k ∷ ks) name other within same =
    let at = position_or_len (is_named name) (k ∷ ks) in
    let here = (bytes_eq-Decides name (get_or (k ∷ ks) at k).items).0 (passes_at_first (is_named name) (k ∷ ks) k within) in
    let other_within : position_or_len (is_named other) (k ∷ ks) < length (k ∷ ks) = rw same within in
    let there = passes_at_first (is_named other) (k ∷ ks) k other_within in
    let moved = subst (λ n. is_named other (get_or (k ∷ ks) n k) ≡ true) same there in
    (bytes_eq-Decides other (get_or (k ∷ ks) at k).items).0 moved ∙ sym here

some_at : {X : Type 0} (p : X → Bool) (xs : List X) (at : ℕ) → position p xs ≡ Some at → (at ≡ position_or_len p xs) × (position_or_len p xs < length xs)
some_at p xs at found = elim (cases_lt (position_or_len p xs) (length xs)) [
  | inl h ↦ (let is : position p xs ≡ Some (position_or_len p xs) = rw (lt-ltb _ _ h) refl in cc, h)
  | inr h ↦ absurd (let is : position p xs ≡ None = rw (le-ltb _ _ h) refl in cc)
]

none_at : {X : Type 0} (p : X → Bool) (xs : List X) → position p xs ≡ None → length xs ≤ position_or_len p xs
none_at p xs found = elim (cases_lt (position_or_len p xs) (length xs)) [
  | inl h ↦ absurd (let is : position p xs ≡ Some (position_or_len p xs) = rw (lt-ltb _ _ h) refl in cc)
  | inr h ↦ h
]

held_is : (names : List (Vec ℕ)) (lists : List (Vec SelectorPlace)) (name : List ℕ) → held_in names lists name ≡ get_or (lists_of lists) (position_or_len (is_named name) names) []
unfolding held_in
held_is names lists name = refl

-- where the name has a list already
pub put_present : (names : List (Vec ℕ)) (lists : List (Vec SelectorPlace)) (name other : List ℕ) (at : ℕ) (list d : Vec SelectorPlace) (place : SelectorPlace)
    → length names ≡ length lists → position (is_named name) names ≡ Some at → list.items ≡ (get_or lists at d).items ++ place ∷ []
    → held_in names (set lists at list) other ≡ held_in names lists other ++ place_if (bytes_eq other name) place
put_present names lists name other at list d place aligned found put = by (bytes_eq other name) refl
  where
    first : at ≡ position_or_len (is_named name) names
    first = (some_at (is_named name) names at found).0

    within : position_or_len (is_named name) names < length names
    within = (some_at (is_named name) names at found).1

    inside : at < length (lists_of lists)
    inside = omega (arith, first, within, aligned, length-map lists (λ (v : Vec SelectorPlace). v.items))

    old : get_or (lists_of lists) at [] ≡ (get_or lists at d).items
    old = get_or-map (λ (v : Vec SelectorPlace). v.items) lists at d [] (omega (arith, first, within, aligned))

    by : (same : Bool) → bytes_eq other name ≡ same → held_in names (set lists at list) other ≡ held_in names lists other ++ place_if same place
    by true e =
        let is = (bytes_eq-Decides other name).0 e in
        let here : position_or_len (is_named other) names ≡ at = ap (λ n. position_or_len (is_named n) names) is ∙ sym first in
        held_is names (set lists at list) other
        ∙ ap (λ n. get_or (lists_of (set lists at list)) n []) here
        ∙ ap (λ ls. get_or ls at []) (map-set (λ (v : Vec SelectorPlace). v.items) lists at list)
        ∙ get_or-set_same (lists_of lists) at list.items [] inside
        ∙ put
        ∙ ap (λ xs. xs ++ place ∷ []) (sym old ∙ ap (λ n. get_or (lists_of lists) n []) (sym here) ∙ sym (held_is names lists other))
    by false e =
        let apart : position_or_len (is_named other) names ≢ at = λ same. true≢false (sym ((bytes_eq-Decides other name).1 (one_name names name other within (same ∙ first))) ∙ e) in
        held_is names (set lists at list) other
        ∙ ap (λ ls. get_or ls (position_or_len (is_named other) names) []) (map-set (λ (v : Vec SelectorPlace). v.items) lists at list)
        ∙ get_or-set_other (lists_of lists) at (position_or_len (is_named other) names) list.items [] apart
        ∙ sym (held_is names lists other) ∙ sym (append-nil (held_in names lists other))

push_before : {X : Type 0} (p : X → Bool) (xs : List X) (y : X) → position_or_len p xs < length xs → position_or_len p (xs ++ y ∷ []) ≡ position_or_len p xs
push_before p xs y within = position_or_len_push p xs y ∙ grind (arith, nat_tests)

push_here : {X : Type 0} (p : X → Bool) (xs : List X) (y : X) → position_or_len p xs ≡ length xs → p y ≡ true → position_or_len p (xs ++ y ∷ []) ≡ length xs
push_here p xs y past is = position_or_len_push p xs y ∙ rw is (grind (arith, nat_tests))

push_past : {X : Type 0} (p : X → Bool) (xs : List X) (y : X) → position_or_len p xs ≡ length xs → p y ≡ false → position_or_len p (xs ++ y ∷ []) ≡ length xs + 1
push_past p xs y past is = position_or_len_push p xs y ∙ rw is (grind (arith, nat_tests))

-- where it has none yet
pub put_absent : (names : List (Vec ℕ)) (lists : List (Vec SelectorPlace)) (key : Vec ℕ) (name other : List ℕ) (list : Vec SelectorPlace) (place : SelectorPlace)
    → length names ≡ length lists → position (is_named name) names ≡ None → key.items ≡ name → list.items ≡ place ∷ []
    → held_in (names ++ key ∷ []) (lists ++ list ∷ []) other ≡ held_in names lists other ++ place_if (bytes_eq other name) place
put_absent names lists key name other list place aligned absent is_key is_list =
    held_is (names ++ key ∷ []) (lists ++ list ∷ []) other
    ∙ ap (λ ls. get_or ls (position_or_len (is_named other) (names ++ key ∷ [])) []) (map-append (λ (v : Vec SelectorPlace). v.items) lists (list ∷ []))
    ∙ by (cases_lt (position_or_len (is_named other) names) (length names)) (bytes_eq other name) refl
    ∙ ap (λ xs. xs ++ place_if (bytes_eq other name) place) (sym (held_is names lists other))
  where
    all : List (List SelectorPlace)
    all = lists_of lists

    many : length all ≡ length names
    many = length-map lists (λ (v : Vec SelectorPlace). v.items) ∙ sym aligned

    past : length names ≤ position_or_len (is_named name) names
    past = none_at (is_named name) names absent

    full : length names ≤ position_or_len (is_named other) names → position_or_len (is_named other) names ≡ length names
    full h = let most = prefix_len-le-length (λ k. not (is_named other k)) names in omega (arith, h, most)

    by : (position_or_len (is_named other) names < length names) ⊎ (length names ≤ position_or_len (is_named other) names) → (same : Bool) → bytes_eq other name ≡ same
        → get_or (all ++ list.items ∷ []) (position_or_len (is_named other) (names ++ key ∷ [])) [] ≡ get_or all (position_or_len (is_named other) names) [] ++ place_if same place
    by (inl h) true e =
        let is = (bytes_eq-Decides other name).0 e in
        let same : position_or_len (is_named other) names ≡ position_or_len (is_named name) names = ap (λ n. position_or_len (is_named n) names) is in
        absurd (omega (arith, h, same, past))
    by (inl h) false e =
        ap (λ n. get_or (all ++ list.items ∷ []) n []) (push_before (is_named other) names key h)
        ∙ get_or_append_left all (list.items ∷ []) [] (position_or_len (is_named other) names) (omega (arith, h, many))
        ∙ sym (append-nil (get_or all (position_or_len (is_named other) names) []))
    by (inr h) true e =
        let here = full h in
        let is : is_named other key ≡ true = ap (λ n. bytes_eq other n) is_key ∙ e in
        ap (λ n. get_or (all ++ list.items ∷ []) n []) (push_here (is_named other) names key here is)
        ∙ get_or_push all list.items [] (length names) many ∙ is_list
        ∙ ap (λ xs. xs ++ place ∷ []) (sym (get_or_past all (position_or_len (is_named other) names) [] (omega (arith, h, many))))
    by (inr h) false e =
        let here = full h in
        let is : is_named other key ≡ false = ap (λ n. bytes_eq other n) is_key ∙ e in
        ap (λ n. get_or (all ++ list.items ∷ []) n []) (push_past (is_named other) names key here is)
        ∙ get_or_past (all ++ list.items ∷ []) (length names + 1) [] (omega (arith, many, length-append all (list.items ∷ [])))
        ∙ ap (λ xs. xs ++ []) (sym (get_or_past all (position_or_len (is_named other) names) [] (omega (arith, h, many))))

-- no name has a list
pub held_none : (names : List (Vec ℕ)) (lists : List (Vec SelectorPlace)) (name : List ℕ) → lists ≡ [] → held_in names lists name ≡ []
held_none names lists name none = held_is names lists name ∙ ap (λ ls. get_or (lists_of ls) (position_or_len (is_named name) names) []) none

-- a name that stands there has its list
pub held_present : (names : List (Vec ℕ)) (lists : List (Vec SelectorPlace)) (name : List ℕ) (at : ℕ) (d : Vec SelectorPlace) → length names ≡ length lists
    → position (is_named name) names ≡ Some at → held_in names lists name ≡ (get_or lists at d).items
held_present names lists name at d aligned found =
    let there = some_at (is_named name) names at found in
    let inside : at < length lists = omega (arith, there.0, there.1, aligned) in
    held_is names lists name ∙ ap (λ n. get_or (lists_of lists) n []) (sym there.0) ∙ get_or-map (λ (v : Vec SelectorPlace). v.items) lists at d [] inside

-- a name that doesn't has none
pub held_absent : (names : List (Vec ℕ)) (lists : List (Vec SelectorPlace)) (name : List ℕ) → length names ≡ length lists → position (is_named name) names ≡ None → held_in names lists name ≡ []
held_absent names lists name aligned absent =
    let past = none_at (is_named name) names absent in
    held_is names lists name ∙ get_or_past (lists_of lists) (position_or_len (is_named name) names) [] (omega (arith, past, aligned, length-map lists (λ (v : Vec SelectorPlace). v.items)))

none_passes : {X : Type 0} (p : X → Bool) (xs : List X) → length xs ≤ position_or_len p xs → list_any p xs ≡ false
none_passes p [] past = refl
none_passes p (x ∷ xs) past = by (λ rest. none_passes p xs rest) (p x) refl past
  where
    by : (length xs ≤ position_or_len p xs → list_any p xs ≡ false) → (b : Bool) → p x ≡ b → length (x ∷ xs) ≤ cond (not b) (1 + position_or_len p xs) 0 → (p x || list_any p xs) ≡ false
    by others true is long = absurd (omega (arith, long))
    by others false is long = let rest : length xs ≤ position_or_len p xs = omega (arith, long) in rw is (others rest)

-- a key of a name that isn't there goes last
pub added_key : (names : List (Vec ℕ)) (key : Vec ℕ) (name : List ℕ) → key.items ≡ name → position (is_named name) names ≡ None
    → (if list_any (λ k. bytes_eq key.items k.items) names then names else names ++ key ∷ []) ≡ names ++ key ∷ []
added_key names key name is absent =
    let none : list_any (λ k. bytes_eq key.items k.items) names ≡ false = ap (λ n. list_any (is_named n) names) is ∙ none_passes (is_named name) names (none_at (is_named name) names absent) in
    rw none refl
