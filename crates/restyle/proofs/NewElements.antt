-- A document with one element more is that of the function.
use Rattle.std.proofs.Common.{◌≡◌, ℕ, ◌+◌, ◌-◌, refl, ap, sym, ◌∙◌, arith, eqb, Bool, true, false, not, Option, Some, None, List, [], ◌∷◌, ◌++◌, length, length-append, take, drop, reverse}
use Rattle.std.specs.Prelude.{unwrap_or}
use Rattle.std.specs.List.{find, list_any, position, prefix_len, suffix_len}
use Rattle.std.specs.Option.{option_map_or}
use Rattle.std.proofs.Math.Seq.{drop-append_seam, take-append_seam}
use Rattle.std.proofs.lemmas.Bool.{eq-eqb, or_parts}
use Rattle.std.proofs.lemmas.List.{length-reverse, reverse-append}
use Rattle.std.proofs.lemmas.List.Folds.{list_any-append}
use Rattle.doc_tree.specs.Change.{IsAdded, IsInserted, IsLastPlace, new_element}
use Rattle.doc_tree.specs.Element.{Document, Element, is_in, is_inclusive_descendant, parent_of, position_of}
use Rattle.doc_tree.specs.Shape.{IsTree}
use Rattle.restyle.specs.Documents.{last_place, with_element, with_last_child, with_previous_sibling}
use Rattle.restyle.proofs.Numbers.{away_before}
use Rattle.restyle.proofs.ProperPlans.{position-split}

-- ---- lists

list_any_reverse : {X : Type 0} (p : X → Bool) (xs : List X) → list_any p xs ≡ false → list_any p (reverse xs) ≡ false
list_any_reverse p [] none = refl
list_any_reverse p (x ∷ xs) none =
    let parts = or_parts (p x) (list_any p xs) none in
    ap (list_any p) (reverse-append (x ∷ []) xs) ∙ list_any-append p (reverse xs) (x ∷ []) ∙ rw (list_any_reverse p xs parts.1, parts.0) refl

prefix-split : {X : Type 0} (p : X → Bool) (front : List X) (item : X) (back : List X) → list_any p front ≡ false → p item ≡ true
    → prefix_len (λ x. not (p x)) (front ++ item ∷ back) ≡ length front
prefix-split p [] item back none passes = rw passes refl
prefix-split p (x ∷ front) item back none passes =
    let parts = or_parts (p x) (list_any p front) none in
    rw (parts.0, prefix-split p front item back parts.1 passes) (omega arith)

suffix-split : {X : Type 0} (p : X → Bool) (front : List X) (last : X) (back : List X) → p last ≡ true → list_any p back ≡ false
    → suffix_len (λ x. not (p x)) ((front ++ last ∷ []) ++ back) ≡ length back
suffix-split p front last back passes none =
    ap (prefix_len (λ x. not (p x))) (reverse-append (front ++ last ∷ []) back ∙ ap (λ xs. reverse back ++ xs) (reverse-append front (last ∷ [])))
    ∙ prefix-split p (reverse back) last (reverse front) (list_any_reverse p back none) passes ∙ length-reverse back

same_document : (d : Document) (elements : List Element) (used : List ℕ) → d.elements ≡ elements → d.used ≡ used → d ≡ record { elements = elements; used = used }
same_document d elements used p q = ap (λ es. record { elements = es; used = d.used }) p ∙ ap (λ us. record { elements = elements; used = us }) q

put_between : (d d' : Document) (before after : List Element) (e : Element) (place : ℕ) → d.elements ≡ before ++ after → place ≡ length before
    → d'.elements ≡ before ++ e ∷ after → d'.used ≡ d.used ++ e.number ∷ [] → d' ≡ with_element d place e
put_between d d' before after e place was at is used =
    let front : take place d.elements ≡ before = ap (λ k. take k d.elements) at ∙ ap (take (length before)) was ∙ take-append_seam before after in
    let back : drop place d.elements ≡ after = ap (λ k. drop k d.elements) at ∙ ap (drop (length before)) was ∙ drop-append_seam before after in
    same_document d' (take place d.elements ++ e ∷ drop place d.elements) (d.used ++ e.number ∷ [])
    (is ∙ ap (λ xs. xs ++ e ∷ after) (sym front) ∙ ap (λ xs. take place d.elements ++ e ∷ xs) (sym back)) used

-- ---- a last child

less_back : (a b c : ℕ) → c ≡ a + b → c - b ≡ a
less_back a b c is = omega (arith, is)

place_at : (d : Document) (parent : Option ℕ) (before after : List Element) → d.elements ≡ before ++ after → IsLastPlace parent before after → last_place d parent ≡ length before
place_at d None before after was place = ap length (sym place.0)
place_at d (Some p) before after was place =
    let within : list_any (λ (e : Element). is_inclusive_descendant (before ++ after) p e.number) after ≡ false = place.none_after in
    let parts : before ++ after ≡ (place.front ++ place.last ∷ []) ++ after = ap (λ xs. xs ++ after) place.is_last in
    let count : suffix_len (λ (e : Element). not (is_inclusive_descendant (before ++ after) p e.number)) (before ++ after) ≡ length after =
    ap (suffix_len (λ (e : Element). not (is_inclusive_descendant (before ++ after) p e.number))) parts
    ∙ suffix-split (λ (e : Element). is_inclusive_descendant (before ++ after) p e.number) place.front place.last after place.within within in
    let there : suffix_len (λ (e : Element). not (is_inclusive_descendant d.elements p e.number)) d.elements ≡ length after =
    ap (λ (es : List Element). suffix_len (λ (e : Element). not (is_inclusive_descendant es p e.number)) es) was ∙ count in
    ap (λ k. length d.elements - k) there ∙ less_back (length before) (length after) (length d.elements) (ap length was ∙ length-append before after)

pub added_is : (d d' : Document) (n : ℕ) (parent : Option ℕ) (tag : List ℕ) → IsAdded d d' (new_element n parent tag) → d' ≡ with_last_child d n parent tag
added_is d d' n parent tag added =
    put_between d d' added.before added.after (new_element n parent tag) (last_place d parent) added.was (place_at d parent added.before added.after added.was added.place) added.is added.used

-- ---- a previous sibling

found : (p : Element → Bool) (before after : List Element) (e : Element) → list_any p before ≡ false → p e ≡ true → find p (before ++ e ∷ after) ≡ Some e
found p [] after e none passes = rw passes refl
found p (b ∷ before) after e none passes =
    let parts = or_parts (p b) (list_any p before) none in
    rw parts.0 (found p before after e parts.1 passes)

pub inserted_is : (d d' : Document) (n sibling : ℕ) (tag : List ℕ) → IsTree d → IsInserted d d' n sibling tag → d' ≡ with_previous_sibling d n sibling tag
inserted_is d d' n sibling tag tree inserted =
    let away = away_before d inserted.before inserted.after inserted.next tree inserted.was in
    let test : list_any (λ (e : Element). eqb e.number sibling) inserted.before ≡ false = ap (λ k. is_in k inserted.before) (sym inserted.number) ∙ away in
    let passes : eqb inserted.next.number sibling ≡ true = eq-eqb inserted.next.number sibling inserted.number in
    let parent : parent_of sibling d.elements ≡ inserted.next.parent =
    ap (λ es. parent_of sibling es) inserted.was ∙ ap (λ o. option_map_or (λ (e : Element). e.parent) o None) (found (λ e. eqb e.number sibling) inserted.before inserted.after inserted.next test passes) in
    let place : unwrap_or (position_of sibling d) 0 ≡ length inserted.before =
    ap (λ es. unwrap_or (position (λ (e : Element). eqb e.number sibling) es) 0) inserted.was
    ∙ ap (λ o. unwrap_or o 0) (position-split (λ (e : Element). eqb e.number sibling) inserted.before inserted.next inserted.after test passes) in
    put_between d d' inserted.before (inserted.next ∷ inserted.after) (new_element n inserted.next.parent tag) (unwrap_or (position_of sibling d) 0) inserted.was place inserted.is inserted.used
    ∙ ap (λ o. with_element d (unwrap_or (position_of sibling d) 0) (new_element n o tag)) (sym parent)
