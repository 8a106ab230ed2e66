-- A selector that matches an element is a candidate under a key that the element has.
use Rattle.std.proofs.Common.{◌≡◌, ℕ, ◌-◌, List, [], ◌∷◌, ◌++◌, true, length, refl, ap, sym, ◌∙◌, arith}
use Rattle.std.specs.Prelude.{Contains, IfSome, slice_get, reverse, All, Option, None, Some}
use Rattle.std.proofs.lemmas.List.{length-append, reverse-append, reverse-reverse}
use Rattle.std.proofs.lemmas.List.Elements.{All-head}
use Rattle.std.proofs.lemmas.Slice.Eq.{bytes_eq-Decides}
use Rattle.doc_tree.specs.Element.{Element}
use Rattle.selectors_mini.specs.Compounds.{CompoundSelector, subject_of}
use Rattle.selectors_mini.specs.Matching.{Fits, Matches, Represents}
use Rattle.selectors_mini.specs.Matching as matching
use Rattle.sheet_types.specs.declared.rule.Rule.{Rule}
use Rattle.sheet_types.specs.declared.selector_place.SelectorPlace.{SelectorPlace}
use Rattle.sheet_types.specs.Candidates.{ById, ByClass, ByType, ForAny, HasKey, SelectorKey, candidates_of, class_key, has_key, id_key, key_of, same_key, selector_at, type_key}
use Rattle.sheet_types.proofs.Keyed.{keyed_is_candidate}

-- ---- what a compound represents has its key

has_type : (tag : Option (List ℕ)) (e : Element) → IfSome tag (λ tag. e.tag ≡ tag) → HasKey e (type_key tag)
has_type None e h = tt
has_type (Some tag) e h = h

has_class : (classes : List (List ℕ)) (tag : Option (List ℕ)) (e : Element) → All (Contains e.classes) classes → IfSome tag (λ tag. e.tag ≡ tag) → HasKey e (class_key classes tag)
has_class [] tag e all h = has_type tag e h
has_class (class ∷ classes) tag e all h = All-head (Contains e.classes) class classes all

has_id : (ids classes : List (List ℕ)) (tag : Option (List ℕ)) (e : Element) → All (λ id. e.id ≡ Some id) ids → All (Contains e.classes) classes
    → IfSome tag (λ tag. e.tag ≡ tag) → HasKey e (id_key ids classes tag)
has_id [] classes tag e ids all h = has_class classes tag e all h
has_id (id ∷ ids) classes tag e all others h = All-head (λ id. e.id ≡ Some id) id ids all

represented_has_key : (c : CompoundSelector) (e : Element) → Represents c e → HasKey e (key_of c)
represented_has_key c e h = has_id c.ids c.classes c.tag e h.has_ids h.has_classes h.of_type

same_as_itself : (key : SelectorKey) → same_key key key ≡ true
same_as_itself (ById id) = (bytes_eq-Decides id id).1 refl
same_as_itself (ByClass class) = (bytes_eq-Decides class class).1 refl
same_as_itself (ByType tag) = (bytes_eq-Decides tag tag).1 refl
same_as_itself ForAny = refl

-- ---- the last compound represents the element

-- the first compound represents the first element
abbrev pub IsRepresented : List CompoundSelector → List Element → Type 0
IsRepresented (c ∷ cs) (e ∷ es) = Represents c e
IsRepresented _ _ = ⊥

first_fits : {cs : List CompoundSelector} {es : List Element} → Fits cs es → IsRepresented cs es
first_fits (matching.first c e above represents) = represents
first_fits (matching.child c before cs e above represents is fit) = represents
first_fits (matching.descendant c before cs e between above represents is fit) = represents

last_of : {X : Type 0} (xs : List X) (x : X) → slice_get (xs ++ x ∷ []) (length xs) ≡ Some x
last_of [] x = refl
last_of (y ∷ ys) x = last_of ys x

subject_is : (s cs : List CompoundSelector) (c : CompoundSelector) → reverse s ≡ c ∷ cs → subject_of s ≡ Some c
subject_is s cs c is =
    let whole : s ≡ reverse cs ++ c ∷ [] = sym (reverse-reverse s) ∙ ap reverse is ∙ reverse-append (c ∷ []) cs in
    let count : length (reverse cs ++ c ∷ []) - 1 ≡ length (reverse cs) = omega (arith, length-append (reverse cs) (c ∷ [])) in
    ap subject_of whole ∙ ap (slice_get (reverse cs ++ c ∷ [])) count ∙ last_of (reverse cs) c

-- a selector whose subject is that compound has its key
has_own_key : (s : List CompoundSelector) (c : CompoundSelector) → subject_of s ≡ Some c → has_key (key_of c) s ≡ true
has_own_key s c is = rw is (same_as_itself (key_of c))

pub matched_is_candidate : (rules : List Rule) (place : SelectorPlace) (s : List CompoundSelector) (e : Element) (above : List Element)
    → selector_at rules place ≡ Some s → Matches s (e ∷ above) → (key : SelectorKey) × HasKey e key × Contains (candidates_of key rules) place
matched_is_candidate rules place s e above stands matches = by (reverse s) refl (first_fits matches)
  where
    by : (cs : List CompoundSelector) → reverse s ≡ cs → IsRepresented cs (e ∷ above) → (key : SelectorKey) × HasKey e key × Contains (candidates_of key rules) place
    by [] is h = absurd h
    by (c ∷ cs) is h = (
      key_of c,
      represented_has_key c e h,
      keyed_is_candidate rules (key_of c) place (record { selector = s; stands = stands; keyed = has_own_key s c (subject_is s cs c is) }),
    )
