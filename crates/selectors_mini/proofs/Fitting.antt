-- The test of matching says what matching is.
use Rattle.std.proofs.Common.{◌≡◌, ℕ, refl, ap, subst, sym, ◌∙◌, List, ◌∷◌, [], ◌++◌, get_or, Bool, true, false, ◌&&◌, ◌||◌, Option, Some, None, ◌⊎◌, inl, inr}
use Rattle.std.specs.Prelude.{All, Contains, IfSome, reverse}
use Rattle.std.specs.Option.{option_map_or}
use Rattle.std.specs.List.{list_all, list_any}
use Rattle.std.specs.Str.{bytes_eq}
use Rattle.std.proofs.lemmas.List.Elements.{All-nil, All-cons, All-head, All-tail}
use Rattle.std.proofs.lemmas.List.Folds.{Any-from_list_any, list_any-from_Any}
use Rattle.std.proofs.lemmas.Slice.Eq.{bytes_eq-Decides}
use Rattle.doc_tree.specs.Element.{Element}
use Rattle.selectors_mini.specs.Compounds.{CompoundSelector}
use Rattle.selectors_mini.specs.Matching.{Fits, Matches, Represents, any_rest, fits, has_class, has_id, matches_of, represents, stands}
use Rattle.selectors_mini.specs.Matching as matching
use Rattle.selectors_mini.specs.declared.combinator.Combinator.{Combinator}
use Rattle.selectors_mini.specs.declared.combinator.Combinator.TheVariants.{Child, Descendant}

-- ---- tests

both_true : (a b : Bool) → (a && b) ≡ true → (a ≡ true) × (b ≡ true)
both_true true b is = (refl, is)
both_true false b is = absurd (cc)

either_true : (a b : Bool) → (a || b) ≡ true → (a ≡ true) ⊎ (b ≡ true)
either_true true b is = inl refl
either_true false b is = inr is

all_from_test : {X : Type 0} (P : X → Type 0) (test : X → Bool) → ((x : X) → test x ≡ true → P x) → (xs : List X) → list_all test xs ≡ true → All P xs
all_from_test P test says [] is = All-nil P
all_from_test P test says (x ∷ xs) is =
    let parts = both_true (test x) (list_all test xs) is in
    All-cons P x xs (says x parts.0) (all_from_test P test says xs parts.1)

test_from_all : {X : Type 0} (P : X → Type 0) (test : X → Bool) → ((x : X) → P x → test x ≡ true) → (xs : List X) → All P xs → list_all test xs ≡ true
test_from_all P test says [] all = refl
test_from_all P test says (x ∷ xs) all = rw (says x (All-head P x xs all), test_from_all P test says xs (All-tail P x xs all)) refl

-- ---- a compound

tag_is : (tag : Option (List ℕ)) (own : List ℕ) → option_map_or (λ tag. bytes_eq own tag) tag true ≡ true → IfSome tag (λ tag. own ≡ tag)
tag_is None own is = tt
tag_is (Some tag) own is = (bytes_eq-Decides own tag).0 is

is_tag : (tag : Option (List ℕ)) (own : List ℕ) → IfSome tag (λ tag. own ≡ tag) → option_map_or (λ tag. bytes_eq own tag) tag true ≡ true
is_tag None own is = refl
is_tag (Some tag) own is = (bytes_eq-Decides own tag).1 is

id_is : (own : Option (List ℕ)) (id : List ℕ) → option_map_or (λ own. bytes_eq own id) own false ≡ true → own ≡ Some id
id_is None id is = absurd (cc)
id_is (Some own) id is = ap Some ((bytes_eq-Decides own id).0 is)

is_id : (own : Option (List ℕ)) (id : List ℕ) → own ≡ Some id → option_map_or (λ own. bytes_eq own id) own false ≡ true
is_id own id is = ap (λ o. option_map_or (λ own. bytes_eq own id) o false) is ∙ (bytes_eq-Decides id id).1 refl

class_is : (own : List (List ℕ)) (class : List ℕ) → list_any (λ own. bytes_eq own class) own ≡ true → Contains own class
class_is own class is =
    let found = Any-from_list_any (λ own. bytes_eq own class) own is in
    let same : found.1 ≡ class = (bytes_eq-Decides found.1 class).0 found.4 in
    (found.0, found.2, subst (λ x. get_or own found.0 x ≡ x) same found.3)

is_class : (own : List (List ℕ)) (class : List ℕ) → Contains own class → list_any (λ own. bytes_eq own class) own ≡ true
is_class own class there = list_any-from_Any (λ own. bytes_eq own class) own (there.0, class, there.1, there.2, (bytes_eq-Decides class class).1 refl)

pub represents_is : (c : CompoundSelector) (e : Element) → represents c e ≡ true → Represents c e
represents_is c e is =
    let parts = both_true (option_map_or (λ tag. bytes_eq e.tag tag) c.tag true) (list_all (has_id e) c.ids && list_all (has_class e) c.classes) is in
    let lists = both_true (list_all (has_id e) c.ids) (list_all (has_class e) c.classes) parts.1 in
    record {
      of_type = tag_is c.tag e.tag parts.0;
      has_ids = all_from_test (λ id. e.id ≡ Some id) (has_id e) (id_is e.id) c.ids lists.0;
      has_classes = all_from_test (Contains e.classes) (has_class e) (class_is e.classes) c.classes lists.1;
    }

pub is_represented : (c : CompoundSelector) (e : Element) → Represents c e → represents c e ≡ true
is_represented c e is =
    rw (
      is_tag c.tag e.tag is.of_type,
      test_from_all (λ id. e.id ≡ Some id) (has_id e) (is_id e.id) c.ids is.has_ids,
      test_from_all (Contains e.classes) (has_class e) (is_class e.classes) c.classes is.has_classes,
    ) refl

-- ---- compounds

-- somewhere up the chain
record Above (test : List Element → Bool) (es : List Element) : Type 0 where
  pub between : List Element
  pub above : List Element
  pub es_are : between ++ above ≡ es
  pub holds : test above ≡ true

above_more : (test : List Element → Bool) (e : Element) (es : List Element) → (any_rest test es ≡ true → Above test es)
    → (test (e ∷ es) ≡ true) ⊎ (any_rest test es ≡ true) → Above test (e ∷ es)
above_more test e es above (inl here) = record { between = []; above = e ∷ es; es_are = refl; holds = here }
above_more test e es above (inr later) =
    let rest = above later in
    record { between = e ∷ rest.between; above = rest.above; es_are = ap (λ l. e ∷ l) rest.es_are; holds = rest.holds }

above_from_rest : (test : List Element → Bool) (es : List Element) → any_rest test es ≡ true → Above test es
above_from_rest test [] is = record { between = []; above = []; es_are = refl; holds = is }
above_from_rest test (e ∷ es) is = above_more test e es (above_from_rest test es) (either_true (test (e ∷ es)) (any_rest test es) is)

rest_from_above : (test : List Element → Bool) (between above : List Element) → test above ≡ true → any_rest test (between ++ above) ≡ true
rest_from_above test [] [] is = is
rest_from_above test [] (e ∷ above) is = rw is refl
rest_from_above test (e ∷ between) above is = ap (λ b. test (e ∷ (between ++ above)) || b) (rest_from_above test between above is) ∙ or_true (test (e ∷ (between ++ above)))
  where
    or_true : (b : Bool) → (b || true) ≡ true
    or_true true = refl
    or_true false = refl

by_combinator : (c before : CompoundSelector) (cs : List CompoundSelector) (e : Element) (above : List Element) (k : Option Combinator)
    → ((es : List Element) → fits (before ∷ cs) es ≡ true → Fits (before ∷ cs) es) → Represents c e → before.next ≡ k
    → stands k (fits (before ∷ cs)) above ≡ true → Fits (c ∷ before ∷ cs) (e ∷ above)
by_combinator c before cs e above None rest is next stand = absurd (cc)
by_combinator c before cs e above (Some Child) rest is next stand = matching.child c before cs e above is next (rest above stand)
by_combinator c before cs e above (Some Descendant) rest is next stand =
    let there = above_from_rest (fits (before ∷ cs)) above stand in
    subst (λ l. Fits (c ∷ before ∷ cs) (e ∷ l)) there.es_are
    (matching.descendant c before cs e there.between there.above is next (rest there.above there.holds))

pub fits_is : (cs : List CompoundSelector) (es : List Element) → fits cs es ≡ true → Fits cs es
fits_is [] es is = absurd (cc)
fits_is (c ∷ []) [] is = absurd (cc)
fits_is (c ∷ before ∷ cs) [] is = absurd (cc)
fits_is (c ∷ []) (e ∷ above) is = matching.first c e above (represents_is c e is)
fits_is (c ∷ before ∷ cs) (e ∷ above) is =
    let parts = both_true (represents c e) (stands before.next (fits (before ∷ cs)) above) is in
    by_combinator c before cs e above before.next (fits_is (before ∷ cs)) (represents_is c e parts.0) refl parts.1

pub is_fit : {cs : List CompoundSelector} {es : List Element} → Fits cs es → fits cs es ≡ true
is_fit (matching.first c e above is) = is_represented c e is
is_fit (matching.child c before cs e above is next rest) = rw (is_represented c e is, next) (is_fit rest)
is_fit (matching.descendant c before cs e between above is next rest) =
    rw (is_represented c e is, next) (rest_from_above (fits (before ∷ cs)) between above (is_fit rest))

pub matches_is : (s : List CompoundSelector) (es : List Element) (r : Bool) → r ≡ matches_of s es → (r ≡ true → Matches s es) × (Matches s es → r ≡ true)
matches_is s es r is = (λ yes'. fits_is (reverse s) es (sym is ∙ yes'), λ m. is ∙ is_fit m)
