-- An index of selectors, where a place is put.
use Rattle.std.proofs.Common.{◌≡◌, ℕ, suc, ◌+◌, ◌<◌, ◌≤◌, List, [], ◌∷◌, ◌++◌, length, get_or, drop, drop-cons, add-one, append_assoc, refl, ap, sym, ◌∙◌, subst, arith}
use Rattle.std.specs.Prelude.{Option, Some}
use Rattle.std.specs.Global.{Vec}
use Rattle.std.proofs.lemmas.List.{append-nil}
use Rattle.selectors_mini.specs.Compounds.{CompoundSelector, subject_of}
use Rattle.sheet_types.specs.declared.name_index.NameIndex.{NameIndex}
use Rattle.sheet_types.specs.declared.rule.Rule.{Rule}
use Rattle.sheet_types.specs.declared.selector_index.SelectorIndex.{SelectorIndex}
use Rattle.sheet_types.specs.declared.selector_place.SelectorPlace.{SelectorPlace}
use Rattle.sheet_types.specs.Candidates.{ById, ByClass, ByType, ForAny, SelectorKey, candidates_from, class_key, has_key, id_key, key_of, place_if, places_in, same_key, selector_place, type_key}
use Rattle.sheet_types.specs.Index.{HoldsNothing, IsEmptyIndex, IsPut, IsPutUnder, held}

-- ---- a place

-- under an id
pub put_id : (before : SelectorIndex) (ids : NameIndex) (id : List ℕ) (place : SelectorPlace) → IsPutUnder before.ids id place ids → IsPut before (ById id) place (record before { ids = ids })
unfolding held
put_id before ids id place put (ById other) = put other
put_id before ids id place put (ByClass other) = sym (append-nil _)
put_id before ids id place put (ByType other) = sym (append-nil _)
put_id before ids id place put ForAny = sym (append-nil _)

-- under a class
pub put_class : (before : SelectorIndex) (classes : NameIndex) (class : List ℕ) (place : SelectorPlace) → IsPutUnder before.classes class place classes
    → IsPut before (ByClass class) place (record before { classes = classes })
unfolding held
put_class before classes class place put (ById other) = sym (append-nil _)
put_class before classes class place put (ByClass other) = put other
put_class before classes class place put (ByType other) = sym (append-nil _)
put_class before classes class place put ForAny = sym (append-nil _)

-- under a type
pub put_type : (before : SelectorIndex) (types : NameIndex) (tag : List ℕ) (place : SelectorPlace) → IsPutUnder before.types tag place types
    → IsPut before (ByType tag) place (record before { types = types })
unfolding held
put_type before types tag place put (ById other) = sym (append-nil _)
put_type before types tag place put (ByClass other) = sym (append-nil _)
put_type before types tag place put (ByType other) = put other
put_type before types tag place put ForAny = sym (append-nil _)

-- under nothing
pub put_any : (before : SelectorIndex) (others : Vec SelectorPlace) (place : SelectorPlace) → others.items ≡ before.others.items ++ place ∷ []
    → IsPut before ForAny place (record before { others = others })
unfolding held
put_any before others place put (ById other) = sym (append-nil _)
put_any before others place put (ByClass other) = sym (append-nil _)
put_any before others place put (ByType other) = sym (append-nil _)
put_any before others place put ForAny = put

-- ---- nothing yet

pub nothing_held : (index : SelectorIndex) → HoldsNothing index.ids → HoldsNothing index.classes → HoldsNothing index.types → index.others.items ≡ [] → IsEmptyIndex index
unfolding held
nothing_held index ids classes types others (ById id) = ids id
nothing_held index ids classes types others (ByClass class) = classes class
nothing_held index ids classes types others (ByType tag) = types tag
nothing_held index ids classes types others ForAny = others

-- ---- the key of a compound

with_id : (ids classes : List (List ℕ)) (tag : Option (List ℕ)) (d : List ℕ) → 1 ≤ length ids → id_key ids classes tag ≡ ById (get_or ids 0 d)
with_id [] classes tag d some = absurd (omega (arith, some))
with_id (id ∷ ids) classes tag d some = refl

with_no_id : (ids classes : List (List ℕ)) (tag : Option (List ℕ)) → length ids < 1 → id_key ids classes tag ≡ class_key classes tag
with_no_id [] classes tag none = refl
with_no_id (id ∷ ids) classes tag none = absurd (omega (arith, none))

with_class : (classes : List (List ℕ)) (tag : Option (List ℕ)) (d : List ℕ) → 1 ≤ length classes → class_key classes tag ≡ ByClass (get_or classes 0 d)
with_class [] tag d some = absurd (omega (arith, some))
with_class (class ∷ classes) tag d some = refl

with_no_class : (classes : List (List ℕ)) (tag : Option (List ℕ)) → length classes < 1 → class_key classes tag ≡ type_key tag
with_no_class [] tag none = refl
with_no_class (class ∷ classes) tag none = absurd (omega (arith, none))

-- as the compound's parts are read
pub id_is : (subject : CompoundSelector) (ids : List (List ℕ)) (item bytes : List ℕ) → ids ≡ subject.ids → 1 ≤ length ids → item ≡ get_or ids 0 item → bytes ≡ item
    → key_of subject ≡ ById bytes
id_is subject ids item bytes are some first own =
    with_id subject.ids subject.classes subject.tag item (subst (λ xs. 1 ≤ length xs) are some) ∙ ap ById (ap (λ xs. get_or xs 0 item) (sym are) ∙ sym first ∙ sym own)

pub class_is : (subject : CompoundSelector) (ids classes : List (List ℕ)) (item bytes : List ℕ) → ids ≡ subject.ids → length ids < 1 → classes ≡ subject.classes → 1 ≤ length classes
    → item ≡ get_or classes 0 item → bytes ≡ item → key_of subject ≡ ByClass bytes
class_is subject ids classes item bytes are none classes_are some first own =
    with_no_id subject.ids subject.classes subject.tag (subst (λ xs. length xs < 1) are none)
    ∙ with_class subject.classes subject.tag item (subst (λ xs. 1 ≤ length xs) classes_are some)
    ∙ ap ByClass (ap (λ xs. get_or xs 0 item) (sym classes_are) ∙ sym first ∙ sym own)

pub type_is : (subject : CompoundSelector) (ids classes : List (List ℕ)) (tag : Option (List ℕ)) → ids ≡ subject.ids → length ids < 1 → classes ≡ subject.classes → length classes < 1
    → tag ≡ subject.tag → key_of subject ≡ type_key tag
type_is subject ids classes tag are none classes_are no_class tag_is =
    with_no_id subject.ids subject.classes subject.tag (subst (λ xs. length xs < 1) are none)
    ∙ with_no_class subject.classes subject.tag (subst (λ xs. length xs < 1) classes_are no_class) ∙ ap type_key (sym tag_is)

-- ---- the selectors of a rule

-- what stands under the key, and then the selectors that are left
pub step_of : (key : SelectorKey) (rule at : ℕ) (ss : List (List CompoundSelector)) (s : List CompoundSelector) (c : CompoundSelector) (before after : List SelectorPlace)
    → at < length ss → get_or ss at s ≡ s → subject_of s ≡ Some c → after ≡ before ++ place_if (same_key key (key_of c)) (selector_place rule at)
    → after ++ places_in key rule (at + 1) (drop (at + 1) ss) ≡ before ++ places_in key rule at (drop at ss)
step_of key rule at ss s c before after within is subject put =
    let rest = places_in key rule (at + 1) (drop (at + 1) ss) in
    let own : place_if (same_key key (key_of c)) (selector_place rule at) ≡ place_if (has_key key s) (selector_place rule at) = rw subject refl in
    let cut : drop at ss ≡ s ∷ drop (at + 1) ss = drop-cons ss at s within ∙ ap (λ t. t ∷ drop (suc at) ss) is ∙ ap (λ n. s ∷ drop n ss) (sym (add-one at)) in
    ap (λ l. l ++ rest) (put ∙ ap (λ l. before ++ l) own) ∙ append_assoc before (place_if (has_key key s) (selector_place rule at)) rest
    ∙ ap (λ l. before ++ places_in key rule at l) (sym cut)

-- and the rules that are left
pub rule_step : (key : SelectorKey) (at : ℕ) (rules : List Rule) (r : Rule) (before after : List SelectorPlace) → at < length rules → get_or rules at r ≡ r
    → after ≡ before ++ places_in key at 0 r.selectors → after ++ candidates_from key (at + 1) (drop (at + 1) rules) ≡ before ++ candidates_from key at (drop at rules)
rule_step key at rules r before after within is put =
    let rest = candidates_from key (at + 1) (drop (at + 1) rules) in
    let cut : drop at rules ≡ r ∷ drop (at + 1) rules = drop-cons rules at r within ∙ ap (λ t. t ∷ drop (suc at) rules) is ∙ ap (λ n. r ∷ drop n rules) (sym (add-one at)) in
    ap (λ l. l ++ rest) put ∙ append_assoc before (places_in key at 0 r.selectors) rest ∙ ap (λ l. before ++ candidates_from key at l) (sym cut)
