-- Lists of selectors are read exactly as they are spelled.
use Rattle.std.proofs.Common.{◌≡◌, ◌<◌, ◌≤◌, refl, ap, subst, sym, ◌∙◌, List, ◌∷◌, [], ◌++◌, length, Bool, true, false, Option, Some, None, Result, Ok, Err, ltb, ltb-true, ltb-false}
use Rattle.std.specs.Prelude.{All, Any, if◌then◌else◌}
use Rattle.std.specs.List.{list_any, slice_split, onto_first}
use Rattle.std.proofs.lemmas.List.Elements.{All-nil, All-cons, All-append}
use Rattle.std.proofs.lemmas.List.Folds.{Any-from_list_any}
use Rattle.std.proofs.lemmas.List.Splits.{slice_split-cons_yes, slice_split-cons_no, slice_split_none, slice_split_at}
use Rattle.selectors_mini.specs.Compounds.{CompoundSelector}
use Rattle.selectors_mini.specs.Parts.{SelectorPart, Word, Hash, Dot, Star, Greater, Comma, Space, Other}
use Rattle.selectors_mini.specs.Spelling.{Continues, IsCompound, AreSpaces, IsCombinator, AreCompounds, IsSelector, AreSelectors, IsSelectorAnswer}
use Rattle.selectors_mini.specs.Spelling as spelling
use Rattle.selectors_mini.specs.Reading.{GivesSelectors, bounded, each_selector, is_comma, is_long, selectors_of}
use Rattle.selectors_mini.specs.declared.combinator.Combinator.{Combinator}
use Rattle.selectors_mini.specs.declared.reading.SelectorFault.{SelectorFault}
use Rattle.selectors_mini.specs.declared.reading.SelectorFault.TheVariants.{Unsupported, BoundSelectors, BoundCompounds, NoMemory}
use Rattle.selectors_mini.proofs.Lists.{both_false, each_cons, each_of}
use Rattle.selectors_mini.proofs.Sound.{selector_sound}
use Rattle.selectors_mini.proofs.Complete.{selector_complete}

-- ---- no comma stands in a selector

abbrev NoCommas : List SelectorPart → Type 0
NoCommas parts = All (λ p. is_comma p ≡ false) parts

abbrev NoComma : SelectorPart → Type 0
NoComma p = is_comma p ≡ false

none_first : (p : SelectorPart) (ps : List SelectorPart) → is_comma p ≡ false → NoCommas ps → NoCommas (p ∷ ps)
none_first p ps h rest = All-cons NoComma p ps h rest

continues_none : {c d : CompoundSelector} {parts : List SelectorPart} → Continues c parts d → NoCommas parts
continues_none (spelling.end c) = All-nil NoComma
continues_none (spelling.class c d name rest on) = none_first Dot (Word name ∷ rest) refl (none_first (Word name) rest refl (continues_none on))
continues_none (spelling.id c d name rest on) = none_first (Hash name) rest refl (continues_none on)

compound_none : {d : CompoundSelector} {parts : List SelectorPart} → IsCompound parts d → NoCommas parts
compound_none (spelling.type d name rest on) = none_first (Word name) rest refl (continues_none on)
compound_none (spelling.universal d rest on) = none_first Star rest refl (continues_none on)
compound_none (spelling.class d name rest on) = none_first Dot (Word name ∷ rest) refl (none_first (Word name) rest refl (continues_none on))
compound_none (spelling.id d name rest on) = none_first (Hash name) rest refl (continues_none on)

spaces_none : {parts : List SelectorPart} → AreSpaces parts → NoCommas parts
spaces_none spelling.none = All-nil NoComma
spaces_none (spelling.some rest s) = none_first Space rest refl (spaces_none s)

combinator_none : {k : Combinator} {parts : List SelectorPart} → IsCombinator parts k → NoCommas parts
combinator_none (spelling.descendant rest s) = none_first Space rest refl (spaces_none s)
combinator_none (spelling.child before after x y) = All-append NoComma before (Greater ∷ after) (spaces_none x) (none_first Greater after refl (spaces_none y))

compounds_none : {cs : List CompoundSelector} {parts : List SelectorPart} → AreCompounds parts cs → NoCommas parts
compounds_none (spelling.last parts c is) = compound_none is
compounds_none (spelling.more parts between rest c k cs is by others) =
    All-append NoComma (parts ++ between) rest (All-append NoComma parts between (compound_none is) (combinator_none by)) (compounds_none others)

selector_none : {cs : List CompoundSelector} {parts : List SelectorPart} → IsSelector parts cs → NoCommas parts
selector_none (spelling.spaced before inside after cs b i s) =
    All-append NoComma (before ++ inside) after (All-append NoComma before inside (spaces_none b) (compounds_none i)) (spaces_none s)

-- ---- from the spelling to the reading

pub selectors_complete : {parts : List SelectorPart} {ss : List (List CompoundSelector)} → AreSelectors parts ss → each_selector (slice_split is_comma parts) ≡ Some ss
selectors_complete (spelling.last parts s is) =
    ap each_selector (slice_split_none is_comma parts (selector_none is)) ∙ each_cons parts [] s [] (selector_complete is) refl
selectors_complete (spelling.more parts rest s ss is others) =
    ap each_selector (slice_split_at is_comma parts Comma rest (selector_none is) refl)
    ∙ each_cons parts (slice_split is_comma rest) s ss (selector_complete is) (selectors_complete others)

-- ---- and back

-- runs with commas between them
joined : List (List SelectorPart) → List SelectorPart
joined [] = []
joined (run ∷ []) = run
joined (run ∷ next ∷ runs) = run ++ Comma ∷ joined (next ∷ runs)

joined-onto_first : (p : SelectorPart) (runs : List (List SelectorPart)) → joined (onto_first p runs) ≡ p ∷ joined runs
unfolding joined
joined-onto_first p [] = refl
joined-onto_first p (run ∷ []) = refl
joined-onto_first p (run ∷ next ∷ runs) = refl

-- there is always a run
onto_first-some : (p : SelectorPart) (runs : List (List SelectorPart)) → onto_first p runs ≡ [] → ⊥
onto_first-some p [] is = cc
onto_first-some p (run ∷ runs) is = cc

split_some : (p : SelectorPart) (parts : List SelectorPart) (b : Bool) → is_comma p ≡ b → slice_split is_comma (p ∷ parts) ≡ [] → ⊥
split_some p parts true b is = let e : [] ∷ slice_split is_comma parts ≡ [] = sym (slice_split-cons_yes is_comma p parts b) ∙ is in cc
split_some p parts false b is = onto_first-some p (slice_split is_comma parts) (sym (slice_split-cons_no is_comma p parts b) ∙ is)

some_run : (parts : List SelectorPart) → slice_split is_comma parts ≡ [] → ⊥
some_run [] is = cc
some_run (p ∷ parts) is = split_some p parts (is_comma p) refl is

joined-comma : (parts : List SelectorPart) (runs : List (List SelectorPart)) → slice_split is_comma parts ≡ runs → joined ([] ∷ runs) ≡ Comma ∷ joined runs
unfolding joined
joined-comma parts [] is = absurd (some_run parts is)
joined-comma parts (run ∷ runs) is = refl

comma_is : (p : SelectorPart) → is_comma p ≡ true → p ≡ Comma
comma_is (Word name) is = absurd (cc)
comma_is (Hash name) is = absurd (cc)
comma_is Dot is = absurd (cc)
comma_is Star is = absurd (cc)
comma_is Greater is = absurd (cc)
comma_is Comma is = refl
comma_is Space is = absurd (cc)
comma_is Other is = absurd (cc)

joined-slice_split : (parts : List SelectorPart) → joined (slice_split is_comma parts) ≡ parts
unfolding joined
joined-slice_split [] = refl
joined-slice_split (p ∷ parts) = at_first p parts (is_comma p) refl (joined-slice_split parts)
  where
    at_first : (p : SelectorPart) (parts : List SelectorPart) (b : Bool) → is_comma p ≡ b → joined (slice_split is_comma parts) ≡ parts
        → joined (slice_split is_comma (p ∷ parts)) ≡ p ∷ parts
    at_first p parts true is rest =
        ap joined (slice_split-cons_yes is_comma p parts is) ∙ joined-comma parts (slice_split is_comma parts) refl
        ∙ ap (λ l. Comma ∷ l) rest ∙ ap (λ q. q ∷ parts) (sym (comma_is p is))
    at_first p parts false is rest =
        ap joined (slice_split-cons_no is_comma p parts is) ∙ joined-onto_first p (slice_split is_comma parts) ∙ ap (λ l. p ∷ l) rest

runs_sound : (run : List SelectorPart) (runs : List (List SelectorPart)) (ss : List (List CompoundSelector)) → each_selector (run ∷ runs) ≡ Some ss
    → AreSelectors (joined (run ∷ runs)) ss
unfolding joined
runs_sound run [] ss is =
    let f = each_of run [] ss is in
    let none : [] ≡ f.rest = let e = f.rest_is in cc in
    subst (AreSelectors run) (ap (λ l. f.first ∷ l) none ∙ f.all_are) (spelling.last run f.first (selector_sound run f.first f.first_is))
runs_sound run (next ∷ runs) ss is =
    let f = each_of run (next ∷ runs) ss is in
    subst (AreSelectors (run ++ Comma ∷ joined (next ∷ runs))) f.all_are
    (spelling.more run (joined (next ∷ runs)) f.first f.rest (selector_sound run f.first f.first_is) (runs_sound next runs f.rest f.rest_is))

from_runs : (parts : List SelectorPart) (ss : List (List CompoundSelector)) (runs : List (List SelectorPart)) → slice_split is_comma parts ≡ runs
    → joined runs ≡ parts → each_selector runs ≡ Some ss → AreSelectors parts ss
from_runs parts ss [] cut are is = absurd (some_run parts cut)
from_runs parts ss (run ∷ runs) cut are is = subst (λ l. AreSelectors l ss) are (runs_sound run runs ss is)

pub selectors_sound : (parts : List SelectorPart) (ss : List (List CompoundSelector)) → each_selector (slice_split is_comma parts) ≡ Some ss → AreSelectors parts ss
selectors_sound parts ss is = from_runs parts ss (slice_split is_comma parts) refl (joined-slice_split parts) is

-- there is one reading
pub selectors_one : (parts : List SelectorPart) (ss others : List (List CompoundSelector)) → AreSelectors parts ss → AreSelectors parts others → ss ≡ others
selectors_one parts ss others a b = let e = selectors_complete a in let d = selectors_complete b in cc

-- ---- the answer

all_short : (ss : List (List CompoundSelector)) → list_any is_long ss ≡ false → All (λ s. length s ≤ 16) ss
all_short [] short = All-nil (λ s. length s ≤ 16)
all_short (s ∷ ss) short =
    let parts = both_false (is_long s) (list_any is_long ss) short in
    All-cons (λ s. length s ≤ 16) s ss (ltb-false 16 (length s) parts.0) (all_short ss parts.1)

some_long : (ss : List (List CompoundSelector)) → list_any is_long ss ≡ true → Any (λ s. 16 < length s) ss
some_long ss long = let found = Any-from_list_any is_long ss long in (found.0, found.1, found.2, found.3, ltb-true 16 (length found.1) found.4)

by_found : (parts : List SelectorPart) (found : List (List CompoundSelector)) (many long : Bool) → AreSelectors parts found → ltb 32 (length found) ≡ many
    → list_any is_long found ≡ long → (r : Result (List (List CompoundSelector)) SelectorFault)
    → GivesSelectors r (if many then Err BoundSelectors else (if long then Err BoundCompounds else Ok found)) → IsSelectorAnswer parts r
by_found parts found true long spelled many_is long_is (Ok ss) is = absurd (cc)
by_found parts found true long spelled many_is long_is (Err Unsupported) is = absurd (cc)
by_found parts found true long spelled many_is long_is (Err BoundSelectors) is = (found, spelled, ltb-true 32 (length found) many_is)
by_found parts found true long spelled many_is long_is (Err BoundCompounds) is = absurd (cc)
by_found parts found true long spelled many_is long_is (Err NoMemory) is = tt
by_found parts found false true spelled many_is long_is (Ok ss) is = absurd (cc)
by_found parts found false true spelled many_is long_is (Err Unsupported) is = absurd (cc)
by_found parts found false true spelled many_is long_is (Err BoundSelectors) is = absurd (cc)
by_found parts found false true spelled many_is long_is (Err BoundCompounds) is =
    (found, spelled, ltb-false 32 (length found) many_is, some_long found long_is)
by_found parts found false true spelled many_is long_is (Err NoMemory) is = tt
by_found parts found false false spelled many_is long_is (Ok ss) is =
    let same : found ≡ ss = cc in
    subst (λ l. AreSelectors parts l × (length l ≤ 32) × All (λ s. length s ≤ 16) l) same
    (spelled, ltb-false 32 (length found) many_is, all_short found long_is)
by_found parts found false false spelled many_is long_is (Err Unsupported) is = absurd (cc)
by_found parts found false false spelled many_is long_is (Err BoundSelectors) is = absurd (cc)
by_found parts found false false spelled many_is long_is (Err BoundCompounds) is = absurd (cc)
by_found parts found false false spelled many_is long_is (Err NoMemory) is = tt

by_none : (parts : List SelectorPart) → each_selector (slice_split is_comma parts) ≡ None → (r : Result (List (List CompoundSelector)) SelectorFault)
    → GivesSelectors r (Err Unsupported) → IsSelectorAnswer parts r
by_none parts none (Ok ss) is = absurd (cc)
by_none parts none (Err Unsupported) is = λ ss spelled. let e = selectors_complete spelled in cc
by_none parts none (Err BoundSelectors) is = absurd (cc)
by_none parts none (Err BoundCompounds) is = absurd (cc)
by_none parts none (Err NoMemory) is = tt

by_reading : (parts : List SelectorPart) (o : Option (List (List CompoundSelector))) → each_selector (slice_split is_comma parts) ≡ o
    → (r : Result (List (List CompoundSelector)) SelectorFault) → GivesSelectors r (bounded o) → IsSelectorAnswer parts r
by_reading parts None none r is = by_none parts none r is
by_reading parts (Some found) read r is =
    by_found parts found (ltb 32 (length found)) (list_any is_long found) (selectors_sound parts found read) refl refl r is

-- what the reading gives is the answer
pub answer_by_reading : (parts : List SelectorPart) (r : Result (List (List CompoundSelector)) SelectorFault) → GivesSelectors r (selectors_of parts) → IsSelectorAnswer parts r
unfolding selectors_of
answer_by_reading parts r is = by_reading parts (each_selector (slice_split is_comma parts)) refl r is

gives_itself : (parts : List SelectorPart) (r : Result (List (List CompoundSelector)) SelectorFault) → selectors_of parts ≡ r → GivesSelectors r (selectors_of parts)
gives_itself parts (Ok ss) is = is
gives_itself parts (Err Unsupported) is = is
gives_itself parts (Err BoundSelectors) is = is
gives_itself parts (Err BoundCompounds) is = is
gives_itself parts (Err NoMemory) is = tt

-- the reading is an answer
pub reading_is_answer : (parts : List SelectorPart) → IsSelectorAnswer parts (selectors_of parts)
reading_is_answer parts = answer_by_reading parts (selectors_of parts) (gives_itself parts (selectors_of parts) refl)
