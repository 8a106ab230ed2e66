-- Lists of selectors, one more at a time.
use Rattle.std.proofs.Common.{◌≡◌, ℕ, zero, suc, ◌+◌, ◌<◌, ◌≤◌, refl, arith, ap, subst, sym, ◌∙◌, List, ◌∷◌, [], ◌++◌, length, get_or, take, map, Bool, true, false, Option, Some, None, Ok, Err, ◌||◌, length-append, lt-ltb, le-ltb}
use Rattle.std.specs.Prelude.{option_map, option_to_list}
use Rattle.std.specs.Option.{option_and_then}
use Rattle.std.specs.List.{list_any}
use Rattle.std.proofs.Math.Bool.{or-false}
use Rattle.std.proofs.lemmas.List.{get_or-map, length-map, take_all, take_more}
use Rattle.std.proofs.lemmas.List.Folds.{list_any-append}
use Rattle.selectors_mini.specs.Compounds.{CompoundSelector, any_element}
use Rattle.selectors_mini.specs.Parts.{SelectorPart}
use Rattle.selectors_mini.specs.Reading.{GivesSelectors, Tells, bounded, compounds_from, compounds_of, each_selector, ending, is_long, step_from}
use Rattle.std.specs.Global.{Vec}
use Rattle.selectors_mini.specs.declared.compound.Compound.{Compound}
use Rattle.selectors_mini.specs.declared.reader.Place.{Place}
use Rattle.selectors_mini.specs.declared.reader.Place.TheVariants.{Start, Inside, Point, Spaced, Below}
use Rattle.selectors_mini.specs.declared.reading.SelectorFault.{SelectorFault}
use Rattle.selectors_mini.specs.declared.reading.SelectorFault.TheVariants.{Unsupported, BoundSelectors, BoundCompounds, NoMemory}

-- what a chain of options came from
pub and_then_some : {A B : Type 0} (f : A → Option B) (o : Option A) (b : B) → option_and_then f o ≡ Some b → (a : A) × (o ≡ Some a) × (f a ≡ Some b)
and_then_some f None b is = absurd (cc)
and_then_some f (Some a) b is = (a, refl, is)

pub map_some : {A B : Type 0} (f : A → B) (o : Option A) (b : B) → option_map f o ≡ Some b → (a : A) × (o ≡ Some a) × (f a ≡ b)
map_some f None b is = absurd (cc)
map_some f (Some a) b is = (a, refl, cc)

-- a selector that is read has a compound
ending_some : (place : Place) (c : CompoundSelector) (cs : List CompoundSelector) → ending place c ≡ Some cs → 1 ≤ length cs
ending_some Start c cs is = absurd (cc)
ending_some Inside c cs is = let same : c ∷ [] ≡ cs = cc in subst (λ l. 1 ≤ length l) same (omega arith)
ending_some Point c cs is = absurd (cc)
ending_some Spaced c cs is = let same : c ∷ [] ≡ cs = cc in subst (λ l. 1 ≤ length l) same (omega arith)
ending_some Below c cs is = absurd (cc)

compounds_some : (place : Place) (c : CompoundSelector) (parts : List SelectorPart) (cs : List CompoundSelector)
    → compounds_from place c parts ≡ Some cs → 1 ≤ length cs
compounds_some place c [] cs is = ending_some place c cs is
compounds_some place c (part ∷ parts) cs is =
    let s = and_then_some (λ s. option_map (λ cs. option_to_list s.ended ++ cs) (compounds_from s.place s.compound parts)) (step_from place c part) cs is in
    let rest = map_some (λ cs. option_to_list (s.0).ended ++ cs) (compounds_from (s.0).place (s.0).compound parts) cs s.2 in
    let some = compounds_some (s.0).place (s.0).compound parts rest.0 rest.1 in
    subst (λ l. 1 ≤ length l) rest.2 (omega (arith, length-append (option_to_list (s.0).ended) rest.0))

pub selector_some : (parts : List SelectorPart) (cs : List CompoundSelector) → compounds_of parts ≡ Some cs → 1 ≤ length cs
selector_some parts cs is = compounds_some Start any_element parts cs is

-- ---- each selector

pub each_cons : (run : List SelectorPart) (runs : List (List SelectorPart)) (s : List CompoundSelector) (ss : List (List CompoundSelector))
    → compounds_of run ≡ Some s → each_selector runs ≡ Some ss → each_selector (run ∷ runs) ≡ Some (s ∷ ss)
each_cons run runs s ss one is = rw (one, is) refl

-- what the selectors of runs came from
pub record EachOf (run : List SelectorPart) (runs : List (List SelectorPart)) (ss : List (List CompoundSelector)) : Type 0 where
  pub first : List CompoundSelector
  pub rest : List (List CompoundSelector)
  pub first_is : compounds_of run ≡ Some first
  pub rest_is : each_selector runs ≡ Some rest
  pub all_are : first ∷ rest ≡ ss

pub each_of : (run : List SelectorPart) (runs : List (List SelectorPart)) (ss : List (List CompoundSelector))
    → each_selector (run ∷ runs) ≡ Some ss → EachOf run runs ss
each_of run runs ss is =
    let f = and_then_some (λ s. option_map (λ ss. s ∷ ss) (each_selector runs)) (compounds_of run) ss is in
    let rest = map_some (λ ss. f.0 ∷ ss) (each_selector runs) ss f.2 in
    record { first = f.0; rest = rest.0; first_is = f.1; rest_is = rest.1; all_are = rest.2 }

-- one more selector after others
pub each_more : (runs : List (List SelectorPart)) (run : List SelectorPart) (ss : List (List CompoundSelector)) (s : List CompoundSelector)
    → each_selector runs ≡ Some ss → compounds_of run ≡ Some s → each_selector (runs ++ run ∷ []) ≡ Some (ss ++ s ∷ [])
each_more [] run ss s is one =
    let none : [] ≡ ss = cc in
    subst (λ l. each_selector (run ∷ []) ≡ Some (l ++ s ∷ [])) none (each_cons run [] s [] one refl)
each_more (first ∷ runs) run ss s is one =
    let f = each_of first runs ss is in
    let more = each_more runs run f.rest s f.rest_is one in
    subst (λ l. each_selector (first ∷ (runs ++ run ∷ [])) ≡ Some (l ++ s ∷ [])) f.all_are
    (each_cons first (runs ++ run ∷ []) f.first (f.rest ++ s ∷ []) f.first_is more)

-- where one run is no selector, nothing is read
none_before : (run : List SelectorPart) (runs : List (List SelectorPart)) (o : Option (List CompoundSelector)) → compounds_of run ≡ o
    → each_selector runs ≡ None → each_selector (run ∷ runs) ≡ None
none_before run runs None is rest = rw is refl
none_before run runs (Some s) is rest = rw (is, rest) refl

pub each_none : (runs : List (List SelectorPart)) (k : ℕ) (d : List SelectorPart) → k < length runs → compounds_of (get_or runs k d) ≡ None
    → each_selector runs ≡ None
each_none [] k d within none = absurd (omega arith)
each_none (run ∷ runs) zero d within none = rw none refl
each_none (run ∷ runs) (suc k) d within none =
    none_before run runs (compounds_of run) refl (each_none runs k d (omega arith) none)

pub each_length : (runs : List (List SelectorPart)) (ss : List (List CompoundSelector)) → each_selector runs ≡ Some ss → length ss ≡ length runs
each_length [] ss is = let none : [] ≡ ss = cc in ap length (sym none)
each_length (run ∷ runs) ss is =
    let f = each_of run runs ss is in
    subst (λ l. length l ≡ suc (length runs)) f.all_are (ap suc (each_length runs f.rest f.rest_is))

-- ---- the bounds

list_any-push : (p : List CompoundSelector → Bool) (xs : List (List CompoundSelector)) (x : List CompoundSelector)
    → list_any p (xs ++ x ∷ []) ≡ (list_any p xs || p x)
list_any-push p xs x = list_any-append p xs (x ∷ []) ∙ ap (λ b. list_any p xs || b) (or-false (p x))

-- the selectors of the runs so far, whether one is long, and which of them are kept
pub record SoFar (runs : List (List SelectorPart)) (i : ℕ) (has_long : Bool) (kept : List (List CompoundSelector)) : Type 0 where
  pub found : List (List CompoundSelector)
  pub found_are : each_selector (take i runs) ≡ Some found
  pub long_is : has_long ≡ list_any is_long found
  pub kept_are : i ≤ 32 → has_long ≡ false → kept ≡ found

pub both_false : (a b : Bool) → (a || b) ≡ false → (a ≡ false) × (b ≡ false)
both_false true b is = absurd (cc)
both_false false b is = (refl, is)

pub so_far_more : (runs : List (List SelectorPart)) (i : ℕ) (has_long long : Bool) (kept more : List (List CompoundSelector)) (s : List CompoundSelector)
    → i < length runs → SoFar runs i has_long kept → compounds_of (get_or runs i []) ≡ Some s → long ≡ is_long s
    → (i < 32 → long ≡ false → more ≡ kept ++ s ∷ []) → SoFar runs (i + 1) (has_long || long) more
so_far_more runs i has_long long kept more s within before one long_is kept_is =
    let next : take (i + 1) runs ≡ take i runs ++ get_or runs i [] ∷ [] = take_more runs i [] within in
    record {
      found = before.found ++ s ∷ [];
      found_are = rw next (each_more (take i runs) (get_or runs i []) before.found s before.found_are one);
      long_is = ap (λ b. b || long) before.long_is ∙ ap (λ b. list_any is_long before.found || b) long_is ∙ sym (list_any-push is_long before.found s);
      kept_are = λ few none.
          let parts = both_false has_long long none in
          kept_is (omega arith) parts.1 ∙ ap (λ l. l ++ s ∷ []) (before.kept_are (omega arith) parts.0);
    }

-- the answer, once all runs were read
many_bounded : (ss : List (List CompoundSelector)) → 32 < length ss → bounded (Some ss) ≡ Err BoundSelectors
many_bounded ss many = rw (lt-ltb 32 (length ss) many) refl

long_bounded : (ss : List (List CompoundSelector)) → length ss ≤ 32 → list_any is_long ss ≡ true → bounded (Some ss) ≡ Err BoundCompounds
long_bounded ss few long = rw (le-ltb 32 (length ss) few, long) refl

short_bounded : (ss : List (List CompoundSelector)) → length ss ≤ 32 → list_any is_long ss ≡ false → bounded (Some ss) ≡ Ok ss
short_bounded ss few short = rw (le-ltb 32 (length ss) few, short) refl

found_all : (runs : List (List SelectorPart)) (has_long : Bool) (kept : List (List CompoundSelector)) (i : ℕ) → i ≡ length runs
    → (whole : SoFar runs i has_long kept) → each_selector runs ≡ Some whole.found
found_all runs has_long kept i all whole = subst (λ l. each_selector l ≡ Some whole.found) (take_all i runs (omega arith)) whole.found_are

pub too_many : (runs : List (List SelectorPart)) (has_long : Bool) (kept : List (List CompoundSelector)) (i : ℕ) → i ≡ length runs
    → SoFar runs i has_long kept → 32 < length runs → bounded (each_selector runs) ≡ Err BoundSelectors
too_many runs has_long kept i all whole many =
    let found = found_all runs has_long kept i all whole in
    let size = each_length runs whole.found found in
    ap bounded found ∙ many_bounded whole.found (omega arith)

pub too_long : (runs : List (List SelectorPart)) (has_long : Bool) (kept : List (List CompoundSelector)) (i : ℕ) → i ≡ length runs
    → SoFar runs i has_long kept → length runs ≤ 32 → has_long ≡ true → bounded (each_selector runs) ≡ Err BoundCompounds
too_long runs has_long kept i all whole few long =
    let found = found_all runs has_long kept i all whole in
    let size = each_length runs whole.found found in
    ap bounded found ∙ long_bounded whole.found (omega arith) (sym whole.long_is ∙ long)

pub within_bounds : (runs : List (List SelectorPart)) (has_long : Bool) (kept : List (List CompoundSelector)) (i : ℕ) → i ≡ length runs
    → SoFar runs i has_long kept → length runs ≤ 32 → has_long ≡ false → bounded (each_selector runs) ≡ Ok kept
within_bounds runs has_long kept i all whole few short =
    let found = found_all runs has_long kept i all whole in
    let size = each_length runs whole.found found in
    ap bounded found ∙ short_bounded whole.found (omega arith) (sym whole.long_is ∙ short)
    ∙ ap Ok (sym (whole.kept_are (omega arith) short))

-- ---- runs as the code has them

-- a fault of one run
pub fault_at : {A : Type 0} (f : A → List SelectorPart) (xs : List A) (i : ℕ) (d : A) (fault : SelectorFault) → i < length xs
    → Tells {A = Vec Compound} (λ v. v.items) (Err fault) (compounds_of (f (get_or xs i d))) → GivesSelectors (Err fault) (bounded (each_selector (map f xs)))
fault_at f xs i d Unsupported within is =
    ap bounded (each_none (map f xs) i [] (omega (arith, length-map xs f)) (ap compounds_of (get_or-map f xs i d [] within) ∙ is))
fault_at f xs i d BoundSelectors within is = absurd is
fault_at f xs i d BoundCompounds within is = absurd is
fault_at f xs i d NoMemory within is = tt

-- the selector of one run more
pub run_more : {A : Type 0} (f : A → List SelectorPart) (xs : List A) (i : ℕ) (d : A) (has_long long : Bool) (kept more : List (List CompoundSelector)) (s : List CompoundSelector)
    → i < length xs → SoFar (map f xs) i has_long kept → compounds_of (f (get_or xs i d)) ≡ Some s → long ≡ is_long s
    → (i < 32 → long ≡ false → more ≡ kept ++ s ∷ []) → SoFar (map f xs) (i + 1) (has_long || long) more
run_more f xs i d has_long long kept more s within before one long_is kept_is =
    so_far_more (map f xs) i has_long long kept more s (omega (arith, length-map xs f)) before
    (ap compounds_of (get_or-map f xs i d [] within) ∙ one) long_is kept_is

-- a run that is read has a compound
pub run_some : {A : Type 0} (f : A → List SelectorPart) (xs : List A) (i : ℕ) (d : A) (s : List CompoundSelector)
    → compounds_of (f (get_or xs i d)) ≡ Some s → 1 ≤ length s
run_some f xs i d s is = selector_some (f (get_or xs i d)) s is
