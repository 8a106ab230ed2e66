-- The selectors that parts spell, as a function of the parts.
use Rattle.std.specs.Prelude.{◌≡◌, Bool, true, false, List, [], ◌∷◌, ◌++◌, length, nat_lt, if◌then◌else◌, Option, None, Some, option_map, option_to_list, Result, Ok, Err, ⊤}
use Rattle.std.specs.List.{list_any, slice_split}
use Rattle.std.specs.Option.{option_and_then}
use Rattle.selectors_mini.specs.Compounds.{CompoundSelector, any_element, of_type, compound_with_id, compound_with_class, followed_by}
use Rattle.selectors_mini.specs.Parts.{SelectorPart, Word, Hash, Dot, Star, Greater, Comma, Space}
use Rattle.selectors_mini.specs.declared.combinator.Combinator.TheVariants.{Child, Descendant}
use Rattle.selectors_mini.specs.declared.reader.Place.{Place}
use Rattle.selectors_mini.specs.declared.reader.Place.TheVariants.{Start, Inside, Point, Spaced, Below}
use Rattle.selectors_mini.specs.declared.reader.Advance.{Advance}
use Rattle.selectors_mini.specs.declared.reading.SelectorFault.{SelectorFault}
use Rattle.selectors_mini.specs.declared.reading.SelectorFault.TheVariants.{Unsupported, BoundSelectors, BoundCompounds, NoMemory}

-- ---- one selector, from left to right

-- the part is spaces, `>` or a comma
abbrev pub is_space : SelectorPart → Bool
is_space Space = true
is_space _ = false

abbrev pub is_greater : SelectorPart → Bool
is_greater Greater = true
is_greater _ = false

abbrev pub is_comma : SelectorPart → Bool
is_comma Comma = true
is_comma _ = false

-- on with the same compound
abbrev pub stay : Place → CompoundSelector → Advance
stay place c = record { ended = None; compound = c; place = place }

-- a compound begins with the part, which ends another
abbrev pub begin : Option CompoundSelector → SelectorPart → Option Advance
begin ended (Word name) = Some (record { ended = ended; compound = of_type name; place = Inside })
begin ended (Hash name) = Some (record { ended = ended; compound = compound_with_id any_element name; place = Inside })
begin ended Dot = Some (record { ended = ended; compound = any_element; place = Point })
begin ended Star = Some (record { ended = ended; compound = any_element; place = Inside })
begin ended _ = None

-- where the next part leads, if it may stand there: before the first compound
abbrev pub step_start : CompoundSelector → SelectorPart → Option Advance
step_start c part = if is_space part then Some (stay Start c) else begin None part

-- directly after a part of the compound
abbrev pub step_inside : CompoundSelector → SelectorPart → Option Advance
step_inside c (Hash name) = Some (stay Inside (compound_with_id c name))
step_inside c Dot = Some (stay Point c)
step_inside c Greater = Some (stay Below c)
step_inside c Space = Some (stay Spaced c)
step_inside c _ = None

-- after the `.` of a class
abbrev pub step_to_name : CompoundSelector → SelectorPart → Option Advance
step_to_name c (Word name) = Some (stay Inside (compound_with_class c name))
step_to_name c _ = None

-- after the compound and spaces
abbrev pub step_spaced : CompoundSelector → SelectorPart → Option Advance
step_spaced c part =
    if is_space part then Some (stay Spaced c)
    else (if is_greater part then Some (stay Below c) else begin (Some (followed_by c Descendant)) part)

-- after the compound and `>`
abbrev pub step_below : CompoundSelector → SelectorPart → Option Advance
step_below c part = if is_space part then Some (stay Below c) else begin (Some (followed_by c Child)) part

abbrev pub step_from : Place → CompoundSelector → SelectorPart → Option Advance
step_from Start c part = step_start c part
step_from Inside c part = step_inside c part
step_from Point c part = step_to_name c part
step_from Spaced c part = step_spaced c part
step_from Below c part = step_below c part

-- the last compound, if the parts may end there
abbrev pub ending : Place → CompoundSelector → Option (List CompoundSelector)
ending Start c = None
ending Inside c = Some (c ∷ [])
ending Point c = None
ending Spaced c = Some (c ∷ [])
ending Below c = None

-- the compounds from there on
abbrev pub compounds_from : Place → CompoundSelector → List SelectorPart → Option (List CompoundSelector)
compounds_from place c [] = ending place c
compounds_from place c (part ∷ parts) =
    option_and_then (λ s. option_map (λ cs. option_to_list s.ended ++ cs) (compounds_from s.place s.compound parts)) (step_from place c part)

-- the compounds of a selector
abbrev pub compounds_of : List SelectorPart → Option (List CompoundSelector)
compounds_of parts = compounds_from Start any_element parts

-- ---- lists of selectors

-- each selector, where each run is one
abbrev pub each_selector : List (List SelectorPart) → Option (List (List CompoundSelector))
each_selector [] = Some []
each_selector (run ∷ runs) = option_and_then (λ s. option_map (λ ss. s ∷ ss) (each_selector runs)) (compounds_of run)

-- the selector has more than 16 compounds
abbrev pub is_long : List CompoundSelector → Bool
is_long s = nat_lt 16 (length s)

-- the selectors, if they are within the bounds: at most 32, none of them long
abbrev pub bounded : Option (List (List CompoundSelector)) → Result (List (List CompoundSelector)) SelectorFault
bounded None = Err Unsupported
bounded (Some ss) =
    if nat_lt 32 (length ss) then Err BoundSelectors else (if list_any is_long ss then Err BoundCompounds else Ok ss)

-- the selectors that the parts spell
unfoldable pub selectors_of : List SelectorPart → Result (List (List CompoundSelector)) SelectorFault
selectors_of parts = bounded (each_selector (slice_split is_comma parts))

-- the result is what is found, nothing where that is unsupported, unless memory ran out
abbrev pub Tells : {A B : Type 0} → (A → B) → Result A SelectorFault → Option B → Type 0
Tells f (Ok x) found = found ≡ Some (f x)
Tells f (Err Unsupported) found = found ≡ None
Tells f (Err BoundSelectors) found = ⊥
Tells f (Err BoundCompounds) found = ⊥
Tells f (Err NoMemory) found = ⊤

-- the result is that reading, unless memory ran out
abbrev pub GivesSelectors : Result (List (List CompoundSelector)) SelectorFault → Result (List (List CompoundSelector)) SelectorFault → Type 0
GivesSelectors (Ok ss) reading = reading ≡ Ok ss
GivesSelectors (Err NoMemory) reading = ⊤
GivesSelectors (Err fault) reading = reading ≡ Err fault
