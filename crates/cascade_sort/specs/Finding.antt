-- How winners are found: the strongest declaration of each slot is kept, and only candidates are looked at.
use Rattle.std.specs.Prelude.{ℕ, Bool, if◌then◌else◌, List, [], ◌∷◌, ◌++◌, flat_map, fold, map, set, slice_get, slice_index_or, replicate, Option, None, Some}
use Rattle.std.specs.Option.{option_map_or}
use Rattle.computed_style.specs.Winners.{Declarations, no_declarations, with_declaration, with_list_declaration}
use Rattle.doc_tree.specs.Element.{Element}
use Rattle.selectors_mini.specs.Compounds.{CompoundSelector, specificity_of}
use Rattle.selectors_mini.specs.Matching.{matches_of}
use Rattle.sheet_types.specs.Candidates.{ById, ByClass, ByType, ForAny, SelectorKey, candidates_of}
use Rattle.sheet_types.specs.Sheets.{SheetRules}
use Rattle.sheet_types.specs.declared.declaration.DeclarationParts.{DeclarationParts}
use Rattle.sheet_types.specs.declared.rule.Rule.{Rule}
use Rattle.sheet_types.specs.declared.selector_place.SelectorPlace.{SelectorPlace}
use Rattle.shorthand_text.specs.declared.longhand.Longhand.{Longhand}
use Rattle.shorthand_text.specs.declared.longhand.Longhand.TheVariants as given
use Rattle.cascade_sort.specs.declared.precedence.Precedence.{Precedence}
use Rattle.cascade_sort.specs.Applying.{Applied, applied_from, joined_from, rules_of}
use Rattle.cascade_sort.specs.Lexicographic.{is_at_most}
use Rattle.cascade_sort.specs.Precedences.{keys_of, of_rule, of_style}
use Rattle.cascade_sort.specs.Winning.{slot_of}

-- ---- what is kept

-- the precedence of the strongest declaration so far, by slot
abbrev pub Slots : Type 0
Slots = List (Option Precedence)

-- no declaration yet
abbrev pub no_offers : Slots
no_offers = replicate 72 None

-- the second, unless the first is greater
abbrev pub stronger_of : Option Precedence → Precedence → Precedence
stronger_of None p = p
stronger_of (Some best) p = if is_at_most (keys_of best) (keys_of p) then p else best

-- the slot keeps the stronger of two
abbrev pub with_offer : Slots → ℕ → Precedence → Slots
with_offer kept n p = set kept n (Some (stronger_of (slice_index_or kept n None) p))

-- so for each declaration of the list
abbrev pub with_offers : Slots → List Applied → Slots
with_offers kept xs = fold (λ k a. with_offer k (slot_of a) a.precedence) kept xs

-- ---- what is looked at

-- the rule's declarations, where the selector matches
abbrev pub found_by : List Element → ℕ → ℕ → List DeclarationParts → List CompoundSelector → List Applied
found_by chain sheet at ds s = if matches_of s chain then applied_from (of_rule sheet at (specificity_of s)) 0 ds else []

abbrev pub found_in_rule : List Element → ℕ → SelectorPlace → Rule → List Applied
found_in_rule chain sheet place r = option_map_or (found_by chain sheet place.rule r.declarations) (slice_get r.selectors place.selector) []

-- the declarations that the selector at the place finds
abbrev pub found_at : List Element → ℕ → List Rule → SelectorPlace → List Applied
found_at chain sheet rules place = option_map_or (found_in_rule chain sheet place) (slice_get rules place.rule) []

-- those that the candidates under the key find
abbrev pub found_under : List Element → ℕ → List Rule → SelectorKey → List Applied
found_under chain sheet rules key = flat_map (found_at chain sheet rules) (candidates_of key rules)

abbrev pub id_keys : Option (List ℕ) → List SelectorKey
id_keys None = []
id_keys (Some id) = ById id ∷ []

-- the keys of an element
abbrev pub element_keys : Element → List SelectorKey
element_keys e = id_keys e.id ++ (map ByClass e.classes ++ ByType e.tag ∷ ForAny ∷ [])

-- those that are found in a sheet
abbrev pub found_in : List Element → ℕ → Element → List Rule → List Applied
found_in chain sheet e rules = flat_map (found_under chain sheet rules) (element_keys e)

abbrev pub found_in_sheet : List Element → ℕ → Element → Option SheetRules → List Applied
found_in_sheet chain at e None = []
found_in_sheet chain at e (Some s) = found_in chain at e s.rules

-- and in all sheets
abbrev pub found_in_sheets : List Element → Element → List (Option SheetRules) → List Applied
found_in_sheets chain e ss = joined_from (λ at s. found_in_sheet chain at e s) 0 ss

-- all that is found: that of the sheets, and the declarations of the style attribute
abbrev pub all_found : List Element → Element → List (Option SheetRules) → List DeclarationParts → List Applied
all_found chain e sheets style = found_in_sheets chain e sheets ++ applied_from of_style 0 style

-- ---- what a precedence tells

-- the declaration at that place of a sheet's rule
abbrev pub declaration_in_rule : List (Option SheetRules) → Precedence → Option DeclarationParts
declaration_in_rule sheets p =
    option_map_or (λ r. slice_get r.declarations p.declaration) (slice_get (rules_of (slice_index_or sheets p.sheet None)) p.rule) None

-- the declaration of the precedence, which stands in the style attribute or in a rule
abbrev pub declaration_by : List (Option SheetRules) → List DeclarationParts → Precedence → Option DeclarationParts
declaration_by sheets style p = if p.attached then slice_get style p.declaration else declaration_in_rule sheets p

-- ---- what is put together

-- the winners with this one
abbrev pub with_longhand : Declarations → Bool → Longhand → Declarations
with_longhand d important (given.Property p v) = with_declaration d p important v
with_longhand d important (given.List name v) = with_list_declaration d name important v

abbrev pub with_found : Declarations → Option DeclarationParts → Declarations
with_found d None = d
with_found d (Some parts) = with_longhand d parts.important parts.longhand

-- the winners with the one that a slot keeps
abbrev pub with_kept : (Precedence → Option DeclarationParts) → Declarations → Option Precedence → Declarations
with_kept find d None = d
with_kept find d (Some p) = with_found d (find p)

-- all that the slots keep
abbrev pub collected : (Precedence → Option DeclarationParts) → Slots → Declarations
collected find kept = fold (with_kept find) no_declarations kept
