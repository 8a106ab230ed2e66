-- The declarations that apply to an element (CSS Cascade 5, section 4.1, "Declared Values").
use Rattle.std.specs.Prelude.{◌≡◌, ℕ, ◌+◌, Bool, List, [], ◌∷◌, ◌++◌, All, Contains, IsTrue, filter, map, Option, None, Some, Result, Ok, Err}
use Rattle.std.specs.Option.{option_map_or}
use Rattle.doc_tree.specs.Element.{Element, element_of, inclusive_ancestors}
use Rattle.selectors_mini.specs.Compounds.{CompoundSelector, specificity_of}
use Rattle.selectors_mini.specs.Matching.{Matches, matches_of}
use Rattle.sheet_rules.specs.Rules.{declarations_in}
use Rattle.sheet_rules.specs.declared.fault.CssFault.{CssFault}
use Rattle.sheet_types.specs.Sheets.{SheetRules}
use Rattle.sheet_types.specs.declared.declaration.DeclarationParts.{DeclarationParts}
use Rattle.sheet_types.specs.declared.rule.Rule.{Rule}
use Rattle.shorthand_text.specs.declared.longhand.Longhand.{Longhand}
use Rattle.cascade_sort.specs.declared.precedence.Precedence.{Precedence}
use Rattle.cascade_sort.specs.Lexicographic.{greatest_by, is_at_most}
use Rattle.cascade_sort.specs.Precedences.{Specificity, of_declaration, of_rule, of_style, specificity_keys}

-- a declaration that applies to an element, with its precedence
pub record Applied : Type 0 where
  pub longhand : Longhand
  pub important : Bool
  pub precedence : Precedence

abbrev pub applied : DeclarationParts → Precedence → Applied
applied d p = record { longhand = d.longhand; important = d.important; precedence = p }

-- the declarations of a block from the place on, which differ in their places alone
abbrev pub applied_from : Precedence → ℕ → List DeclarationParts → List Applied
applied_from block at [] = []
applied_from block at (d ∷ ds) = applied d (of_declaration block at) ∷ applied_from block (at + 1) ds

-- ---- rules

-- the greatest specificity of those selectors that match the first element of the chain; none where none matches
abbrev pub matched_specificity : List Element → List (List CompoundSelector) → Option Specificity
matched_specificity chain selectors = greatest_by specificity_keys (map specificity_of (filter (λ s. matches_of s chain) selectors))

-- the same by what it is: that of a selector that matches, and no selector that matches has a greater one
pub record IsRuleSpecificity (chain : List Element) (selectors : List (List CompoundSelector)) (g : Specificity) : Type 0 where
  pub selector : List CompoundSelector
  pub among : Contains selectors selector
  pub matches : Matches selector chain
  pub counts : specificity_of selector ≡ g
  pub most : All (λ s. Matches s chain → IsTrue (is_at_most (specificity_keys (specificity_of s)) (specificity_keys g))) selectors

-- the declarations of a rule, where one of its selectors matches
abbrev pub applied_in_rule : List Element → ℕ → ℕ → Rule → List Applied
applied_in_rule chain sheet at r =
    option_map_or (λ s. applied_from (of_rule sheet at s) 0 r.declarations) (matched_specificity chain r.selectors) []

-- what the items give, with their indexes from the number on
abbrev pub joined_from : {A B : Type 0} → (ℕ → A → List B) → ℕ → List A → List B
joined_from give at [] = []
joined_from give at (x ∷ xs) = give at x ++ joined_from give (at + 1) xs

-- those of the rules of a sheet
abbrev pub applied_in_rules : List Element → ℕ → List Rule → List Applied
applied_in_rules chain sheet rs = joined_from (applied_in_rule chain sheet) 0 rs

-- the style rules of a sheet, where there is one
abbrev pub rules_of : Option SheetRules → List Rule
rules_of None = []
rules_of (Some s) = s.rules

-- those of all sheets
abbrev pub applied_in_sheets : List Element → List (Option SheetRules) → List Applied
applied_in_sheets chain ss = joined_from (λ k s. applied_in_rules chain k (rules_of s)) 0 ss

-- ---- the style attribute

abbrev pub read_or_none : Result (List DeclarationParts) CssFault → List DeclarationParts
read_or_none (Ok declared) = declared
read_or_none (Err fault) = []

-- the declarations of a style attribute; none where its text has a fault
unfoldable pub style_declarations : List ℕ → List DeclarationParts
style_declarations text = read_or_none (declarations_in text)

-- the style text of element n
abbrev pub style_text : List Element → ℕ → List ℕ
style_text es n = option_map_or (λ e. e.style) (element_of n es) []

-- ---- both

-- all declarations that apply to element n, in the order in which they stand
abbrev pub applied_to : List (Option SheetRules) → List Element → ℕ → List Applied
applied_to sheets es n =
    applied_in_sheets (inclusive_ancestors es n) sheets ++ applied_from of_style 0 (style_declarations (style_text es n))
