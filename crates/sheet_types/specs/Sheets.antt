-- Sheets as they are kept (CSS Syntax 3, "stylesheet"), and those of a document.
use Rattle.std.specs.Prelude.{ℕ, ◌-◌, List, [], find, fold, replicate, reverse, slice_index_or, Option, None, Some}
use Rattle.std.specs.Option.{option_or}
use Rattle.std.specs.Str.{bytes_eq}
use Rattle.sheet_types.specs.declared.rule.KeyframesRule.{KeyframesRule}
use Rattle.sheet_types.specs.declared.rule.Rule.{Rule}

-- the rules of a sheet
pub record SheetRules : Type 0 where
  pub rules : List Rule
  pub keyframes : List KeyframesRule

abbrev pub sheet_rules : List Rule → List KeyframesRule → SheetRules
sheet_rules rules keyframes = record { rules = rules; keyframes = keyframes }

abbrev pub no_rules : SheetRules
no_rules = record { rules = []; keyframes = [] }

-- no sheet at any of the 16 places
abbrev pub no_sheets : List (Option SheetRules)
no_sheets = replicate 16 None

-- the sheet at a place from 1
abbrev pub sheet_at_place : List (Option SheetRules) → ℕ → Option SheetRules
sheet_at_place sheets k = slice_index_or sheets (k - 1) None

-- the last keyframes rule of the name (CSS Animations 1, section 3, "if multiple @keyframes rules are defined with the same
-- name")
abbrev pub keyframes_named : List ℕ → List KeyframesRule → Option KeyframesRule
keyframes_named name rules = find (λ rule. bytes_eq rule.name name) (reverse rules)

-- that of a later sheet, where it has one
abbrev pub later_keyframes : List ℕ → Option KeyframesRule → Option SheetRules → Option KeyframesRule
later_keyframes name found None = found
later_keyframes name found (Some sheet) = option_or (keyframes_named name sheet.keyframes) found

abbrev pub keyframes_from : List ℕ → Option KeyframesRule → List (Option SheetRules) → Option KeyframesRule
keyframes_from name found sheets = fold (later_keyframes name) found sheets

-- the last keyframes rule of the name, by sheet and by place in it
abbrev pub keyframes_in : List ℕ → List (Option SheetRules) → Option KeyframesRule
keyframes_in name sheets = keyframes_from name None sheets
