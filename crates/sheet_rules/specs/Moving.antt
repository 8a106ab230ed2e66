-- Rules and declarations at other places.
use Rattle.std.specs.Prelude.{ℕ, ◌+◌, ◌++◌, length, map}
use Rattle.sheet_types.specs.declared.declaration.DeclarationParts.{DeclarationParts}
use Rattle.sheet_types.specs.declared.rule.KeyframesRule.{KeyframesRule}
use Rattle.sheet_types.specs.declared.rule.Rule.{Rule}
use Rattle.sheet_types.specs.Sheets.{SheetRules, sheet_rules}

-- how many rules a sheet has, those of keyframes counted
abbrev pub rule_count : SheetRules → ℕ
rule_count sheet = length sheet.rules + length sheet.keyframes

-- so many places later
abbrev pub moved_rule : ℕ → Rule → Rule
moved_rule n r = record r { place = n + r.place }

abbrev pub moved_keyframes : ℕ → KeyframesRule → KeyframesRule
moved_keyframes n r = record r { place = n + r.place }

-- the rules of the first sheet, and then those of the other at the places after them
abbrev pub sheet_after : SheetRules → SheetRules → SheetRules
sheet_after first other =
    sheet_rules (first.rules ++ map (moved_rule (rule_count first)) other.rules)
    (first.keyframes ++ map (moved_keyframes (rule_count first)) other.keyframes)

-- a declaration one place later
abbrev pub moved_declaration : DeclarationParts → DeclarationParts
moved_declaration d = record d { place = d.place + 1 }
