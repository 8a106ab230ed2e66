use Rattle.std.proofs.Common.{◌≡◌, drop}
use Rattle.std.specs.Prelude.{option_copied}
use Rattle.sheet_types.specs.Sheets.{keyframes_from, keyframes_in}
use Rattle.sheet_types.proofs.sheets.Sheets.keyframes_named.Given as goal

-- from the rule so far the sheets that are left give that of all
abbrev pub invariant-loop-sheet : goal.invariant-loop-sheet
invariant-loop-sheet l = keyframes_from l.name (option_copied l.found) (drop l.sheet-index l.self) ≡ keyframes_in l.name l.self
