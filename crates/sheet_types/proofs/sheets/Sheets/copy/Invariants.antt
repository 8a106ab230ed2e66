use Rattle.std.proofs.Common.{◌≡◌, ℕ, ◌<◌, length, get_or}
use Rattle.std.specs.Prelude.{None}
use Rattle.sheet_types.proofs.sheets.Sheets.copy.Given as goal

-- the places so far have the sheets
abbrev pub invariant-loop-at : goal.invariant-loop-at
invariant-loop-at l = (length l.copies ≡ 16) × ((k : ℕ) → k < l.at → get_or l.copies k None ≡ get_or l.self k None)
