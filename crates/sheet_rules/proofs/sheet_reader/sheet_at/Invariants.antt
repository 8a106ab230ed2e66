use Rattle.sheet_types.specs.Sheets.{sheet_rules}
use Rattle.sheet_rules.proofs.SheetLemmas.{IsReading}
use Rattle.sheet_rules.proofs.sheet_reader.sheet_at.Given as goal

abbrev pub invariant-rules : goal.invariant-rules
invariant-rules l = IsReading l.text (sheet_rules l.initial.rules.items l.initial.keyframes.items) l.tokens l.left (sheet_rules l.rules.items l.keyframes.items) l.rest

-- each rule is one of those that may come
abbrev pub decreases-rules : goal.decreases-rules
decreases-rules l = l.left
