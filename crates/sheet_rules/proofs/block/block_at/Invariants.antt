use Rattle.sheet_rules.proofs.BlockLemmas.{IsReading}
use Rattle.sheet_rules.proofs.block.block_at.Given as goal

-- what was declared, and then what the rest declares
abbrev pub invariant-declarations : goal.invariant-declarations
invariant-declarations l = IsReading l.block l.text l.initial.found.items l.tokens l.found.items l.left l.rest

-- each declaration is one of those that may come
abbrev pub decreases-declarations : goal.decreases-declarations
decreases-declarations l = l.left
