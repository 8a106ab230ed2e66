use Rattle.std.proofs.Common.{◌≡◌, ◌≤◌, [], drop, length}
use Rattle.sheet_rules.specs.Declarations.{solid}
use Rattle.sheet_rules.proofs.judge.last_solid.Given as goal

-- no solid token stands from there on
abbrev pub invariant-loop-count : goal.invariant-loop-count
invariant-loop-count l = record { within : l.count ≤ length l.tokens; none : solid (drop l.count l.tokens) ≡ [] }

abbrev pub decreases-loop-count : goal.decreases-loop-count
decreases-loop-count l = l.count
