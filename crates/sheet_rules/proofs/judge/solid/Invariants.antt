use Rattle.std.proofs.Common.{◌≡◌, take}
use Rattle.sheet_rules.specs.Declarations.{solid}
use Rattle.sheet_rules.proofs.judge.solid.Given as goal

-- those of the tokens so far
abbrev pub invariant-loop-token : goal.invariant-loop-token
invariant-loop-token l = l.found.items ≡ solid (take l.token-index l.tokens)
