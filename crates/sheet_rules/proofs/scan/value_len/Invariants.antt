use Rattle.std.proofs.Common.{◌≡◌, [], drop}
use Rattle.std.specs.Prelude.{reverse}
use Rattle.sheet_rules.specs.Scanning.{value_len}
use Rattle.sheet_rules.proofs.ScanLemmas.{counted_from}
use Rattle.sheet_rules.proofs.scan.value_len.Given as goal

-- the tokens so far, and then those of the rest
abbrev pub invariant-loop-i : goal.invariant-loop-i
invariant-loop-i l = counted_from l.i (value_len l.end (reverse l.stack.items) (drop l.i l.tokens)) ≡ value_len l.end [] l.tokens
