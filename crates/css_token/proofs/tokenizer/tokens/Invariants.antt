use Rattle.std.proofs.Common.{◌-◌, length}
use Rattle.css_token.specs.TokenLists.{Reads}
use Rattle.css_token.proofs.tokenizer.tokens.Given as goal

-- what stands before `at` is read
abbrev pub invariant-loop-at : goal.invariant-loop-at
invariant-loop-at l = Reads l.text l.tokens.items l.at

abbrev pub decreases-loop-at : goal.decreases-loop-at
decreases-loop-at l = length l.bytes - l.at
