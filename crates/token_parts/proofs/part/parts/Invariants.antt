use Rattle.std.proofs.Common.{◌≡◌, ◌++◌, map, drop}
use Rattle.token_parts.specs.Parts.{token_parts_of, token_part}
use Rattle.token_parts.proofs.part.parts.Given as goal

abbrev pub invariant-loop-token : goal.invariant-loop-token
invariant-loop-token l = map token_part l.parts.items ++ token_parts_of l.text (drop l.token-index l.tokens) ≡ token_parts_of l.text l.tokens
