use Rattle.std.proofs.Common.{◌≡◌, ◌+◌, drop}
use Rattle.css_token.specs.Fronts.{unclosed_len}
use Rattle.css_token.proofs.lengths.unclosed_len.Given as goal

abbrev pub invariant-loop-place : goal.invariant-loop-place
invariant-loop-place l = l.place + unclosed_len (drop l.place l.bytes) ≡ unclosed_len l.bytes
