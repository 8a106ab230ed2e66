use Rattle.std.proofs.Common.{◌≡◌, map, take}
use Rattle.restyle.proofs.entries.numbers_in.Given as goal

-- the numbers so far
abbrev pub invariant-loop-entry : goal.invariant-loop-entry
invariant-loop-entry l = l.numbers.keys ≡ take l.entry-index (map (λ x. x.0) l.list)
