use Rattle.std.proofs.Common.{◌≡◌, ◌-◌, drop, length, map}
use Rattle.std.specs.Prelude.{All}
use Rattle.token_parts.specs.Parts.{token_part}
use Rattle.sheet_rules.specs.Frames.{IsOffset, offsets_of}
use Rattle.sheet_rules.proofs.OffsetLemmas.{joined}
use Rattle.sheet_rules.proofs.offsets.offsets_of.Given as goal

-- the offsets so far, and then those of the rest
abbrev pub invariant-loop-at : goal.invariant-loop-at
invariant-loop-at l = (joined l.found.items (offsets_of (map token_part (drop l.at l.parts))) ≡ offsets_of (map token_part l.parts)) × All IsOffset l.found.items

abbrev pub decreases-loop-at : goal.decreases-loop-at
decreases-loop-at l = length l.parts - l.at
