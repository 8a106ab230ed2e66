use Rattle.std.proofs.Common.{◌≡◌, ◌≤◌, ◌-◌, ◌*◌, ◌++◌, length}
use Rattle.std.specs.List.{flat_map}
use Rattle.work_split.proofs.split.pieces_of.Given as goal

-- the pieces so far and then the rest are the seats; each piece takes its length from what is left
abbrev pub invariant-loop-rest : goal.invariant-loop-rest
invariant-loop-rest l = record {
  whole : flat_map (λ piece. piece.now) l.pieces.items ++ l.rest ≡ l.seats;
  left : length l.rest ≡ length l.seats - length l.pieces.items * l.size;
  most : length l.pieces.items ≤ l.most;
}

abbrev pub decreases-loop-rest : goal.decreases-loop-rest
decreases-loop-rest l = length l.rest
