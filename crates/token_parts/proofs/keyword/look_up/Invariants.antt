use Rattle.std.proofs.Common.{◌≡◌, map, drop}
use Rattle.token_parts.specs.Keywords.{look_up}
use Rattle.token_parts.proofs.keyword.look_up.Given as goal

abbrev pub invariant-loop-row : goal.invariant-loop-row
invariant-loop-row g l = look_up (map (λ row. (row.0.now, row.1)) (drop l.row-index l.rows)) l.word ≡ look_up (map (λ row. (row.0.now, row.1)) l.rows) l.word
