use Rattle.std.proofs.Common.{◌≡◌, map, take}
use Rattle.style_data.specs.Entries.{fresh_entry}
use Rattle.restyle.proofs.frame.fresh_entries.Given as goal

-- the fresh entries of the elements so far
abbrev pub invariant-loop-at : goal.invariant-loop-at
invariant-loop-at l = l.entries.items ≡ map (λ e. (e.number, fresh_entry)) (take l.at l.tree.elements)
