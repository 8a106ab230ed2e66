use Rattle.std.proofs.Common.{◌≡◌, map, take}
use Rattle.doc_tree.specs.Element.{numbers_of}
use Rattle.restyle.proofs.entries.are_those_of.Given as goal

-- so far each entry is that of its element
abbrev pub invariant-loop-at : goal.invariant-loop-at
invariant-loop-at l = map (λ x. x.0) (take l.at l.list) ≡ numbers_of (take l.at l.tree.elements)
