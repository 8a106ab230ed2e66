use Rattle.std.proofs.Common.{◌≡◌, map, take}
use Rattle.restyle.proofs.edit.words_of.Given as goal

-- the texts of the names so far
abbrev pub invariant-loop-name : goal.invariant-loop-name
invariant-loop-name l = map (λ word. word.now) l.words.items ≡ take l.name-index l.names
