use Rattle.std.proofs.Common.{◌≡◌, ◌++◌, drop}
use Rattle.shorthand_text.specs.Sides.{initial_lists}
use Rattle.shorthand_text.proofs.shorthand.push_initial.Given as goal

abbrev pub invariant-loop-name : goal.invariant-loop-name
invariant-loop-name l = l.list.items ++ initial_lists (drop l.name-index l.names) ≡ l.fn.list.items ++ initial_lists l.names
