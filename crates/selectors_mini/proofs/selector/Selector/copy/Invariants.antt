use Rattle.std.proofs.Common.{◌≡◌, take}
use Rattle.selectors_mini.proofs.selector.Selector.copy.Given as goal

abbrev pub invariant-loop-compound : goal.invariant-loop-compound
invariant-loop-compound l = l.compounds.items ≡ take l.compound-index l.compound-items
