use Rattle.std.proofs.Common.{◌≡◌, take}
use Rattle.selectors_mini.proofs.ident.copy_idents.Given as goal

abbrev pub invariant-loop-ident : goal.invariant-loop-ident
invariant-loop-ident l = l.copy.items ≡ take l.ident-index l.idents
