use Rattle.std.proofs.Common.{◌≡◌, drop}
use Rattle.cascade_sort.specs.Applying.{applied_from}
use Rattle.cascade_sort.specs.Finding.{with_offers}
use Rattle.cascade_sort.proofs.strongest.Strongest.offer_block.Given as goal

-- with the declarations that are left it comes to what all come to
abbrev pub invariant-loop-at : goal.invariant-loop-at
invariant-loop-at l = with_offers l.self (applied_from l.block l.at (drop l.at l.declarations)) ≡ with_offers l.initial.self (applied_from l.block 0 l.declarations)
