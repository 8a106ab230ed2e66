use Rattle.std.proofs.Common.{◌≡◌, drop}
use Rattle.std.specs.Prelude.{fold}
use Rattle.cascade_sort.specs.Finding.{collected, declaration_by, with_kept}
use Rattle.cascade_sort.proofs.winners.collected.Given as goal

-- with the slots that are left it comes to what all come to
abbrev pub invariant-loop-slot : goal.invariant-loop-slot
invariant-loop-slot l =
    fold (with_kept (declaration_by l.sheets l.style)) l.winning (drop l.slot-index l.strongest) ≡ collected (declaration_by l.sheets l.style) l.strongest
