use Rattle.std.proofs.Common.{◌≡◌, drop}
use Rattle.doc_tree.specs.Element.{inclusive_ancestors}
use Rattle.cascade_sort.specs.Applying.{joined_from}
use Rattle.cascade_sort.specs.Finding.{found_in_sheet, found_in_sheets, with_offers}
use Rattle.cascade_sort.proofs.finding.offer_sheets.Given as goal

-- with the sheets that are left it comes to what all come to
abbrev pub invariant-loop-at : goal.invariant-loop-at
invariant-loop-at l =
    with_offers l.strongest (joined_from (λ k s. found_in_sheet (inclusive_ancestors l.tree.elements l.n) k l.element s) l.at (drop l.at l.sheets))
    ≡ with_offers l.initial.strongest (found_in_sheets (inclusive_ancestors l.tree.elements l.n) l.element l.sheets)
