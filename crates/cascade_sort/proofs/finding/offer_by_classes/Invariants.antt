use Rattle.std.proofs.Common.{◌≡◌, drop, map}
use Rattle.std.specs.Prelude.{flat_map}
use Rattle.std.specs.String.{string_bytes}
use Rattle.doc_tree.specs.Element.{inclusive_ancestors}
use Rattle.sheet_types.specs.Candidates.{ByClass}
use Rattle.cascade_sort.specs.Finding.{found_under, with_offers}
use Rattle.cascade_sort.proofs.finding.offer_by_classes.Given as goal

-- with the classes that are left it comes to what all come to
abbrev pub invariant-loop-class : goal.invariant-loop-class
invariant-loop-class l =
    with_offers l.strongest (flat_map (found_under (inclusive_ancestors l.tree.elements l.n) l.at l.sheet.rules) (map ByClass (map string_bytes (drop l.class-index l.classes))))
    ≡ with_offers l.initial.strongest (flat_map (found_under (inclusive_ancestors l.tree.elements l.n) l.at l.sheet.rules) (map ByClass (map string_bytes l.classes)))
