use Rattle.std.proofs.Common.{◌≡◌, drop}
use Rattle.std.specs.Prelude.{flat_map}
use Rattle.doc_tree.specs.Element.{inclusive_ancestors}
use Rattle.cascade_sort.specs.Finding.{found_at, with_offers}
use Rattle.cascade_sort.proofs.finding.offer_all.Given as goal

-- with the candidates that are left it comes to what all come to
abbrev pub invariant-loop-place : goal.invariant-loop-place
invariant-loop-place l =
    with_offers l.strongest (flat_map (found_at (inclusive_ancestors l.tree.elements l.n) l.sheet l.rules) (drop l.place-index l.places))
    ≡ with_offers l.initial.strongest (flat_map (found_at (inclusive_ancestors l.tree.elements l.n) l.sheet l.rules) l.places)
