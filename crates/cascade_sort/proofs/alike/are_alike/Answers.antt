use Rattle.std.proofs.Common.{◌≡◌, ◌∙◌, false, sym, subst}
use Rattle.std.specs.Bool.{Decides}
use Rattle.std.specs.Option.{option_map_or}
use Rattle.cascade_sort.specs.Alike.{AreSiblingsAlike, are_alike, are_siblings_alike}
use Rattle.cascade_sort.proofs.Siblings.{siblings_tested}
use Rattle.cascade_sort.proofs.alike.are_alike.Goals as goal

pub returns-clause-alike : goal.returns-clause-alike
returns-clause-alike c =
    let value : c.have_same_parts.result ≡ are_siblings_alike c.args.n c.args.m c.args.tree.now.elements =
    c.have_same_parts.ensures ∙ (λ i. option_map_or (λ e. option_map_or (are_alike e) (c.in-Some-element.ensures.value i) false) (c.in-Some.ensures.value i) false) in
    subst (λ b. Decides b (AreSiblingsAlike c.args.n c.args.m c.args.tree.now.elements)) (sym value) (siblings_tested c.args.n c.args.m c.args.tree.now.elements)
