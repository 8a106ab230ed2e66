use Rattle.std.proofs.Common.{sym, ◌∙◌}
use Rattle.doc_tree.specs.Marks.{kept_of, document_of, IsNodeOf}
use Rattle.doc_tree.proofs.Sound.{if_copied, node-found, read_slot}
use Rattle.doc_tree.proofs.slots.node_of.Goals as goal

pub returns-in-Some-clause-found : goal.returns-in-Some-clause-found
returns-in-Some-clause-found c =
    let k = kept_of c.args.nodes.now in
    let of = c.in-Some.ensures.found in
    let read = read_slot c.args.nodes.now.slots.items c.in-Some.slot c.index.result.now of.within c.index.ensures in
    if_copied c.as_ref.result (IsNodeOf (document_of k) c.args.n) (λ x is. node-found k c.requires c.args.n c.in-Some.slot x of (read ∙ (sym c.as_ref.ensures.value ∙ is)))
