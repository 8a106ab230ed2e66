use Rattle.std.proofs.Common.{is_none}
use Rattle.doc_tree.specs.Marks.{kept_of, document_of}
use Rattle.doc_tree.specs.Fault.{fault_at_depth, fault_of_add}
use Rattle.doc_tree.proofs.Adding.{add-result, answers-by, fault-below}
use Rattle.doc_tree.proofs.add.add_node.Goals as goal

pub returns-clause-sound : goal.returns-clause-sound
returns-clause-sound c =
    (add-result (kept_of c.args.nodes.now) c.requires c.args.n c.args.tag.now (kept_of c.add_at.new.nodes) c.args.parent c.in-Some.place.mark c.in-Some.place.parent c.in-Some.place.depth c.add_at.result c.in-Some.ensures.place c.add_at.ensures.fault c.add_at.ensures.ok c.add_at.ensures.few c.add_at.ensures.err).sound

pub returns-clause-fault : goal.returns-clause-fault
returns-clause-fault c =
    let k = kept_of c.args.nodes.now in
    answers-by k c.requires c.args.n c.args.tag.now (fault_of_add (document_of k) c.args.n c.args.parent) (fault_at_depth (document_of k) c.args.n c.in-Some.place.depth (is_none c.in-Some.place.parent)) c.add_at.result
    (fault-below k c.requires c.args.n c.args.tag.now c.args.parent c.in-Some.place.mark c.in-Some.place.parent c.in-Some.place.depth c.in-Some.ensures.place) c.add_at.ensures.fault

pub returns-clause-ok : goal.returns-clause-ok
returns-clause-ok c =
    (add-result (kept_of c.args.nodes.now) c.requires c.args.n c.args.tag.now (kept_of c.add_at.new.nodes) c.args.parent c.in-Some.place.mark c.in-Some.place.parent c.in-Some.place.depth c.add_at.result c.in-Some.ensures.place c.add_at.ensures.fault c.add_at.ensures.ok c.add_at.ensures.few c.add_at.ensures.err).is
