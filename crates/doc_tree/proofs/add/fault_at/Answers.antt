use Rattle.std.proofs.Common.{inl, inr}
use Rattle.doc_tree.specs.Marks.{kept_of}
use Rattle.doc_tree.proofs.Adding.{fault-nodes, fault-depth, fault-root, fault-none}
use Rattle.doc_tree.proofs.add.fault_at.Goals.{else-is_root-via-then-is_root+else-nodes-gt0, else-is_root-via-else-is_root}
use Rattle.doc_tree.proofs.add.fault_at.Goals as goal

pub returns-then-nodes-gt-MAX_ELEMENTS : goal.returns-then-nodes-gt-MAX_ELEMENTS
returns-then-nodes-gt-MAX_ELEMENTS c = fault-nodes (kept_of c.args.nodes.now) c.requires c.args.n c.args.depth c.args.is_root c.if-is_used.ensures c.if-nodes-gt-MAX_ELEMENTS.true

pub returns-then-depth-gt-MAX_DEPTH : goal.returns-then-depth-gt-MAX_DEPTH
returns-then-depth-gt-MAX_DEPTH c =
    fault-depth (kept_of c.args.nodes.now) c.requires c.args.n c.args.depth c.args.is_root c.if-is_used.ensures c.if-nodes-gt-MAX_ELEMENTS.false c.if-depth-gt-MAX_DEPTH.true

pub returns-then-nodes-gt0 : goal.returns-then-nodes-gt0
returns-then-nodes-gt0 c =
    fault-root (kept_of c.args.nodes.now) c.requires c.args.n c.args.depth c.args.is_root c.if-is_used.ensures c.if-nodes-gt-MAX_ELEMENTS.false c.if-depth-gt-MAX_DEPTH.false c.if-is_root.true c.if-nodes-gt0.true

pub returns : goal.returns
returns c =
    fault-none (kept_of c.args.nodes.now) c.requires c.args.n c.args.depth c.args.is_root c.if-is_used.ensures c.if-nodes-gt-MAX_ELEMENTS.false c.if-depth-gt-MAX_DEPTH.false
    (elim c.else-is_root.branch [ else-is_root-via-then-is_root+else-nodes-gt0 w ↦ inr w.if-nodes-gt0.false | else-is_root-via-else-is_root w ↦ inl w.if-is_root.false ])
