use Rattle.std.proofs.Common.{◌∙◌, ◌<◌, sym, ap, ℕ, Some, arith, length}
use Rattle.std.proofs.lemmas.Option.{slice_get_past}
use Rattle.doc_tree.specs.Marks.{kept_of, slots_in}
use Rattle.doc_tree.proofs.Ordering.{len-room, slot-in-order, length-slots, read-order}
use Rattle.doc_tree.proofs.order.slot_at.Goals as goal

pub index-requires-then-place-nodes : goal.index-requires-then-place-nodes
index-requires-then-place-nodes c =
    omega (arith, c.if-place-nodes.true, len-room (kept_of c.args.nodes.now) c.requires)

pub returns-then-place-nodes : goal.returns-then-place-nodes
returns-then-place-nodes c =
    let low : c.args.place < length c.args.nodes.now.order.items = omega (arith, c.if-place-nodes.true, len-room (kept_of c.args.nodes.now) c.requires) in
    sym (slot-in-order (kept_of c.args.nodes.now) c.requires c.args.place c.if-not-nodes.false c.if-place-nodes.true ∙ ap (λ (s : ℕ). Some s) (read-order c.args.nodes.now.order.items c.args.place c.index-then-place-nodes.result.now low c.index-then-place-nodes.ensures))

pub returns-else-place-nodes : goal.returns-else-place-nodes
returns-else-place-nodes c = sym (slice_get_past (slots_in (kept_of c.args.nodes.now)) c.args.place (omega (arith, length-slots (kept_of c.args.nodes.now) c.requires, c.if-place-nodes.false)))
