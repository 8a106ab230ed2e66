use Rattle.std.proofs.Common.{sym, ap, arith}
use Rattle.doc_tree.specs.Marks.{kept_of, document_of, Kept}
use Rattle.doc_tree.proofs.Adding.{faultless}
use Rattle.doc_tree.proofs.Sound.{length-sound}
use Rattle.doc_tree.proofs.add.add_at.Goals as goal

pub put-requires-clause-small : goal.put-requires-clause-small
put-requires-clause-small c =
    let k = kept_of c.args.nodes.now in
    let fine = faultless (document_of k) c.args.n c.args.place.depth c.is_none.result (sym c.in_default.ensures) in
    omega (arith, fine.room, length-sound k c.requires.sound, ap (λ (z : Kept). z.len) c.make_room.ensures.same)
