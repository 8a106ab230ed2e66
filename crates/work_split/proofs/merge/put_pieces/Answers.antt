use Rattle.std.proofs.Common.{◌≡◌, ◌∷◌, drop, length, length-append, ap, sym, ◌∙◌, arith}
use Rattle.std.specs.List.{flat_map}
use Rattle.std.specs.Vec.Iter.{into_iter_items}
use Rattle.work_split.specs.Steps.{put_all, reached}
use Rattle.work_split.proofs.Putting.{no_seat, put_all-piece, put_all-slots, put_all-rows}
use Rattle.work_split.proofs.merge.put_pieces.Goals as goal

pub loop-piece-preserved : goal.loop-piece-preserved
loop-piece-preserved g c =
    let at = c.loop-piece in
    let x = c.in-Some.piece in
    let level = c.args.level.now in
    let was = reached at.entries.items at.downs.items in
    let pieces : into_iter_items at.piece-iterator ≡ x ∷ into_iter_items c.next.new.self = c.in-Some.ensures.steps.0 in
    let short = ap length pieces in
    let parts = ap (λ l. length (flat_map (λ v. v.items) l)) pieces ∙ length-append x.items (flat_map (λ v. v.items) (into_iter_items c.next.new.self)) in
    let after = c.put_piece-next.ensures.next in
    let before = at.invariant.next in
    record {
      rest =
          ap (put_all (drop c.put_piece-next.result level) (flat_map (λ v. v.items) (into_iter_items c.next.new.self))) c.put_piece-next.ensures.value
          ∙ put_all-piece level at.next c.put_piece-next.result x.items (flat_map (λ v. v.items) (into_iter_items c.next.new.self)) was no_seat after (omega arith)
          ∙ ap (λ l. put_all (drop at.next level) (flat_map (λ v. v.items) l) was) (sym pieces) ∙ at.invariant.rest;
      next = omega arith;
      count =
          let many = at.invariant.count in
          let gone = c.in-Some.ensures.steps.1 in
          omega arith;
      rows = ap (λ r. length r.entries) c.put_piece-next.ensures.value ∙ put_all-rows (drop at.next level) x.items was ∙ at.invariant.rows;
      slots = ap (λ r. length r.downs) c.put_piece-next.ensures.value ∙ put_all-slots (drop at.next level) x.items was ∙ at.invariant.slots;
    }
