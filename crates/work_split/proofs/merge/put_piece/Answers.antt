use Rattle.std.proofs.Common.{◌≡◌, ◌<◌, ◌∷◌, [], drop, get_or, length, ap, sym, ◌∙◌, arith}
use Rattle.std.specs.Vec.Iter.{into_iter_items}
use Rattle.work_split.specs.Steps.{put_all, reached}
use Rattle.work_split.proofs.Pieces.{nothing_left}
use Rattle.work_split.proofs.Putting.{no_seat, put-slots, put-rows, put_all-next, put_all-none}
use Rattle.work_split.proofs.merge.put_piece.Goals as goal

pub loop-step-preserved : goal.loop-step-preserved
loop-step-preserved g c =
    let at = c.loop-step in
    let x = c.in-Some.step in
    let was = reached at.entries.items at.downs.items in
    let steps : into_iter_items at.step-iterator ≡ x ∷ into_iter_items c.next.new.self = c.in-Some.ensures.steps.0 in
    let short = ap length steps in
    let room : at.next < length c.args.level.now =
    let whole = c.requires.within in
    let left = at.invariant.next in
    let all = ap length c.into_iter-step-iterator.ensures.into_iter_gives.0 in
    omega arith in
    record {
      rest =
          put_all-next c.args.level.now at.next no_seat x (into_iter_items c.next.new.self) was (reached c.put.new.entries.items c.put.new.downs.items) room c.put.ensures
          ∙ ap (λ l. put_all (drop at.next c.args.level.now) l was) (sym steps) ∙ at.invariant.rest;
      next = let before = at.invariant.next in omega arith;
      count =
          let before = at.invariant.count in
          let gone = c.in-Some.ensures.steps.1 in
          omega arith;
      rows = ap (λ r. length r.entries) c.put.ensures ∙ put-rows (get_or c.args.level.now at.next no_seat) x was ∙ at.invariant.rows;
      slots = ap (λ r. length r.downs) c.put.ensures ∙ put-slots (get_or c.args.level.now at.next no_seat) x was ∙ at.invariant.slots;
    }

pub returns-clause-value : goal.returns-clause-value
returns-clause-value g c =
    let at = c.loop-step in
    let now = reached at.entries.items at.downs.items in
    let empty : into_iter_items at.step-iterator ≡ [] = nothing_left _ (sym at.invariant.count ∙ c.in-None.ensures.steps.0) in
    sym (put_all-none (drop at.next c.args.level.now) now) ∙ ap (λ l. put_all (drop at.next c.args.level.now) l now) (sym empty) ∙ at.invariant.rest
    ∙ ap (λ l. put_all (drop c.args.from c.args.level.now) l (reached c.args.entries.now.items c.args.downs.now.items)) c.into_iter-step-iterator.ensures.into_iter_gives.0
