use Rattle.std.proofs.Common.{◌≡◌, sym, subst, take, ◌+◌, arith}
use Rattle.std.specs.List.{AllZip}
use Rattle.std.proofs.lemmas.List.{length-take-le}
use Rattle.std.proofs.lemmas.Slice.Zip.{AllZip-long}
use Rattle.work_split.specs.Steps.{reached, IsStepOf}
use Rattle.work_split.proofs.Pieces.{zipped_more}
use Rattle.work_split.proofs.Putting.{no_seat}
use Rattle.work_split.proofs.steps.steps_of.Goals as goal

pub loop-seat-preserved : goal.loop-seat-preserved
loop-seat-preserved g c =
    let is = IsStepOf (g.W.TreeWork.meaning c.args.work.now) (reached c.args.entries.now c.args.downs.now) in
    subst (AllZip is (take (c.loop-seat.seat-index + 1) c.args.seats.now)) (sym c.in_ok-push.ensures.items)
    (zipped_more is c.args.seats.now c.loop-seat.steps.items c.loop-seat.seat-index no_seat c.in_ok-step.step (omega arith) c.loop-seat.invariant
    (c.in_ok-step.ensures c.args.downs.now (rw c.top-top.ensures at c.handed-down.ensures)))

pub slice_bounds-sibling_of-end : goal.slice_bounds-sibling_of-end
slice_bounds-sibling_of-end g c =
    let zipped = AllZip-long _ _ _ c.loop-seat.invariant in
    let front = length-take-le c.loop-seat.seat-index c.args.seats.now (omega arith) in
    let long = c.loop-seat.steps.ok.0 in
    let asked = c.len.ensures in
    sym (length-take-le c.len.result c.args.seats.now (omega arith))

pub step_of-requires-clause-sibling : goal.step_of-requires-clause-sibling
step_of-requires-clause-sibling g c κs within =
    let m = g.W.TreeWork.meaning c.args.work.now in
    let is = IsStepOf m (reached c.args.entries.now c.args.downs.now) in
    let zipped = AllZip-long _ _ _ c.loop-seat.invariant in
    let front = length-take-le c.loop-seat.seat-index c.args.seats.now (omega arith) in
    let long = c.loop-seat.steps.ok.0 in
    let asked = c.len.ensures in
    let many : c.loop-seat.seat-index ≡ c.len.result = omega arith in
    c.sibling_of-sibling.ensures m c.args.downs.now c.handed-down.result.now
    (rw c.as_slice.ensures.value (subst (λ n. AllZip is (take n c.args.seats.now) c.loop-seat.steps.items) many c.loop-seat.invariant)) (rw c.top-top.ensures at c.handed-down.ensures)
