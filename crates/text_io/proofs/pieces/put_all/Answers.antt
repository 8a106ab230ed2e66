use Rattle.std.proofs.Common.{ℕ, arith, length-take, length-drop}
use Rattle.text_io.proofs.PieceLemmas.{Appends-piece}
use Rattle.text_io.proofs.pieces.put_all.Goals as goal

pub writes-preserved : goal.writes-preserved
writes-preserved g c =
    let loop = c.writes.invariant in record {
      within = omega (arith, c.in-Ok.ensures.bound, length-take {A = ℕ}, length-drop {A = ℕ});
      held = Appends-piece _ _ _ c.args.bytes.now c.writes.done c.in-Ok.count loop.held c.in-Ok.ensures.bytes;
      faults = omega (arith, loop.faults, c.write.ensures.cause.later);
      empties = omega (arith, loop.empties, c.write.ensures.empty.later);
    }
