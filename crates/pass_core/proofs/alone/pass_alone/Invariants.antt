use Rattle.std.specs.Prelude.{IfSome}
use Rattle.pass_core.specs.InOrder.{IsLast}
use Rattle.pass_core.proofs.alone.pass_alone.Given as goal
use Rattle.pass_core.proofs.Keeping.{Come}

-- the pass has come to the place, and what is remembered came last
abbrev pub invariant-loop-place : goal.invariant-loop-place
invariant-loop-place g l =
    let m = g.W.TreeWork.meaning l.work in
    record {
      come : Come m l.plan.places.items l.initial.closing.items l.place-index l.closing.items l.downs;
      last : IfSome l.last (IsLast m l.closing.items l.downs);
    }
