use Rattle.std.proofs.Common.{take}
use Rattle.std.specs.List.{AllZip}
use Rattle.work_split.specs.Steps.{reached, IsStepOf}
use Rattle.work_split.proofs.steps.steps_of.Given as goal

-- the outcomes of the seats so far
abbrev pub invariant-loop-seat : goal.invariant-loop-seat
invariant-loop-seat g l = AllZip (IsStepOf (g.W.TreeWork.meaning l.work) (reached l.entries l.downs)) (take l.seat-index l.seats) l.steps.items
