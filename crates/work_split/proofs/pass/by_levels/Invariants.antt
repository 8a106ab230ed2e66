use Rattle.work_split.specs.Steps.{reached}
use Rattle.work_split.proofs.Standings.{LevelsDone}
use Rattle.work_split.proofs.pass.by_levels.Given as goal

-- the first levels are done
abbrev pub invariant-loop-level : goal.invariant-loop-level
invariant-loop-level g l =
    LevelsDone (g.W.TreeWork.meaning l.work) l.plan.places.items l.initial.closing.items l.level-items l.level-index (reached l.closing.items l.downs.items)
