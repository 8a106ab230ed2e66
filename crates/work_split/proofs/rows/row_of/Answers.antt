use Rattle.std.proofs.Common.{refl}
use Rattle.work_split.proofs.RowLists.{row_behind, row_wrapped}
use Rattle.work_split.proofs.rows.row_of.Goals as goal

pub returns-in-Some-clause-here : goal.returns-in-Some-clause-here
returns-in-Some-clause-here g c =
    row_behind (λ x. x.0) c.args.element c.args.entries.now c.args.from c.in-Some.index _ refl (rw c.split_at.ensures.back at c.in-Some.ensures.some)

pub returns-in-None-clause-here : goal.returns-in-None-clause-here
returns-in-None-clause-here g c =
    row_wrapped c.args.entries.now c.args.from c.args.element c.unwrap_or.result c.position-in-None.result c.requires.there
    (rw c.split_at.ensures.back at (c.in-None.ensures.none refl)) (rw c.split_at.ensures.front at c.position-in-None.ensures.some)
    (rw c.split_at.ensures.front at c.position-in-None.ensures.none) c.unwrap_or.ensures
