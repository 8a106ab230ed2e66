use Rattle.std.proofs.Common.{subst, sym}
use Rattle.std.specs.Prelude.{IfSome}
use Rattle.style_data.specs.Kept.{IsCompletedFor}
use Rattle.ticker.proofs.Kept.{completed_kept}
use Rattle.ticker.proofs.stays.completed_after.Goals as goal

pub returns-in-Some-completed_by-clause-kept : goal.returns-in-Some-completed_by-clause-kept
returns-in-Some-completed_by-clause-kept c =
    subst (λ o. IfSome o (IsCompletedFor c.args.p)) (sym c.in-Some-completed_by.ensures) (completed_kept c.args.p c.args.t.0 c.in-Some.r c.in-Some.ensures.kept)
