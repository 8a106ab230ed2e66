use Rattle.std.proofs.Common.{subst, sym}
use Rattle.std.specs.Prelude.{IfSome}
use Rattle.style_data.specs.Kept.{IsKeptFor}
use Rattle.ticker.proofs.Kept.{still_kept}
use Rattle.ticker.proofs.stays.running_after.Goals as goal

pub returns-in-Some-clause-kept : goal.returns-in-Some-clause-kept
returns-in-Some-clause-kept c =
    subst (λ o. IfSome o (IsKeptFor c.args.p)) (sym c.still_running.ensures) (still_kept c.args.p c.args.t.0 c.in-Some.r c.in-Some.ensures.kept)
