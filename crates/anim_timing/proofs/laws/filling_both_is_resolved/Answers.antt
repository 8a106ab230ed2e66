use Rattle.anim_timing.proofs.PhaseLemmas.{resolved}
use Rattle.anim_timing.proofs.laws.filling_both_is_resolved.Goals as goal

pub returns : goal.returns
returns c = resolved
