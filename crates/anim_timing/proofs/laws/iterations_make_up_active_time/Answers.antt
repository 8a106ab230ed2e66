use Rattle.anim_timing.proofs.IterationLemmas.{makes_up}
use Rattle.anim_timing.proofs.laws.iterations_make_up_active_time.Goals as goal

pub returns : goal.returns
returns c = makes_up
