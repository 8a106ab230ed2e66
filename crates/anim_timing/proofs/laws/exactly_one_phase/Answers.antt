use Rattle.anim_timing.proofs.PhaseLemmas.{in_phase, only_phase}
use Rattle.anim_timing.proofs.laws.exactly_one_phase.Goals as goal

pub returns-clause-one : goal.returns-clause-one
returns-clause-one c = in_phase

pub returns-clause-only : goal.returns-clause-only
returns-clause-only c = only_phase
