use Rattle.animation_names.proofs.RuleLookups.{last_frames, no_frames}
use Rattle.animation_names.proofs.laws.last_rule_counts.Goals as goal

pub returns-clause-none : goal.returns-clause-none
returns-clause-none c = no_frames

pub returns-clause-last : goal.returns-clause-last
returns-clause-last c = last_frames
