use Rattle.animation_names.proofs.Unchanged.{kept_start}
use Rattle.animation_names.proofs.laws.start_is_kept.Goals as goal

pub returns : goal.returns
returns c = kept_start
