use Rattle.animation_names.proofs.Counting.{all_counted}
use Rattle.animation_names.proofs.laws.kept_or_gone.Goals as goal

pub returns : goal.returns
returns c = all_counted
