use Rattle.mini_cascade.proofs.CascadeLemmas.{style-animated}
use Rattle.mini_cascade.proofs.laws.animations_count_by_their_values.Goals as goal

pub returns : goal.returns
returns c = style-animated
