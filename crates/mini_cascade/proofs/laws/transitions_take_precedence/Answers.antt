use Rattle.mini_cascade.proofs.CascadeLemmas.{style-on_top}
use Rattle.mini_cascade.proofs.laws.transitions_take_precedence.Goals as goal

pub returns : goal.returns
returns c = style-on_top
