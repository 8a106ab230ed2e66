use Rattle.change_styles.proofs.OnTop.{current-on_top}
use Rattle.change_styles.proofs.laws.transitions_lie_on_top.Goals as goal

pub returns : goal.returns
returns c = current-on_top
