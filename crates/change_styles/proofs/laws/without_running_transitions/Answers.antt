use Rattle.change_styles.proofs.PathLemmas.{after-without}
use Rattle.change_styles.proofs.laws.without_running_transitions.Goals as goal

pub returns : goal.returns
returns c = after-without
