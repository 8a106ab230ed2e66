use Rattle.keyframes.proofs.LawLemmas.{last_wins, others_stay}
use Rattle.keyframes.proofs.laws.last_animation_wins.Goals as goal

pub returns-clause-given : goal.returns-clause-given
returns-clause-given c = last_wins

pub returns-clause-left : goal.returns-clause-left
returns-clause-left c = others_stay
