use Rattle.animation_names.proofs.Keeping.{only_pairing, pairing, takes_of, updated-lists}
use Rattle.animation_names.proofs.laws.one_pairing.Goals as goal

pub returns-clause-some : goal.returns-clause-some
returns-clause-some c = λ u. (takes_of u, pairing u)

pub returns-clause-only : goal.returns-clause-only
returns-clause-only c = only_pairing

pub returns-clause-lists : goal.returns-clause-lists
returns-clause-lists c = updated-lists
