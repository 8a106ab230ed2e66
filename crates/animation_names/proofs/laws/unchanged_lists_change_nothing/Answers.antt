use Rattle.animation_names.proofs.Unchanged.{left_of_lists, none_gone, same_animations}
use Rattle.animation_names.proofs.laws.unchanged_lists_change_nothing.Goals as goal

pub returns-clause-same : goal.returns-clause-same
returns-clause-same c = λ u h. (same_animations u h, none_gone u h)

pub returns-clause-after : goal.returns-clause-after
returns-clause-after c = left_of_lists
