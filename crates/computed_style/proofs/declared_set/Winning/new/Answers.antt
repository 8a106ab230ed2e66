use Rattle.computed_style.proofs.DeclarationLemmas.{none_declared}
use Rattle.computed_style.proofs.declared_set.Winning.new.Goals as goal

pub returns : goal.returns
returns c = rw (c.new.ensures.items, c.new-2.ensures.items, c.new-3.ensures.items, c.new-4.ensures.items) none_declared
