use Rattle.computed_style.proofs.DeclarationLemmas.{are_declarations, winners_of-declarations_in}
use Rattle.computed_style.proofs.declared_set.Winning.winners.Goals as goal

pub returns-clause-value : goal.returns-clause-value
returns-clause-value c =
    rw (c.declared_for.ensures, c.declared_for-2.ensures, c.as_slice.ensures.value, c.as_slice-2.ensures.value, ← c.self.view_is)
    (rw (winners_of-declarations_in c.self.inside.important.items c.self.inside.normal.items c.self.inside.important_lists.items c.self.inside.normal_lists.items c.args.p))

pub returns-clause-bounds : goal.returns-clause-bounds
returns-clause-bounds c =
    rw (← c.self.view_is)
    (are_declarations c.self.inside.important.items c.self.inside.normal.items c.self.inside.important_lists.items c.self.inside.normal_lists.items c.self.invariant)
