use Rattle.value_types.specs.ListValues.{IsListValueFor}
use Rattle.computed_style.proofs.DeclarationLemmas.{IfSome-copied, are_declarations, kept_for_list-has, list_winners_of-declarations_in}
use Rattle.computed_style.proofs.declared_set.Winning.list.Goals as goal

pub returns-then-important-clause-value : goal.returns-then-important-clause-value
returns-then-important-clause-value c =
    rw (c.list_for.ensures, c.as_slice.ensures.value, c.if-important.true, ← c.self.view_is)
    (rw (list_winners_of-declarations_in c.self.inside.important.items c.self.inside.normal.items c.self.inside.important_lists.items c.self.inside.normal_lists.items c.args.name))

pub returns-else-important-clause-value : goal.returns-else-important-clause-value
returns-else-important-clause-value c =
    rw (c.list_for-else-important.ensures, c.as_slice-else-important.ensures.value, c.if-important.false, ← c.self.view_is)
    (rw (list_winners_of-declarations_in c.self.inside.important.items c.self.inside.normal.items c.self.inside.important_lists.items c.self.inside.normal_lists.items c.args.name))

pub returns-then-important-clause-bounds : goal.returns-then-important-clause-bounds
returns-then-important-clause-bounds c =
    IfSome-copied c.list_for.result (IsListValueFor c.args.name)
    (rw (c.list_for.ensures, c.as_slice.ensures.value) (kept_for_list-has IsListValueFor c.self.inside.important_lists.items c.args.name c.self.invariant.important_lists))

pub returns-else-important-clause-bounds : goal.returns-else-important-clause-bounds
returns-else-important-clause-bounds c =
    IfSome-copied c.list_for-else-important.result (IsListValueFor c.args.name)
    (rw (c.list_for-else-important.ensures, c.as_slice-else-important.ensures.value) (kept_for_list-has IsListValueFor c.self.inside.normal_lists.items c.args.name c.self.invariant.normal_lists))

pub returns-then-important-clause-all : goal.returns-then-important-clause-all
returns-then-important-clause-all c =
    rw (← c.self.view_is)
    (are_declarations c.self.inside.important.items c.self.inside.normal.items c.self.inside.important_lists.items c.self.inside.normal_lists.items c.self.invariant)

pub returns-else-important-clause-all : goal.returns-else-important-clause-all
returns-else-important-clause-all c =
    rw (← c.self.view_is)
    (are_declarations c.self.inside.important.items c.self.inside.normal.items c.self.inside.important_lists.items c.self.inside.normal_lists.items c.self.invariant)
