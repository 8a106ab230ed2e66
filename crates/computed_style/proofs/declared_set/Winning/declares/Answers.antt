use Rattle.std.proofs.Common.{ap}
use Rattle.std.specs.Prelude.{false, slice_index_or}
use Rattle.computed_style.specs.Winners.{winners_of}
use Rattle.computed_style.proofs.DeclarationLemmas.{not_declared, told}
use Rattle.computed_style.proofs.declared_set.Winning.declares.Goals as goal

pub returns-clause-value : goal.returns-clause-value
returns-clause-value c =
    rw (← c.self.view_is)
    (told (slice_index_or c.self.inside.declares c.number.result false) c.self.inside.declares c.self.inside.important.items c.self.inside.normal.items c.self.inside.important_lists.items c.self.inside.normal_lists.items c.args.p c.self.invariant
    (ap (λ n. slice_index_or c.self.inside.declares n false) c.number.ensures.value))

pub returns-clause-none : goal.returns-clause-none
returns-clause-none c =
    not_declared (slice_index_or c.self.inside.declares c.number.result false) (winners_of c.args.self.now c.args.p) (returns-clause-value c)
