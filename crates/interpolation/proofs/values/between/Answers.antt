use Rattle.interpolation.proofs.ValidityLemmas.{parts_valid}
use Rattle.interpolation.proofs.values.between.Goals as goal

pub by_parts-requires-clause-from : goal.by_parts-requires-clause-from
by_parts-requires-clause-from c = c.beside.ensures.valid c.args.p c.requires.to c.requires.from

pub by_parts-requires-clause-to : goal.by_parts-requires-clause-to
by_parts-requires-clause-to c = c.beside-2.ensures.valid c.args.p c.requires.from c.requires.to

pub returns-clause-valid : goal.returns-clause-valid
returns-clause-valid c =
    rw c.by_parts.ensures
    (parts_valid c.args.p c.beside.result c.beside-2.result c.args.q.0 (c.beside.ensures.valid c.args.p c.requires.to c.requires.from)
    (c.beside-2.ensures.valid c.args.p c.requires.from c.requires.to))
