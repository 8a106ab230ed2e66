use Rattle.value_types.specs.Ranges.{IsSize}
use Rattle.computed_value.proofs.Validity.{em_size_is, resolved_valid}
use Rattle.computed_value.proofs.computed.absolute.Goals as goal

pub returns-clause-valid : goal.returns-clause-valid
returns-clause-valid c =
    let em : IsSize c.em_size.result = rw c.em_size.ensures (em_size_is c.args.p c.args.parent_size c.args.own_size c.requires.parent c.requires.own) in
    rw c.resolve.ensures (resolved_valid c.args.p c.em_size.result c.args.root_size c.args.d.now em c.requires.root c.requires.specified c.requires.declared)
