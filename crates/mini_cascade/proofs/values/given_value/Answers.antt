use Rattle.std.proofs.Common.{sym}
use Rattle.value_types.specs.Validity.{IsValid}
use Rattle.computed_style.proofs.Lookups.{found_has}
use Rattle.mini_cascade.proofs.values.given_value.Goals as goal

pub returns-clause-valid : goal.returns-clause-valid
returns-clause-valid c = found_has IsValid c.args.given.now c.args.p c.value_for.result (sym c.value_for.ensures) c.requires
