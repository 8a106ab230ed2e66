use Rattle.std.proofs.Common.{◌≡◌, sym, subst}
use Rattle.sheet_rules.specs.declared.fault.CssFault.TheVariants.{BadToken}
use Rattle.sheet_rules.specs.Pairing.{IsUnpaired}
use Rattle.sheet_rules.proofs.Pairs.{counted_is_value, told_is_unpaired, unpaired_is_told, value_is_counted}
use Rattle.sheet_rules.proofs.laws.values_pair.Goals as goal

pub returns-clause-value : goal.returns-clause-value
returns-clause-value c = λ end ts n. (value_is_counted end ts n, counted_is_value end ts n)

pub returns-clause-fault : goal.returns-clause-fault
returns-clause-fault c = λ end ts at. (
  (λ h. unpaired_is_told end h),
  (λ e.
      let told = told_is_unpaired end ts (BadToken at) e in
      let same : at ≡ told.0 = (let is = told.1 in cc) in
      subst (IsUnpaired end ts) (sym same) told.2),
)
