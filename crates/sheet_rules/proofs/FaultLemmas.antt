-- Faults that are handed on.
use Rattle.std.proofs.Common.{◌≡◌}
use Rattle.std.specs.Prelude.{Result, Err}
use Rattle.sheet_rules.specs.declared.fault.CssFault.{CssFault}
use Rattle.sheet_rules.specs.declared.fault.CssFault.TheVariants.{BadToken, UnsupportedRule, UnsupportedValue, Bound, NoMemory}
use Rattle.sheet_rules.specs.Faults.{Fails}

-- a fault of a part is that of the whole
pub fault_passes : {Y W : Type 0} (fault : CssFault) (a : Result Y CssFault) (b : Result W CssFault)
    → ((e : CssFault) → a ≡ Err e → b ≡ Err e) → Fails fault a → Fails fault b
fault_passes NoMemory a b passes given = tt
fault_passes (BadToken at) a b passes given = passes (BadToken at) given
fault_passes (UnsupportedRule at) a b passes given = passes (UnsupportedRule at) given
fault_passes (UnsupportedValue name at) a b passes given = passes (UnsupportedValue name at) given
fault_passes (Bound what at) a b passes given = passes (Bound what at) given
