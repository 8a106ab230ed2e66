use Rattle.std.proofs.Common.{◌≡◌, ◌≢◌, List, [], refl, ap, sym, ◌∙◌}
use Rattle.std.specs.Prelude.{IfOk, OnOk, Result, Ok, Err}
use Rattle.sheet_rules.specs.Faults.{Fails}
use Rattle.sheet_rules.specs.Rules.{declarations_in}
use Rattle.sheet_rules.specs.declared.fault.CssFault.{CssFault}
use Rattle.sheet_rules.specs.declared.fault.CssFault.TheVariants.{BadToken, UnsupportedRule, UnsupportedValue, Bound, NoMemory}
use Rattle.sheet_types.specs.declared.declaration.DeclarationParts.{DeclarationParts}
use Rattle.cascade_sort.specs.Applying.{read_or_none, style_declarations}
use Rattle.cascade_sort.proofs.winners.style_declarations.Goals as goal

pub returns-in-Ok : goal.returns-in-Ok
unfolding style_declarations
returns-in-Ok c = sym (ap read_or_none c.in-Ok.ensures.reading)

-- after a fault other than want of memory there is no declaration
none_read : (fault : CssFault) (wanted : Result (List DeclarationParts) CssFault) → fault ≢ NoMemory → Fails fault wanted → [] ≡ read_or_none wanted
none_read (BadToken at) wanted other is = sym (ap read_or_none is)
none_read (UnsupportedRule at) wanted other is = sym (ap read_or_none is)
none_read (UnsupportedValue name at) wanted other is = sym (ap read_or_none is)
none_read (Bound what at) wanted other is = sym (ap read_or_none is)
none_read NoMemory wanted other is = absurd (other refl)

read_none : {V E : Type 0} (items : V → List DeclarationParts) (r : Result V E) (fault : CssFault) (wanted : Result (List DeclarationParts) CssFault)
    → IfOk r (λ v. items v ≡ []) → OnOk r (fault ≢ NoMemory) → Fails fault wanted → IfOk r (λ v. items v ≡ read_or_none wanted)
read_none items (Ok v) fault wanted none other is = none ∙ none_read fault wanted other is
read_none items (Err e) fault wanted none other is = tt

pub returns-in-Err : goal.returns-in-Err
unfolding style_declarations
returns-in-Err c = read_none (λ v. v.items) c.none_after.result c.in-Err.fault (declarations_in c.args.text.now) c.none_after.ensures.none c.none_after.ensures.memory c.in-Err.ensures.reading
