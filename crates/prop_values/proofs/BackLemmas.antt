-- Values that are read back, by what their text says.
use Rattle.std.proofs.Common.{◌≡◌, true, List, [], Ok, ap, ◌∙◌, subst}
use Rattle.token_parts.specs.Parts.{TokenPart, token_parts_of}
use Rattle.value_types.specs.declared.declared.Declared.{Declared}
use Rattle.value_types.specs.declared.property.PropertyId.{PropertyId}
use Rattle.value_types.specs.declared.value.Value.{Value}
use Rattle.fix_num.specs.declared.units.Fix.{Fix}
use Rattle.value_text.specs.Reading.{declared_reading}
use Rattle.value_text.specs.Spelling.{IsSpelled, IsValueAnswer}
use Rattle.value_text.proofs.DeclaredLemmas.{spelled_declared}
use Rattle.value_text.proofs.ValueLemmas.{answer_is, reading_is}
use Rattle.value_print.specs.Printed.{serialized_value}
use Rattle.computed_value.specs.Absolute.{IsSpecified, absolute_of}
use Rattle.prop_values.specs.ReadBack.{IsReadBack}
use Rattle.prop_values.proofs.PartLemmas.{whole_text}
use Rattle.prop_values.proofs.SayingLemmas.{Saying}

-- the printed value is read as some declaration, and is that one's computed value
abbrev pub Back : PropertyId → Value → Type 0
Back p v = (d : Declared) × IsReadBack p v d

pub read_is_spelled : (p : PropertyId) (parts : List TokenPart) (d : Declared) → declared_reading p parts ≡ Ok d → IsSpelled true p parts d
read_is_spelled p parts d reads = subst (IsValueAnswer p parts) reads (answer_is p parts (declared_reading p parts) (reading_is p parts))

pub back : (p : PropertyId) (v : Value) (parts : List TokenPart) (d : Declared) → Saying (serialized_value v) parts → declared_reading p parts ≡ Ok d → IsSpecified d
    → ((parent own root : Fix) → absolute_of p d parent own root ≡ v) → Back p v
back p v parts d says reads specified absolute =
    let text = whole_text (serialized_value v) parts (says []) in
    let reading : declared_reading p (token_parts_of (serialized_value v) text.0) ≡ Ok d = ap (declared_reading p) text.2 ∙ reads in
    let spelled : IsSpelled true p (token_parts_of (serialized_value v) text.0) d = read_is_spelled p (token_parts_of (serialized_value v) text.0) d reading in (
      d,
      record {
        read = record { tokens = text.0; are_tokens = text.1; spelled = spelled; reading = reading };
        specified = specified;
        declared = spelled_declared p (token_parts_of (serialized_value v) text.0) d spelled;
        absolute = absolute;
      },
    )
