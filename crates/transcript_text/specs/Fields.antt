-- The fields of a line as the code has them.
use Rattle.std.specs.Prelude.{ℕ, List, decimal}
use Rattle.fix_num.specs.Print.{decimal_text}
use Rattle.transcript_text.specs.Lines.{milliseconds, seconds}
use Rattle.transcript_text.specs.declared.field.Field.{Field}
use Rattle.transcript_text.specs.declared.field.Field.TheVariants as field
use Rattle.value_print.specs.Printed.{serialized_value}

-- the text of a field
abbrev pub field_text : Field → List ℕ
field_text (field.Text text) = text.now
field_text (field.Name name) = name.now
field_text (field.Number n) = decimal n
field_text (field.Seconds t) = seconds t
field_text (field.Millis t) = milliseconds t
field_text (field.Factor f) = decimal_text 9 f.0
field_text (field.Value p v) = serialized_value v
