-- What a declaration gives: a value to a property, or to a timing list.
use Rattle.value_types.specs.ListValues.{IsListValueFor}
use Rattle.value_types.specs.Validity.{IsDeclaredFor}
use Rattle.shorthand_text.specs.declared.longhand.Longhand.{Longhand}
use Rattle.shorthand_text.specs.declared.longhand.Longhand.TheVariants as given

-- the value may be declared there
abbrev pub IsLonghand : Longhand → Type 0
IsLonghand (given.Property p d) = IsDeclaredFor p d
IsLonghand (given.List name v) = IsListValueFor name v
