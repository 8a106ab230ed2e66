-- Decimals as text, to the nearest number of units.
use Rattle.std.specs.Prelude.{ℕ, Bool, nat_lt, nat_le, if◌then◌else◌, ◌*◌, ◌^◌, ℤ, pos, List, ◌++◌, length, Result, Err, option_map, unwrap_or}
use Rattle.std.specs.Str.Parse.{digits_value}
use Rattle.fix_num.specs.Decimal.{Decimal, IsDecimal, decimal_of, signed_number, number_within}
use Rattle.fix_num.specs.Rounding.{IsNearest, rounded_quotient}
use Rattle.fix_num.specs.declared.decimal.NumFault.{NumFault}
use Rattle.fix_num.specs.declared.decimal.NumFault.TheVariants.{Syntax}

-- the whole number of units of 10^-places nearest to the decimal, with every digit of it
unfoldable pub rounded_units : ℕ → Decimal → ℤ
rounded_units places d = rounded_quotient (signed_number d.negative (digits_value 10 (d.whole ++ d.fraction) * 10 ^ places)) (pos (10 ^ length d.fraction))

-- v is the whole number of units of 10^-places nearest to the decimal that the text spells
abbrev pub StandsNear : ℕ → List ℕ → ℤ → Type 0
StandsNear places text v = (d : Decimal) × IsDecimal text d
    × IsNearest (signed_number d.negative (digits_value 10 (d.whole ++ d.fraction) * 10 ^ places)) (pos (10 ^ length d.fraction)) v

-- that number, unless its size passes the limit
abbrev pub rounded_reading : ℕ → ℕ → Decimal → Result ℤ NumFault
rounded_reading places limit d = number_within limit (rounded_units places d)

-- the number nearest to what the text stands for, in units of 10^-places, or the first fault
unfoldable pub rounded_reading_of : ℕ → ℕ → List ℕ → Result ℤ NumFault
rounded_reading_of places limit text = unwrap_or (option_map (rounded_reading places limit) (decimal_of text)) (Err Syntax)

-- ---- by the digits

-- the digits after the last place are a half of a unit or more, or where the number is negative, more than a half
abbrev pub passes_half : Bool → List ℕ → Bool
passes_half negative rest = (if negative then nat_lt (10 ^ length rest) (2 * digits_value 10 rest) else nat_le (10 ^ length rest) (2 * digits_value 10 rest))
