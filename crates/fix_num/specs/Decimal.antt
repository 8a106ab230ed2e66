-- Decimals as text, after CSS Values and Units Level 3, "Real Numbers: the <number> type", without exponents.
use Rattle.std.specs.Prelude.{◌≡◌, ◌⊎◌, ℕ, ◌-◌, ◌<◌, ℤ, pos, negsuc, neg_ℤ, unsigned_abs, Bool, true, false, ◌&&◌, ◌==◌, nat_lt, nat_le, if◌then◌else◌, List, [], ◌∷◌, ◌++◌, length, take, drop, replicate, take_while, slice_index, IsTrue, Option, None, Some, Result, Ok, Err, option_map, unwrap_or}
use Rattle.std.specs.List.{list_all}
use Rattle.std.specs.Char.{is_ascii_digit}
use Rattle.std.specs.Str.Parse.{digits_value}
use Rattle.fix_num.specs.Digits.{are_digits}
use Rattle.fix_num.specs.declared.decimal.NumFault.{NumFault}
use Rattle.fix_num.specs.declared.decimal.NumFault.TheVariants.{Syntax, TooFine, TooLarge}

-- the parts of a decimal: whether it is negative, its digits before the point and those after it
pub record Decimal : Type 0 where
  pub negative : Bool
  pub whole : List ℕ
  pub fraction : List ℕ

-- ---- what text spells a decimal

-- a sign is '+', '-' or nothing
abbrev pub IsSign : List ℕ → Bool → Type 0
IsSign [] negative = negative ≡ false
IsSign (c ∷ []) negative = ((c ≡ 43) × (negative ≡ false)) ⊎ ((c ≡ 45) × (negative ≡ true))
IsSign (c ∷ d ∷ cs) negative = ⊥

-- a point and the digits after it, or nothing where there are none
abbrev pub point_and_digits : List ℕ → List ℕ
point_and_digits [] = []
point_and_digits (d ∷ ds) = 46 ∷ d ∷ ds

-- the text is a sign, digits, and a point with digits: those before the point or those after it may be missing
pub record IsDecimal (text : List ℕ) (d : Decimal) : Type 0 where
  pub spelled : (sign : List ℕ) × IsSign sign d.negative × (text ≡ sign ++ (d.whole ++ point_and_digits d.fraction))
  pub whole : IsTrue (are_digits d.whole)
  pub fraction : IsTrue (are_digits d.fraction)
  pub some : 0 < length (d.whole ++ d.fraction)

-- ---- what number it stands for

-- the number of this size and sign
abbrev pub signed_number : Bool → ℕ → ℤ
signed_number negative n = (if negative then neg_ℤ (pos n) else pos n)

-- below 0
abbrev pub is_minus : ℤ → Bool
is_minus (pos n) = false
is_minus (negsuc n) = true

-- how many units of 10^-places the digits give: those after that place don't count, and zeros stand for missing ones
unfoldable pub units_of : ℕ → Decimal → ℕ
units_of places d = digits_value 10 (d.whole ++ take places d.fraction ++ replicate (places - length d.fraction) 48)

-- only zeros stand after that place
abbrev pub is_exact : ℕ → Decimal → Bool
is_exact places d = list_all (λ c. c == 48) (drop places d.fraction)

-- the text stands for v units of 10^-places, and for no part of one
abbrev pub Stands : ℕ → List ℕ → ℤ → Type 0
Stands places text v = (d : Decimal) × IsDecimal text d × IsTrue (is_exact places d) × (v ≡ signed_number d.negative (units_of places d))

-- ---- the same as functions

-- the decimal of these parts
abbrev pub decimal_from : Bool → List ℕ → List ℕ → Decimal
decimal_from negative whole fraction = record { negative = negative; whole = whole; fraction = fraction }

-- the decimal with these digits before the point, where the rest is nothing or a point with digits
abbrev pub with_fraction : Bool → List ℕ → List ℕ → Option Decimal
with_fraction negative whole rest =
    (if length rest == 0
    then (if length whole == 0 then None else Some (decimal_from negative whole []))
    else if slice_index rest 0 == 46 && nat_lt 1 (length rest) && are_digits (drop 1 rest)
    then Some (decimal_from negative whole (drop 1 rest))
    else None)

-- the decimal without a sign that the text is
unfoldable pub unsigned_of : Bool → List ℕ → Option Decimal
unsigned_of negative text =
    let whole = take_while is_ascii_digit text in
    with_fraction negative whole (drop (length whole) text)

-- the decimal that the text is, where it is one
unfoldable pub decimal_of : List ℕ → Option Decimal
decimal_of text =
    (if length text == 0 then None
    else if slice_index text 0 == 45 then unsigned_of true (drop 1 text)
    else if slice_index text 0 == 43 then unsigned_of false (drop 1 text)
    else unsigned_of false text)

-- the number, unless its size passes the limit
abbrev pub number_within : ℕ → ℤ → Result ℤ NumFault
number_within limit v = (if nat_le (unsigned_abs v) limit then Ok v else Err TooLarge)

-- the decimal's number, or the first of the faults that one can have
abbrev pub exact_reading : ℕ → ℕ → Decimal → Result ℤ NumFault
exact_reading places limit d = (if is_exact places d then number_within limit (signed_number d.negative (units_of places d)) else Err TooFine)

-- the number that the text stands for, in units of 10^-places, or the first fault
unfoldable pub reading_of : ℕ → ℕ → List ℕ → Result ℤ NumFault
reading_of places limit text = unwrap_or (option_map (exact_reading places limit) (decimal_of text)) (Err Syntax)
