-- Numbers as text: base ten in the shortest form, after CSSOM, "Serializing CSS Values".
use Rattle.std.specs.Prelude.{◌≡◌, ◌≢◌, ◌<◌, ◌-◌, length, slice_index, ℕ, zero, suc, ◌+◌, ◌/◌, ◌%◌, ◌^◌, ◌==◌, if◌then◌else◌, ℤ, pos, negsuc, unsigned_abs, List, [], ◌∷◌, ◌++◌, decimal}
use Rattle.fix_num.specs.Decimal.{Decimal, point_and_digits}

-- the digits of r after the point, r being below 10^places, without zeros at the end
abbrev pub fraction_of : ℕ → ℕ → List ℕ
fraction_of zero r = []
fraction_of (suc places) r = (if r == 0 then [] else (48 + r / 10 ^ places) ∷ fraction_of places (r % 10 ^ places))

-- a point and digits, or nothing where r is 0
abbrev pub fraction_text : ℕ → ℕ → List ℕ
fraction_text places r = (if r == 0 then [] else 46 ∷ fraction_of places r)

-- a '-' before a negative number
abbrev pub minus_of : ℤ → List ℕ
minus_of (pos n) = []
minus_of (negsuc n) = 45 ∷ []

-- v units of 10^-places as a decimal: a '-' before a negative one, no zeros at the end, no point where it is whole
unfoldable pub decimal_text : ℕ → ℤ → List ℕ
decimal_text places v = minus_of v ++ decimal (unsigned_abs v / 10 ^ places) ++ fraction_text places (unsigned_abs v % 10 ^ places)

-- the text spells the decimal with no '+', a digit before the point, no zero before another digit, and none at the end of the fraction
pub record IsShortest (text : List ℕ) (d : Decimal) : Type 0 where
  pub spelled : text ≡ (if d.negative then 45 ∷ [] else []) ++ (d.whole ++ point_and_digits d.fraction)
  pub whole : 0 < length d.whole
  pub no_zero_first : slice_index d.whole 0 ≡ 48 → length d.whole ≡ 1
  pub no_zero_last : slice_index d.fraction (length d.fraction - 1) ≢ 48
