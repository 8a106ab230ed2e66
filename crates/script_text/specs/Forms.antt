-- What a word of a script's line may be: a name, a number, a time, the name of a property.
use Rattle.std.specs.Prelude.{◌≡◌, ℕ, ◌==◌, Bool, false, ◌&&◌, ◌||◌, List, ◌++◌, length, slice_index, nat_lt, IsTrue, if◌then◌else◌, Option, Some, None, codes}
use Rattle.std.specs.List.{list_all}
use Rattle.std.specs.Char.{is_ascii_alphabetic, is_ascii_digit}
use Rattle.std.specs.Str.{bytes_eq}
use Rattle.std.specs.Str.Parse.{digits_value}
use Rattle.fix_num.specs.Digits.{are_digits}
use Rattle.fix_num.specs.Decimal.{Decimal, decimal_of, point_and_digits}

-- an ASCII letter or '_'
abbrev pub may_begin_name : ℕ → Bool
may_begin_name b = is_ascii_alphabetic b || b == 95

-- an ASCII letter, a digit, '-' or '_'
abbrev pub may_stand_in_name : ℕ → Bool
may_stand_in_name b = may_begin_name b || (is_ascii_digit b || b == 45)

-- a tag, an id or a class: it begins with an ASCII letter or '_' and goes on with ASCII letters, digits, '-' and '_'
abbrev pub is_script_name : List ℕ → Bool
is_script_name word = may_begin_name (slice_index word 0) && list_all may_stand_in_name word

-- one ASCII digit or more, and nothing else
abbrev pub is_numeral : List ℕ → Bool
is_numeral word = nat_lt 0 (length word) && are_digits word

-- the digits stand for n
pub record IsNumeral (word : List ℕ) (n : ℕ) : Type 0 where
  pub digits : IsTrue (is_numeral word)
  pub value : digits_value 10 word ≡ n

-- the number of a parent, or '-' where there is none
abbrev pub IsParentWord : List ℕ → Option ℕ → Type 0
IsParentWord word None = word ≡ codes "-"
IsParentWord word (Some n) = IsNumeral word n

-- a time: digits, with a point and digits after it where wanted, and no sign
pub record IsTimeWord (word : List ℕ) (d : Decimal) : Type 0 where
  pub spelled : word ≡ d.whole ++ point_and_digits d.fraction
  pub whole : IsTrue (is_numeral d.whole)
  pub fraction : IsTrue (are_digits d.fraction)
  pub unsigned : d.negative ≡ false

-- ---- the same as functions

abbrev pub is_parent_word : List ℕ → Bool
is_parent_word word = bytes_eq word (codes "-") || is_numeral word

abbrev pub parent_of_word : List ℕ → Option ℕ
parent_of_word word = if bytes_eq word (codes "-") then None else Some (digits_value 10 word)

unfoldable pub time_of_word : List ℕ → Option Decimal
time_of_word word = if is_ascii_digit (slice_index word 0) then decimal_of word else None
