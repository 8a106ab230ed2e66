-- Digits.
use Rattle.std.specs.Prelude.{ℕ, Bool, List}
use Rattle.std.specs.List.{list_all}
use Rattle.std.specs.Char.{is_ascii_digit}

-- '0' to '9' and nothing else
abbrev pub are_digits : List ℕ → Bool
are_digits = list_all is_ascii_digit
