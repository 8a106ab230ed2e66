-- Classes of bytes, after CSS Syntax Level 3, section 4.2. The five spaces are `is_ascii_whitespace`, since the
-- standard's preprocessing makes carriage return and form feed line feeds.
use Rattle.std.specs.Prelude.{ℕ, Bool, ◌&&◌, ◌||◌, not, ◌==◌, nat_le, codes}
use Rattle.std.specs.List.{list_any}
use Rattle.std.specs.Char.{is_ascii_alphabetic, is_ascii_digit, is_ascii_control, is_ascii_graphic}

-- a letter, `_`, or a byte of a character past ASCII
abbrev pub is_name_start : ℕ → Bool
is_name_start b = is_ascii_alphabetic b || b == 95 || nat_le 128 b

-- such a byte, a digit or `-`
abbrev pub is_name : ℕ → Bool
is_name b = is_name_start b || is_ascii_digit b || b == 45

-- `+` or `-`
abbrev pub is_sign : ℕ → Bool
is_sign b = b == 43 || b == 45

-- `"` or `'`
abbrev pub is_quote : ℕ → Bool
is_quote b = b == 34 || b == 39

-- what may stand in a text between two of these quotes: no backslash, no line break, and no control character but tab
abbrev pub is_text : ℕ → ℕ → Bool
is_text quote b = not (b == quote) && not (b == 92) && (not (is_ascii_control b) || b == 9)

-- what may stand in a url: no quote, no parenthesis, no backslash, no space and no control character
abbrev pub is_url : ℕ → Bool
is_url b = (is_ascii_graphic b || nat_le 128 b) && not (is_quote b) && not (b == 40) && not (b == 41) && not (b == 92)

-- the ASCII characters that stand alone and have no kind of their own: all but letters, digits, `_`, the quotes, the
-- backslash, spaces, control characters, `:`, `;`, `,` and the brackets
abbrev pub is_delim : ℕ → Bool
is_delim b = list_any (λ c. c == b) (codes "!#$%&*+-./<=>?@^`|~")
