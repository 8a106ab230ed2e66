-- What a token of each kind is, byte by byte, after the railroad diagrams of CSS Syntax Level 3, section 4.1.
use Rattle.std.specs.Prelude.{◌≡◌, ◌≢◌, ℕ, ◌+◌, ◌<◌, Bool, ◌&&◌, ◌||◌, ◌⊎◌, ◌==◌, not, List, [], ◌∷◌, ◌++◌, length, slice_index, drop, map, codes, IsTrue}
use Rattle.std.specs.List.{list_all, prefix_len}
use Rattle.std.specs.Char.{is_ascii_digit, is_ascii_whitespace, to_ascii_lowercase}
use Rattle.css_token.specs.Characters.{is_name_start, is_name, is_sign, is_quote, is_text, is_url, is_delim}
use Rattle.css_token.specs.declared.token.Kind.{Kind}
use Rattle.css_token.specs.declared.token.Kind.TheVariants.{Space, Ident, Function, AtWord, Hash, Text, Url, Number, Percent, Dimension, Colon, Semicolon, Comma, RoundOpen, RoundClose, SquareOpen, SquareClose, CurlyOpen, CurlyClose, Delim}

-- Whether the bytes begin as an identifier does: `--`, or a name-start character with or without a `-` before it
-- (section 4.3.9). Past the end `slice_index` is 0, which is in no class.
abbrev pub begins_identifier : List ℕ → Bool
begins_identifier bs = is_name_start (slice_index bs 0)
    || (slice_index bs 0 == 45 && (slice_index bs 1 == 45 || is_name_start (slice_index bs 1)))

-- one or more bytes, all of the class
abbrev pub IsRun : (ℕ → Bool) → List ℕ → Type 0
IsRun p bs = (0 < length bs) × IsTrue (list_all p bs)

-- an identifier: it begins as one does, and has name characters alone
abbrev pub IsIdentifier : List ℕ → Type 0
IsIdentifier bs = IsTrue (begins_identifier bs) × IsTrue (list_all is_name bs)

-- digits, or a point with digits after it, and digits or nothing before it
abbrev pub IsUnsigned : List ℕ → Type 0
IsUnsigned bs = IsRun is_ascii_digit bs
    ⊎ ((whole fraction : List ℕ) × IsTrue (list_all is_ascii_digit whole) × IsRun is_ascii_digit fraction
    × (bs ≡ whole ++ 46 ∷ fraction))

-- a number: with a sign or none, and without an exponent
abbrev pub IsNumber : List ℕ → Type 0
IsNumber bs = IsUnsigned bs
    ⊎ ((sign : ℕ) × (unsigned : List ℕ) × IsTrue (is_sign sign) × IsUnsigned unsigned × (bs ≡ sign ∷ unsigned))

-- between two equal quotes, what may stand there
abbrev pub IsText : List ℕ → Type 0
IsText bs = (quote : ℕ) × (inside : List ℕ) × IsTrue (is_quote quote) × IsTrue (list_all (is_text quote) inside)
    × (bs ≡ quote ∷ inside ++ quote ∷ [])

-- `url(` in any case, what may stand in a url, with spaces or none at both its ends, and `)`
abbrev pub IsUrl : List ℕ → Type 0
IsUrl bs = (word before inside after : List ℕ) × (map to_ascii_lowercase word ≡ codes "url")
    × IsTrue (list_all is_ascii_whitespace before) × IsTrue (list_all is_url inside)
    × IsTrue (list_all is_ascii_whitespace after)
    × (bs ≡ word ++ 40 ∷ before ++ inside ++ after ++ 41 ∷ [])

-- what a token of a kind is, from the place `at` in the text on
abbrev pub IsLexeme : ℕ → Kind → List ℕ → Type 0
IsLexeme at Space bs = IsRun is_ascii_whitespace bs
IsLexeme at Ident bs = IsIdentifier bs
IsLexeme at Function bs = (name : List ℕ) × IsIdentifier name × (bs ≡ name ++ 40 ∷ [])
IsLexeme at AtWord bs = (name : List ℕ) × IsIdentifier name × (bs ≡ 64 ∷ name)
IsLexeme at Hash bs = (name : List ℕ) × IsRun is_name name × (bs ≡ 35 ∷ name)
IsLexeme at Text bs = IsText bs
IsLexeme at Url bs = IsUrl bs
IsLexeme at Number bs = IsNumber bs
IsLexeme at Percent bs = (number : List ℕ) × IsNumber number × (bs ≡ number ++ 37 ∷ [])
IsLexeme at (Dimension unit) bs = (number name : List ℕ) × IsNumber number × IsIdentifier name × (bs ≡ number ++ name)
    × (unit ≡ at + length number)
IsLexeme at Colon bs = bs ≡ codes ":"
IsLexeme at Semicolon bs = bs ≡ codes ";"
IsLexeme at Comma bs = bs ≡ codes ","
IsLexeme at RoundOpen bs = bs ≡ codes "("
IsLexeme at RoundClose bs = bs ≡ codes ")"
IsLexeme at SquareOpen bs = bs ≡ codes "["
IsLexeme at SquareClose bs = bs ≡ codes "]"
IsLexeme at CurlyOpen bs = bs ≡ codes "{"
IsLexeme at CurlyClose bs = bs ≡ codes "}"
IsLexeme at Delim bs = (b : ℕ) × IsTrue (is_delim b) × (bs ≡ b ∷ [])

-- a comment: from `/*` to the first `*/`
abbrev pub IsComment : List ℕ → Type 0
IsComment bs = (inside : List ℕ) × (bs ≡ 47 ∷ 42 ∷ inside ++ 42 ∷ 47 ∷ [])
    × ((before after : List ℕ) → inside ≢ before ++ 42 ∷ 47 ∷ after)

-- whether a comment begins
abbrev pub begins_comment : List ℕ → Bool
begins_comment bs = slice_index bs 0 == 47 && slice_index bs 1 == 42

-- whether the byte after the spaces is a quote
abbrev pub is_quoted : List ℕ → Bool
is_quoted bs = is_quote (slice_index bs (prefix_len is_ascii_whitespace bs))

-- whether a url begins, and no function of that name: `url(` in any case, and no quote after it, with or without
-- spaces between (section 4.3.4)
abbrev pub begins_url : List ℕ → Bool
begins_url bs = to_ascii_lowercase (slice_index bs 0) == 117 && to_ascii_lowercase (slice_index bs 1) == 114
    && to_ascii_lowercase (slice_index bs 2) == 108 && slice_index bs 3 == 40 && not (is_quoted (drop 4 bs))
