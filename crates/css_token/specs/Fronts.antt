-- What stands at the front of a text, as functions: how long each construct is there, 0 where there is none, and which
-- piece it makes. CSS Syntax Level 3, section 4.3, in its order. The laws tie them to the productions.
use Rattle.std.specs.Prelude.{ℕ, ◌+◌, ◌&&◌, ◌==◌, List, [], ◌∷◌, length, slice_index, drop, nat_lt, if◌then◌else◌}
use Rattle.std.specs.List.{prefix_len}
use Rattle.std.specs.Char.{is_ascii_digit, is_ascii_whitespace}
use Rattle.css_token.specs.Characters.{is_name, is_sign, is_quote, is_text, is_url, is_delim}
use Rattle.css_token.specs.Productions.{begins_identifier, begins_comment, begins_url}
use Rattle.css_token.specs.declared.token.Kind.{Kind}
use Rattle.css_token.specs.declared.token.Kind.TheVariants.{Space, Ident, Function, AtWord, Hash, Text, Url, Number, Percent, Dimension, Colon, Semicolon, Comma, RoundOpen, RoundClose, SquareOpen, SquareClose, CurlyOpen, CurlyClose, Delim}
use Rattle.css_token.specs.declared.pieces.Piece.{Piece}
use Rattle.css_token.specs.declared.pieces.Piece.TheVariants.{Token, Comment, Bad}

-- the length of the identifier (4.3.11)
unfoldable pub identifier_len : List ℕ → ℕ
identifier_len bs = if begins_identifier bs then prefix_len is_name bs else 0

-- the length of a point and the digits after it
unfoldable pub fraction_len : List ℕ → ℕ
fraction_len bs =
    if slice_index bs 0 == 46 && is_ascii_digit (slice_index bs 1) then 1 + prefix_len is_ascii_digit (drop 1 bs)
    else 0

-- the length of digits and a fraction
unfoldable pub unsigned_len : List ℕ → ℕ
unsigned_len bs = prefix_len is_ascii_digit bs + fraction_len (drop (prefix_len is_ascii_digit bs) bs)

-- the length of the number (4.3.12)
unfoldable pub number_len : List ℕ → ℕ
number_len bs =
    if is_sign (slice_index bs 0) then (if unsigned_len (drop 1 bs) == 0 then 0 else 1 + unsigned_len (drop 1 bs))
    else unsigned_len bs

-- the length of a text after its first quote, with the last one (4.3.5)
unfoldable pub text_len : ℕ → List ℕ → ℕ
text_len quote bs =
    let inside = prefix_len (is_text quote) bs in
    if slice_index bs inside == quote then inside + 1 else 0

-- the length of a url after the spaces that follow `url(`, with its `)` (4.3.6)
unfoldable pub url_rest_len : List ℕ → ℕ
url_rest_len bs =
    let inside = prefix_len is_url bs in
    let spaces = prefix_len is_ascii_whitespace (drop inside bs) in
    if slice_index bs (inside + spaces) == 41 then inside + spaces + 1 else 0

-- the length of a url after `url(`
unfoldable pub url_len : List ℕ → ℕ
url_len bs =
    let spaces = prefix_len is_ascii_whitespace bs in
    if url_rest_len (drop spaces bs) == 0 then 0 else spaces + url_rest_len (drop spaces bs)

-- the length of what stands before the first `*/`: of all where there is none
abbrev pub unclosed_len : List ℕ → ℕ
unclosed_len [] = 0
unclosed_len (b ∷ bs) = if b == 42 && slice_index bs 0 == 47 then 0 else 1 + unclosed_len bs

-- the length of a comment after its `/*`, with its `*/` (4.3.2)
unfoldable pub comment_len : List ℕ → ℕ
comment_len bs = if nat_lt (unclosed_len bs) (length bs) then unclosed_len bs + 2 else 0

-- a token whose rest after its opening has this length, or a bad one where that is 0
unfoldable pub closed_piece : Kind → ℕ → ℕ → Piece
closed_piece kind opening len = if len == 0 then Bad else Token kind (opening + len)

-- a character that stands alone
unfoldable pub lone_piece : ℕ → Piece
lone_piece b =
    if b == 58 then Token Colon 1
    else (if b == 59 then Token Semicolon 1
    else (if b == 44 then Token Comma 1
    else (if b == 40 then Token RoundOpen 1
    else (if b == 41 then Token RoundClose 1
    else (if b == 91 then Token SquareOpen 1
    else (if b == 93 then Token SquareClose 1
    else (if b == 123 then Token CurlyOpen 1
    else (if b == 125 then Token CurlyClose 1
    else (if is_delim b then Token Delim 1
    else Bad)))))))))

-- a number of this length, a percent or a dimension (4.3.3)
unfoldable pub numeric_piece : ℕ → ℕ → List ℕ → Piece
numeric_piece at len bs =
    if slice_index bs len == 37 then Token Percent (len + 1)
    else (if identifier_len (drop len bs) == 0 then Token Number len
    else Token (Dimension (at + len)) (len + identifier_len (drop len bs)))

-- an identifier, a function or a url (4.3.4)
unfoldable pub name_piece : List ℕ → Piece
name_piece bs =
    if begins_url bs then closed_piece Url 4 (url_len (drop 4 bs))
    else (if slice_index bs (identifier_len bs) == 40 then Token Function (identifier_len bs + 1)
    else Token Ident (identifier_len bs))

-- a hash, an at-word or a character that stands alone
unfoldable pub mark_piece : List ℕ → Piece
mark_piece bs =
    if slice_index bs 0 == 35 && is_name (slice_index bs 1) then Token Hash (1 + prefix_len is_name (drop 1 bs))
    else (if slice_index bs 0 == 64 && begins_identifier (drop 1 bs) then Token AtWord (1 + identifier_len (drop 1 bs))
    else lone_piece (slice_index bs 0))

-- the piece at the front of a text that begins at `at` (4.3.1)
unfoldable pub piece_at : ℕ → List ℕ → Piece
piece_at at bs =
    let comment = comment_len (drop 2 bs) in
    if is_ascii_whitespace (slice_index bs 0) then Token Space (prefix_len is_ascii_whitespace bs)
    else (if is_quote (slice_index bs 0) then closed_piece Text 1 (text_len (slice_index bs 0) (drop 1 bs))
    else (if begins_comment bs then (if comment == 0 then Bad else Comment (2 + comment))
    else (if nat_lt 0 (number_len bs) then numeric_piece at (number_len bs) bs
    else (if begins_identifier bs then name_piece bs
    else mark_piece bs))))
