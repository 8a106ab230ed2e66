-- The tokens of a text as a function, for definitions that compute with them. The law `one_reading` ties it to the
-- relation.
use Rattle.std.specs.Prelude.{◌≡◌, ℕ, zero, suc, ◌+◌, List, [], ◌∷◌, length, drop, Result, Ok, Err, ⊤}
use Rattle.std.specs.Global.{Vec}
use Rattle.css_token.specs.Fronts.{piece_at}
use Rattle.css_token.specs.TokenLists.{token}
use Rattle.css_token.specs.declared.token.Token.{Token}
use Rattle.css_token.specs.declared.pieces.Piece.{Piece}
use Rattle.css_token.specs.declared.pieces.Piece.TheVariants.{Token as Whole, Comment, Bad}
use Rattle.css_token.specs.declared.tokenizer.TokenFault.{TokenFault}
use Rattle.css_token.specs.declared.tokenizer.TokenFault.TheVariants.{BadToken, NoMemory}

-- a token before others
abbrev pub with_token : Token → Result (List Token) ℕ → Result (List Token) ℕ
with_token t (Ok tokens) = Ok (t ∷ tokens)
with_token t (Err at) = Err at

-- what a piece at `at` adds to what is read after it
abbrev pub tokens_at_piece : ℕ → Piece → (ℕ → Result (List Token) ℕ) → Result (List Token) ℕ
tokens_at_piece at (Whole kind len) tail = with_token (token kind at (at + len)) (tail len)
tokens_at_piece at (Comment len) tail = tail len
tokens_at_piece at Bad tail = Err at

-- the tokens of a text that begins at `at`, or where its first bad one begins: at most so many pieces
abbrev pub tokens_from : ℕ → ℕ → List ℕ → Result (List Token) ℕ
tokens_from zero at text = Ok []
tokens_from (suc most) at [] = Ok []
tokens_from (suc most) at (b ∷ bs) = tokens_at_piece at (piece_at at (b ∷ bs)) (λ len. tokens_from most (at + len) (drop len (b ∷ bs)))

-- the tokens of a text, or where its first bad one begins
unfoldable pub tokens_of : List ℕ → Result (List Token) ℕ
tokens_of text = tokens_from (length text) 0 text

-- the answer is what the function gives, unless memory runs out
abbrev pub IsReading : List ℕ → Result (Vec Token) TokenFault → Type 0
IsReading text (Ok tokens) = tokens_of text ≡ Ok tokens.items
IsReading text (Err (BadToken at)) = tokens_of text ≡ Err at
IsReading text (Err NoMemory) = ⊤
