-- The tokens of a text: each the longest that may stand in its place, with only comments between them.
use Rattle.std.specs.Prelude.{◌≡◌, ℕ, ◌+◌, ◌<◌, ◌≤◌, false, List, [], ◌∷◌, ◌++◌, length, drop, take, slice_range, IsTrue, Result, Ok, Err, ⊤}
use Rattle.std.specs.Global.{Vec}
use Rattle.css_token.specs.Productions.{IsLexeme, IsComment, begins_comment, begins_url}
use Rattle.css_token.specs.declared.token.Kind.{Kind}
use Rattle.css_token.specs.declared.token.Kind.TheVariants.{Url, Dimension}
use Rattle.css_token.specs.declared.token.Token.{Token}
use Rattle.css_token.specs.declared.tokenizer.TokenFault.{TokenFault}
use Rattle.css_token.specs.declared.tokenizer.TokenFault.TheVariants.{BadToken, NoMemory}

-- a token of that kind and length may begin the text, which itself begins at `at`: no comment begins there, and where
-- a url begins it is that url
pub record Begins (at : ℕ) (kind : Kind) (len : ℕ) (text : List ℕ) : Type 0 where
  pub within : len ≤ length text
  pub lexeme : IsLexeme at kind (take len text)
  pub no_comment : begins_comment text ≡ false
  pub no_other_url : IsTrue (begins_url text) → kind ≡ Url

-- it is the longest of those
pub record IsNext (at : ℕ) (kind : Kind) (len : ℕ) (text : List ℕ) : Type 0 where
  pub begins : Begins at kind len text
  pub longest : (other : Kind) (more : ℕ) → Begins at other more text → more ≤ len

-- a bad token begins the text: something does, and neither a comment nor a token
pub record IsBad (at : ℕ) (text : List ℕ) : Type 0 where
  pub more : 0 < length text
  pub no_comment : (len : ℕ) → len ≤ length text → IsComment (take len text) → ⊥
  pub no_token : (kind : Kind) (len : ℕ) → Begins at kind len text → ⊥

-- the token of that kind from one place to another
abbrev pub token : Kind → ℕ → ℕ → Token
token kind from to = record { kind = kind; from = from; to = to }

-- the text up to `at` is these tokens, with comments before, between and after them
pub data Reads (text : List ℕ) : List Token → ℕ → Type 0 where
  start : Reads text [] 0
  past_comment : {tokens : List Token} {at : ℕ} (len : ℕ) → Reads text tokens at
      → len ≤ length (drop at text) → IsComment (take len (drop at text)) → Reads text tokens (at + len)
  past_token : {tokens : List Token} {at : ℕ} (kind : Kind) (len : ℕ) → Reads text tokens at
      → IsNext at kind len (drop at text) → Reads text (tokens ++ token kind at (at + len) ∷ []) (at + len)

-- the tokens of a text, all of it
abbrev pub AreTokens : List ℕ → List Token → Type 0
AreTokens text tokens = Reads text tokens (length text)

-- the first bad token of a text begins at `at`
abbrev pub IsFirstBad : List ℕ → ℕ → Type 0
IsFirstBad text at = (tokens : List Token) × Reads text tokens at × IsBad at (drop at text)

-- the answer for a text: its tokens, or where its first bad one begins, unless memory runs out
abbrev pub IsAnswer : List ℕ → Result (Vec Token) TokenFault → Type 0
IsAnswer text (Ok tokens) = AreTokens text tokens.items
IsAnswer text (Err (BadToken at)) = IsFirstBad text at
IsAnswer text (Err NoMemory) = ⊤

-- a dimension's unit begins within it
abbrev pub UnitLiesWithin : Kind → ℕ → ℕ → Type 0
UnitLiesWithin (Dimension unit) from to = (from < unit) × (unit < to)
UnitLiesWithin _ from to = ⊤

-- the token has at least one byte, and lies within the text
pub record LiesWithin (text : List ℕ) (t : Token) : Type 0 where
  pub some : t.from < t.to
  pub within : t.to ≤ length text
  pub unit : UnitLiesWithin t.kind t.from t.to

-- the token's bytes
abbrev pub bytes_of : List ℕ → Token → List ℕ
bytes_of text t = slice_range text t.from t.to

-- the token lies within the text, and its bytes are what its kind says
pub record IsTokenOf (text : List ℕ) (t : Token) : Type 0 where
  pub within : LiesWithin text t
  pub lexeme : IsLexeme t.from t.kind (bytes_of text t)
