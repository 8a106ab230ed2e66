-- Values by the brackets that pair in them (CSS Syntax 3, "consume a component value" and "consume a simple block").
use Rattle.std.specs.Prelude.{◌≡◌, ℕ, ◌≤◌, Bool, true, false, List, [], ◌∷◌, ◌++◌, drop, length, take, IsTrue, ⊤}
use Rattle.css_token.specs.declared.token.Kind.{Kind}
use Rattle.css_token.specs.declared.token.Kind.TheVariants as kind
use Rattle.css_token.specs.declared.token.Token.{Token}
use Rattle.sheet_rules.specs.declared.scan.Bracket.{Bracket}
use Rattle.sheet_rules.specs.declared.scan.Bracket.TheVariants.{Round, Square}

-- `(`, or the name of a function with it
abbrev pub opens_round : Kind → Bool
opens_round kind.RoundOpen = true
opens_round kind.Function = true
opens_round _ = false

-- `;` or `}`, which end a value outside of brackets
abbrev pub ends_value : Kind → Bool
ends_value kind.Semicolon = true
ends_value kind.CurlyClose = true
ends_value _ = false

-- a token that needs no other: no bracket, and outside of brackets no `;`
abbrev pub is_plain : Bool → Kind → Bool
is_plain inside kind.Semicolon = inside
is_plain inside kind.Function = false
is_plain inside kind.RoundOpen = false
is_plain inside kind.RoundClose = false
is_plain inside kind.SquareOpen = false
is_plain inside kind.SquareClose = false
is_plain inside kind.CurlyOpen = false
is_plain inside kind.CurlyClose = false
is_plain inside _ = true

-- the brackets of the tokens pair; whether they stand inside of brackets themselves
pub data IsPaired : Bool → List Token → Type 0 where
  nothing : (inside : Bool) → IsPaired inside []
  plain : (inside : Bool) (t : Token) (ts : List Token) → is_plain inside t.kind ≡ true → IsPaired inside ts
      → IsPaired inside (t ∷ ts)
  round : (inside : Bool) (t : Token) (within : List Token) (u : Token) (ts : List Token) → opens_round t.kind ≡ true
      → IsPaired true within → u.kind ≡ kind.RoundClose
      → IsPaired inside ts → IsPaired inside (t ∷ (within ++ (u ∷ ts)))
  square : (inside : Bool) (t : Token) (within : List Token) (u : Token) (ts : List Token) → t.kind ≡ kind.SquareOpen
      → IsPaired true within → u.kind ≡ kind.SquareClose
      → IsPaired inside ts → IsPaired inside (t ∷ (within ++ (u ∷ ts)))

-- nothing, or a token that ends the value before it
abbrev pub EndsValue : List Token → Type 0
EndsValue [] = ⊤
EndsValue (t ∷ ts) = IsTrue (ends_value t.kind)

-- the first n of the tokens are a value, which ends there
pub record IsValue (ts : List Token) (n : ℕ) : Type 0 where
  pub within : n ≤ length ts
  pub paired : IsPaired false (take n ts)
  pub ended : EndsValue (drop n ts)

-- ---- the first fault

-- the front of a value, in which these brackets are still open, the last one first
pub data IsOpen : List Bracket → List Token → Type 0 where
  none : (ts : List Token) → IsPaired false ts → IsOpen [] ts
  round : (stack : List Bracket) (ts : List Token) (t : Token) (within : List Token) → IsOpen stack ts
      → opens_round t.kind ≡ true → IsPaired true within
      → IsOpen (Round ∷ stack) (ts ++ (t ∷ within))
  square : (stack : List Bracket) (ts : List Token) (t : Token) (within : List Token) → IsOpen stack ts
      → t.kind ≡ kind.SquareOpen → IsPaired true within
      → IsOpen (Square ∷ stack) (ts ++ (t ∷ within))

-- a token that may not follow where these brackets are open: `{`, a `}` inside of brackets, and a bracket that closes none or
-- another than the last one
abbrev pub is_misplaced : List Bracket → Kind → Bool
is_misplaced stack kind.CurlyOpen = true
is_misplaced (b ∷ stack) kind.CurlyClose = true
is_misplaced [] kind.RoundClose = true
is_misplaced (Square ∷ stack) kind.RoundClose = true
is_misplaced [] kind.SquareClose = true
is_misplaced (Round ∷ stack) kind.SquareClose = true
is_misplaced stack _ = false

-- the tokens begin with no value: the place is that of the first token that may not follow, or the end of the text where a
-- bracket stays open
pub data IsUnpaired (end : ℕ) : List Token → ℕ → Type 0 where
  misplaced : (stack : List Bracket) (front : List Token) (t : Token) (rest : List Token) → IsOpen stack front
      → is_misplaced stack t.kind ≡ true
      → IsUnpaired end (front ++ (t ∷ rest)) t.from
  unclosed : (b : Bracket) (stack : List Bracket) (ts : List Token) → IsOpen (b ∷ stack) ts → IsUnpaired end ts end
