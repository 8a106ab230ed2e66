-- Where the parts of a text end (CSS Syntax 3, sections 5.4.7 and 5.4.8, "consume a component value" and "a simple block").
use Rattle.std.specs.Prelude.{ℕ, ◌+◌, ◌==◌, Bool, true, false, if◌then◌else◌, List, [], ◌∷◌, drop, length, Option, Result, Ok, Err, position}
use Rattle.std.specs.List.{prefix_len}
use Rattle.css_token.specs.declared.token.Kind.{Kind}
use Rattle.css_token.specs.declared.token.Kind.TheVariants as kind
use Rattle.css_token.specs.declared.token.Token.{Token}
use Rattle.sheet_rules.specs.declared.scan.Bracket.{Bracket}
use Rattle.sheet_rules.specs.declared.scan.Bracket.TheVariants.{Round, Square}
use Rattle.sheet_rules.specs.declared.scan.Step.{Step}
use Rattle.sheet_rules.specs.declared.scan.Step.TheVariants.{Stop, Bad, Go}
use Rattle.sheet_rules.specs.declared.fault.CssFault.{CssFault}
use Rattle.sheet_rules.specs.declared.fault.CssFault.TheVariants.{BadToken}
use Rattle.sheet_rules.specs.Faults.{◌>>=◌}

-- ---- kinds

abbrev pub is_space_kind : Kind → Bool
is_space_kind kind.Space = true
is_space_kind _ = false

abbrev pub opens_block : Kind → Bool
opens_block kind.CurlyOpen = true
opens_block _ = false

-- a run of spaces
abbrev pub is_space : Token → Bool
is_space t = is_space_kind t.kind

-- `{`
abbrev pub is_block_start : Token → Bool
is_block_start t = opens_block t.kind

-- ---- the parts of a text

-- the tokens after the spaces at their front
unfoldable pub after_spaces : List Token → List Token
after_spaces ts = drop (prefix_len is_space ts) ts

-- where the tokens begin: the first one's place, or that of the end
abbrev pub place_of : ℕ → List Token → ℕ
place_of end [] = end
place_of end (t ∷ ts) = t.from

-- how many tokens stand before the next `{`
abbrev pub prelude_len : List Token → Option ℕ
prelude_len ts = position is_block_start ts

-- ---- values

-- a closing bracket closes the last open one, where it is of its kind
abbrev pub closed_by : List Bracket → Bracket → Step × List Bracket
closed_by (Round ∷ stack) Round = (Go, stack)
closed_by (Square ∷ stack) Square = (Go, stack)
closed_by (b ∷ stack) bracket = (Bad, stack)
closed_by [] bracket = (Bad, [])

-- what a token does where these brackets are open, the last one first, and which are open after it
abbrev pub step_of : Kind → List Bracket → Step × List Bracket
step_of kind.Semicolon [] = (Stop, [])
step_of kind.Semicolon (b ∷ stack) = (Go, b ∷ stack)
step_of kind.CurlyClose [] = (Stop, [])
step_of kind.CurlyClose (b ∷ stack) = (Bad, b ∷ stack)
step_of kind.CurlyOpen stack = (Bad, stack)
step_of kind.RoundOpen stack = (Go, Round ∷ stack)
step_of kind.Function stack = (Go, Round ∷ stack)
step_of kind.SquareOpen stack = (Go, Square ∷ stack)
step_of kind.RoundClose stack = closed_by stack Round
step_of kind.SquareClose stack = closed_by stack Square
step_of _ stack = (Go, stack)

-- how many tokens a value has: none where it stops before the token, else one more than the rest
abbrev pub after_step : ℕ → Step → Result ℕ CssFault → Result ℕ CssFault
after_step at Stop rest = Ok 0
after_step at Bad rest = Err (BadToken at)
after_step at Go rest = rest >>= (λ n. Ok (n + 1))

-- at the end of the text no bracket may be open
abbrev pub none_open : ℕ → List Bracket → Result ℕ CssFault
none_open end stack = if length stack == 0 then Ok 0 else Err (BadToken end)

-- how many tokens the value at the front has, up to the `;` or `}` outside brackets or the end of the text
unfoldable pub value_len : ℕ → List Bracket → List Token → Result ℕ CssFault
value_len end stack [] = none_open end stack
value_len end stack (t ∷ ts) = after_step t.from (step_of t.kind stack).0 (value_len end (step_of t.kind stack).1 ts)
