-- Sheets by the grammar (CSS Syntax 3, "parse a stylesheet" and "consume a list of rules"), and the first fault of one.
use Rattle.std.specs.Prelude.{◌≡◌, ℕ, ◌+◌, ◌<◌, ◌≤◌, List, [], ◌∷◌, Ok, Err}
use Rattle.css_token.specs.Reading.{tokens_of}
use Rattle.css_token.specs.declared.token.Token.{Token}
use Rattle.sheet_types.specs.Sheets.{SheetRules, no_rules}
use Rattle.sheet_rules.specs.declared.fault.BoundName.TheVariants as bound
use Rattle.sheet_rules.specs.declared.fault.CssFault.{CssFault}
use Rattle.sheet_rules.specs.declared.fault.CssFault.TheVariants.{BadToken, Bound}
use Rattle.sheet_rules.specs.RuleGrammar.{IsFaultyRule, IsRule}
use Rattle.sheet_rules.specs.Scanning.{after_spaces}

-- rules up to the end of the text, with spaces before each: what they make of the sheet, from a place among its rules on. A sheet
-- has no more than 4,096
pub data AreRules (text : List ℕ) : ℕ → SheetRules → List Token → SheetRules → Type 0 where
  ended : (place : ℕ) (sheet : SheetRules) (ts : List Token) → after_spaces ts ≡ [] → AreRules text place sheet ts sheet
  rule : (place : ℕ) (sheet : SheetRules) (ts : List Token) (t : Token) (us : List Token) (more : SheetRules) (next : List Token)
      (whole : SheetRules) → place < 4096
      → after_spaces ts ≡ t ∷ us → IsRule text place sheet t (t ∷ us) more next → AreRules text (place + 1) more next whole
      → AreRules text place sheet ts whole

-- the first fault of the rules from a place on
pub data AreFaultyRules (text : List ℕ) : ℕ → SheetRules → List Token → CssFault → Type 0 where
  too_many : (place : ℕ) (sheet : SheetRules) (ts : List Token) (t : Token) (us : List Token) → 4096 ≤ place
      → after_spaces ts ≡ t ∷ us
      → AreFaultyRules text place sheet ts (Bound bound.Rules t.from)
  here : (place : ℕ) (sheet : SheetRules) (ts : List Token) (t : Token) (us : List Token) (fault : CssFault) → place < 4096
      → after_spaces ts ≡ t ∷ us
      → IsFaultyRule text t (t ∷ us) fault → AreFaultyRules text place sheet ts fault
  later : (place : ℕ) (sheet : SheetRules) (ts : List Token) (t : Token) (us : List Token) (more : SheetRules)
      (next : List Token) (fault : CssFault) → place < 4096
      → after_spaces ts ≡ t ∷ us → IsRule text place sheet t (t ∷ us) more next → AreFaultyRules text (place + 1) more next fault
      → AreFaultyRules text place sheet ts fault

-- the text is a sheet, of these rules
pub record IsSheet (text : List ℕ) (sheet : SheetRules) : Type 0 where
  pub tokens : List Token
  pub read : tokens_of text ≡ Ok tokens
  pub rules : AreRules text 0 no_rules tokens sheet

-- the first fault of a text that is none: of its tokens, wherever the bad one stands, else of its rules from left to right
pub data IsFaultySheet (text : List ℕ) : CssFault → Type 0 where
  bad_token : (at : ℕ) → tokens_of text ≡ Err at → IsFaultySheet text (BadToken at)
  faulty : (tokens : List Token) (fault : CssFault) → tokens_of text ≡ Ok tokens → AreFaultyRules text 0 no_rules tokens fault
      → IsFaultySheet text fault
