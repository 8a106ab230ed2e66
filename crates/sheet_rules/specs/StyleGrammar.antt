-- Style attributes by the grammar (CSS Style Attributes, section 3, "Syntax and Parsing"), and the first fault of one.
use Rattle.std.specs.Prelude.{◌≡◌, ℕ, List, Ok, Err}
use Rattle.css_token.specs.Reading.{tokens_of}
use Rattle.css_token.specs.declared.token.Token.{Token}
use Rattle.sheet_types.specs.declared.declaration.DeclarationParts.{DeclarationParts}
use Rattle.sheet_rules.specs.declared.block_kind.BlockKind.TheVariants.{Attribute}
use Rattle.sheet_rules.specs.declared.fault.CssFault.{CssFault}
use Rattle.sheet_rules.specs.declared.fault.CssFault.TheVariants.{BadToken}
use Rattle.sheet_rules.specs.BlockGrammar.{IsBlock, IsFaultyBlock}

-- the text is a list of declarations, which are these
pub record IsStyle (text : List ℕ) (declared : List DeclarationParts) : Type 0 where
  pub tokens : List Token
  pub read : tokens_of text ≡ Ok tokens
  pub rest : List Token
  pub is_block : IsBlock Attribute text 0 tokens declared rest

-- the first fault of a text that is none: of its tokens, wherever the bad one stands, else of its declarations from left to right
pub data IsFaultyStyle (text : List ℕ) : CssFault → Type 0 where
  bad_token : (at : ℕ) → tokens_of text ≡ Err at → IsFaultyStyle text (BadToken at)
  faulty : (tokens : List Token) (fault : CssFault) → tokens_of text ≡ Ok tokens → IsFaultyBlock Attribute text 0 tokens fault
      → IsFaultyStyle text fault
