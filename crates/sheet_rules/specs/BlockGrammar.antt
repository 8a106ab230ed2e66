-- Blocks of declarations by the grammar (CSS Syntax 3, "consume a block's contents" and "consume a declaration"), and the first
-- fault of one.
use Rattle.std.specs.Prelude.{◌≡◌, ◌≢◌, ℕ, ◌+◌, ◌<◌, ◌≤◌, List, [], ◌∷◌, ◌++◌, drop, length, take, Ok, Err}
use Rattle.css_token.specs.TokenLists.{bytes_of}
use Rattle.css_token.specs.declared.token.Kind.TheVariants as kind
use Rattle.css_token.specs.declared.token.Token.{Token}
use Rattle.shorthand_text.specs.KnownNames.{known_name}
use Rattle.sheet_types.specs.declared.declaration.DeclarationParts.{DeclarationParts}
use Rattle.sheet_rules.specs.declared.block_kind.BlockKind.{BlockKind}
use Rattle.sheet_rules.specs.declared.block_kind.BlockKind.TheVariants.{Attribute}
use Rattle.sheet_rules.specs.declared.fault.BoundName.TheVariants as bound
use Rattle.sheet_rules.specs.declared.fault.CssFault.{CssFault}
use Rattle.sheet_rules.specs.declared.fault.CssFault.TheVariants.{BadToken, Bound}
use Rattle.sheet_rules.specs.Blocks.{after_separators}
use Rattle.sheet_rules.specs.Declarations.{judged, solid}
use Rattle.sheet_rules.specs.Pairing.{IsUnpaired, IsValue}
use Rattle.sheet_rules.specs.Scanning.{after_spaces}

-- ---- a declaration, whose name was read

-- a colon, after spaces, and what follows it
pub record IsColon (ts value : List Token) : Type 0 where
  pub colon : Token
  pub is : colon.kind ≡ kind.Colon
  pub stands : after_spaces ts ≡ colon ∷ value

-- after the name a colon and a value, which gives the block these declarations; the rest stands behind the value
pub record IsDeclaration (block : BlockKind) (text : List ℕ) (place : ℕ) (name : Token) (ts : List Token)
    (declared : List DeclarationParts) (rest : List Token) : Type 0 where
  pub value : List Token
  pub colon : IsColon ts value
  pub count : ℕ
  pub is_value : IsValue value count
  pub gives : judged block place name.from text (solid (take count value)) (known_name (bytes_of text name)) ≡ Ok declared
  pub behind : rest ≡ drop count value

-- the place at which a colon is missing: that of another token, or the end of the text
pub data IsNoColon (end : ℕ) : List Token → ℕ → Type 0 where
  text_end : IsNoColon end [] end
  other : (t : Token) (ts : List Token) → t.kind ≢ kind.Colon → IsNoColon end (t ∷ ts) t.from

-- the first fault of a declaration: of its colon, else of its brackets, else of its value
pub data IsFaultyDeclaration (block : BlockKind) (text : List ℕ) (place : ℕ) (name : Token) (ts : List Token) : CssFault
    → Type 0 where
  no_colon : (at : ℕ) → IsNoColon (length text) (after_spaces ts) at → IsFaultyDeclaration block text place name ts (BadToken at)
  unpaired : (value : List Token) (at : ℕ) → IsColon ts value → IsUnpaired (length text) value at
      → IsFaultyDeclaration block text place name ts (BadToken at)
  refused : (value : List Token) (count : ℕ) (fault : CssFault) → IsColon ts value → IsValue value count
      → judged block place name.from text (solid (take count value)) (known_name (bytes_of text name)) ≡ Err fault
      → IsFaultyDeclaration block text place name ts fault

-- ---- a block

-- the end of the block: that of the text for a style attribute, a `}` for any other; and what follows it
pub data IsBlockEnd (block : BlockKind) : List Token → List Token → Type 0 where
  text_end : block ≡ Attribute → IsBlockEnd block [] []
  closed : (t : Token) (ts : List Token) → block ≢ Attribute → t.kind ≡ kind.CurlyClose → IsBlockEnd block (t ∷ ts) ts

-- an identifier, and what follows it
pub record IsName (ts : List Token) (name : Token) (after : List Token) : Type 0 where
  pub is : name.kind ≡ kind.Ident
  pub stands : ts ≡ name ∷ after

-- declarations up to the end of the block, from a place on, with spaces and semicolons before each; a block has no more than 64
pub data IsBlock (block : BlockKind) (text : List ℕ) : ℕ → List Token → List DeclarationParts → List Token → Type 0 where
  ended : (place : ℕ) (ts rest : List Token) → IsBlockEnd block (after_separators ts) rest → IsBlock block text place ts [] rest
  declaration : (place : ℕ) (ts : List Token) (name : Token) (after : List Token) (first others : List DeclarationParts)
      (next rest : List Token) → place < 64
      → IsName (after_separators ts) name after → IsDeclaration block text place name after first next
      → IsBlock block text (place + 1) next others rest
      → IsBlock block text place ts (first ++ others) rest

-- the place at which neither a name stands nor the end of the block
pub data IsNoPart (block : BlockKind) (end : ℕ) : List Token → ℕ → Type 0 where
  text_end : block ≢ Attribute → IsNoPart block end [] end
  stray_close : (t : Token) (ts : List Token) → block ≡ Attribute → t.kind ≡ kind.CurlyClose → IsNoPart block end (t ∷ ts) t.from
  other : (t : Token) (ts : List Token) → t.kind ≢ kind.Ident → t.kind ≢ kind.CurlyClose → IsNoPart block end (t ∷ ts) t.from

-- the first fault of a block from a place on
pub data IsFaultyBlock (block : BlockKind) (text : List ℕ) : ℕ → List Token → CssFault → Type 0 where
  no_part : (place : ℕ) (ts : List Token) (at : ℕ) → IsNoPart block (length text) (after_separators ts) at
      → IsFaultyBlock block text place ts (BadToken at)
  too_many : (place : ℕ) (ts : List Token) (name : Token) (after : List Token) → 64 ≤ place
      → IsName (after_separators ts) name after
      → IsFaultyBlock block text place ts (Bound bound.Declarations name.from)
  here : (place : ℕ) (ts : List Token) (name : Token) (after : List Token) (fault : CssFault) → place < 64
      → IsName (after_separators ts) name after
      → IsFaultyDeclaration block text place name after fault → IsFaultyBlock block text place ts fault
  later : (place : ℕ) (ts : List Token) (name : Token) (after : List Token) (first : List DeclarationParts) (next : List Token)
      (fault : CssFault) → place < 64
      → IsName (after_separators ts) name after → IsDeclaration block text place name after first next
      → IsFaultyBlock block text (place + 1) next fault
      → IsFaultyBlock block text place ts fault
