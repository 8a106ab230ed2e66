-- Blocks of declarations (CSS Syntax 3, "consume a block's contents" and "consume a declaration").
use Rattle.std.specs.Prelude.{ℕ, ◌+◌, zero, suc, Bool, true, false, List, [], ◌∷◌, ◌++◌, drop, length, take, Option, None, Some, Result, Ok, Err}
use Rattle.std.specs.List.{prefix_len}
use Rattle.css_token.specs.TokenLists.{bytes_of}
use Rattle.css_token.specs.declared.token.Kind.{Kind}
use Rattle.css_token.specs.declared.token.Kind.TheVariants as kind
use Rattle.css_token.specs.declared.token.Token.{Token}
use Rattle.shorthand_text.specs.KnownNames.{known_name}
use Rattle.sheet_rules.specs.declared.block_kind.BlockKind.{BlockKind}
use Rattle.sheet_rules.specs.declared.block_kind.BlockKind.TheVariants.{Attribute, Style, Keyframe}
use Rattle.sheet_types.specs.declared.declaration.DeclarationParts.{DeclarationParts}
use Rattle.sheet_rules.specs.declared.fault.BoundName.TheVariants as bound
use Rattle.sheet_rules.specs.declared.fault.CssFault.{CssFault}
use Rattle.sheet_rules.specs.declared.fault.CssFault.TheVariants.{BadToken, Bound}
use Rattle.sheet_rules.specs.Faults.{◌>>=◌}
use Rattle.sheet_rules.specs.Scanning.{after_spaces, value_len}
use Rattle.sheet_rules.specs.Declarations.{judged, solid}

-- ---- one declaration

-- a colon, and what follows it
abbrev pub colon_of : Kind → ℕ → List Token → Result (List Token) CssFault
colon_of kind.Colon at ts = Ok ts
colon_of _ at ts = Err (BadToken at)

abbrev pub colon_at : ℕ → List Token → Result (List Token) CssFault
colon_at end [] = Err (BadToken end)
colon_at end (t ∷ ts) = colon_of t.kind t.from ts

-- what a declaration gives the block, and the tokens from the end of its value on; its name was read
unfoldable pub declaration_at : BlockKind → List ℕ → ℕ → Token → List Token → Result (List DeclarationParts × List Token) CssFault
declaration_at block text place name ts = do
  value ← colon_at (length text) (after_spaces ts)
  count ← value_len (length text) [] value
  declared ← judged block place name.from text (solid (take count value)) (known_name (bytes_of text name))
  Ok (declared, drop count value)

-- ---- what stands next in a block

abbrev pub is_separator_kind : Kind → Bool
is_separator_kind kind.Space = true
is_separator_kind kind.Semicolon = true
is_separator_kind _ = false

abbrev pub is_separator : Token → Bool
is_separator t = is_separator_kind t.kind

-- the tokens after the spaces and semicolons at their front
unfoldable pub after_separators : List Token → List Token
after_separators ts = drop (prefix_len is_separator ts) ts

-- the end of the text, which ends a style attribute alone
abbrev pub text_end_of : BlockKind → ℕ → Result (Option Token × List Token) CssFault
text_end_of Attribute end = Ok (None, [])
text_end_of Style end = Err (BadToken end)
text_end_of Keyframe end = Err (BadToken end)

-- a `}`, which ends any other block
abbrev pub block_end_of : BlockKind → ℕ → List Token → Result (Option Token × List Token) CssFault
block_end_of Attribute at ts = Err (BadToken at)
block_end_of Style at ts = Ok (None, ts)
block_end_of Keyframe at ts = Ok (None, ts)

abbrev pub part_of : BlockKind → Kind → Token → List Token → Result (Option Token × List Token) CssFault
part_of block kind.Ident t ts = Ok (Some t, ts)
part_of block kind.CurlyClose t ts = block_end_of block t.from ts
part_of block _ t ts = Err (BadToken t.from)

abbrev pub part_at : BlockKind → ℕ → List Token → Result (Option Token × List Token) CssFault
part_at block end [] = text_end_of block end
part_at block end (t ∷ ts) = part_of block t.kind t ts

-- ---- a block

-- declarations, and the tokens after them
abbrev pub Found : Type 0
Found = Result (List DeclarationParts × List Token) CssFault

-- those that were found before, and then these
abbrev pub with_front : List DeclarationParts → Found → Found
with_front front found = found >>= (λ more. Ok (front ++ more.0, more.1))

-- nothing more where the block ends, else what the name begins
abbrev pub ended_or : Option Token → List Token → (Token → Found) → Found
ended_or None ts begun = Ok ([], ts)
ended_or (Some name) ts begun = begun name

-- the declarations from the place on, of which so many more may come, and the tokens after the block
unfoldable pub block_at : BlockKind → List ℕ → ℕ → ℕ → List Token → Found
block_at block text place zero ts =
    part_at block (length text) (after_separators ts) >>=
    (λ part. ended_or part.0 part.1 (λ name. Err (Bound bound.Declarations name.from)))
block_at block text place (suc left) ts =
    part_at block (length text) (after_separators ts) >>= (λ part. ended_or part.0 part.1 (λ name.
    declaration_at block text place name part.1 >>= (λ first. with_front first.0 (block_at block text (place + 1) left first.1))))
