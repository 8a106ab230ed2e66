-- The reading of a style attribute is what the grammar says, or its first fault.
use Rattle.std.proofs.Common.{◌≡◌, ℕ, List, refl, ap, ◌∙◌, subst, ◌⊎◌, inl, inr}
use Rattle.std.specs.Prelude.{Result, Ok, Err}
use Rattle.css_token.specs.Reading.{tokens_of}
use Rattle.css_token.specs.declared.token.Token.{Token}
use Rattle.sheet_types.specs.declared.declaration.DeclarationParts.{DeclarationParts}
use Rattle.sheet_rules.specs.declared.block_kind.BlockKind.{BlockKind}
use Rattle.sheet_rules.specs.declared.block_kind.BlockKind.TheVariants.{Attribute}
use Rattle.sheet_rules.specs.declared.fault.CssFault.{CssFault}
use Rattle.sheet_rules.specs.BlockGrammar.{IsBlock, IsFaultyBlock}
use Rattle.sheet_rules.specs.Blocks.{Found, block_at}
use Rattle.sheet_rules.specs.Faults.{◌>>=◌}
use Rattle.sheet_rules.specs.Rules.{declarations_in, of_tokens}
use Rattle.sheet_rules.specs.StyleGrammar.{IsFaultyStyle, IsStyle}
use Rattle.sheet_rules.specs.StyleGrammar as style
use Rattle.sheet_rules.proofs.BlockReadings.{BlockSays, block_is_read, block_says, faulty_block_is_read}

-- ---- blocks

pub read_block : (block : BlockKind) (text : List ℕ) (ts : List Token) (ds : List DeclarationParts) (rest : List Token) → block_at block text 0 64 ts ≡ Ok (ds, rest)
    → IsBlock block text 0 ts ds rest
read_block block text ts ds rest e = subst (BlockSays block text 0 ts) e (block_says block text 64 0 ts refl)

pub read_faulty_block : (block : BlockKind) (text : List ℕ) (ts : List Token) (fault : CssFault) → block_at block text 0 64 ts ≡ Err fault → IsFaultyBlock block text 0 ts fault
read_faulty_block block text ts fault e = subst (BlockSays block text 0 ts) e (block_says block text 64 0 ts refl)

-- ---- style attributes

abbrev Says : List ℕ → Result (List DeclarationParts) CssFault → Type 0
Says text (Ok ds) = IsStyle text ds
Says text (Err fault) = IsFaultyStyle text fault

of_block : (text : List ℕ) (tokens : List Token) → tokens_of text ≡ Ok tokens → (r : Found) → BlockSays Attribute text 0 tokens r → Says text (r >>= (λ block. Ok block.0))
of_block text tokens read (Ok found) h = record { tokens = tokens; read = read; rest = found.1; is_block = h }
of_block text tokens read (Err fault) h = style.faulty tokens fault read h

of_text : (text : List ℕ) (r : Result (List Token) ℕ) → tokens_of text ≡ r → Says text (of_tokens (λ ts. block_at Attribute text 0 64 ts >>= (λ block. Ok block.0)) r)
of_text text (Ok tokens) read = of_block text tokens read (block_at Attribute text 0 64 tokens) (block_says Attribute text 64 0 tokens refl)
of_text text (Err at) read = style.bad_token at read

style_says : (text : List ℕ) → Says text (declarations_in text)
style_says text = of_text text (tokens_of text) refl

pub style_is_read : (text : List ℕ) (ds : List DeclarationParts) → IsStyle text ds → declarations_in text ≡ Ok ds
style_is_read text ds h =
    ap (of_tokens (λ ts. block_at Attribute text 0 64 ts >>= (λ block. Ok block.0))) h.read ∙ rw (block_is_read Attribute text h.is_block 64 refl) refl

pub faulty_style_is_read : (text : List ℕ) (fault : CssFault) → IsFaultyStyle text fault → declarations_in text ≡ Err fault
faulty_style_is_read text fault (style.bad_token at read) = ap (of_tokens (λ ts. block_at Attribute text 0 64 ts >>= (λ block. Ok block.0))) read
faulty_style_is_read text fault (style.faulty tokens e read h) =
    ap (of_tokens (λ ts. block_at Attribute text 0 64 ts >>= (λ block. Ok block.0))) read ∙ rw (faulty_block_is_read Attribute text h 64 refl) refl

pub read_style : (text : List ℕ) (ds : List DeclarationParts) → declarations_in text ≡ Ok ds → IsStyle text ds
read_style text ds e = subst (Says text) e (style_says text)

pub read_faulty_style : (text : List ℕ) (fault : CssFault) → declarations_in text ≡ Err fault → IsFaultyStyle text fault
read_faulty_style text fault e = subst (Says text) e (style_says text)

either_of : (text : List ℕ) (r : Result (List DeclarationParts) CssFault) → Says text r → ((ds : List DeclarationParts) × IsStyle text ds) ⊎ ((fault : CssFault) × IsFaultyStyle text fault)
either_of text (Ok ds) h = inl (ds, h)
either_of text (Err fault) h = inr (fault, h)

pub a_style_or_fault : (text : List ℕ) → ((ds : List DeclarationParts) × IsStyle text ds) ⊎ ((fault : CssFault) × IsFaultyStyle text fault)
a_style_or_fault text = either_of text (declarations_in text) (style_says text)
