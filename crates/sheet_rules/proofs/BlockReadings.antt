-- The reading of a block is what the grammar says, or its first fault.
use Rattle.std.proofs.Common.{◌≡◌, ◌≢◌, ℕ, zero, suc, ◌+◌, ◌<◌, List, [], ◌∷◌, length, refl, ap, sym, ◌∙◌, subst, arith}
use Rattle.std.specs.Prelude.{Option, None, Some, Result, Ok, Err}
use Rattle.css_token.specs.declared.token.Kind.{Kind}
use Rattle.css_token.specs.declared.token.Kind.TheVariants as kind
use Rattle.css_token.specs.declared.token.Token.{Token}
use Rattle.sheet_types.specs.declared.declaration.DeclarationParts.{DeclarationParts}
use Rattle.sheet_rules.specs.declared.block_kind.BlockKind.{BlockKind}
use Rattle.sheet_rules.specs.declared.block_kind.BlockKind.TheVariants.{Attribute, Style, Keyframe}
use Rattle.sheet_rules.specs.declared.fault.BoundName.TheVariants as bound
use Rattle.sheet_rules.specs.declared.fault.CssFault.{CssFault}
use Rattle.sheet_rules.specs.declared.fault.CssFault.TheVariants.{BadToken, Bound}
use Rattle.sheet_rules.specs.Blocks.{Found, after_separators, block_at, block_end_of, declaration_at, ended_or, part_at, part_of, text_end_of, with_front}
use Rattle.sheet_rules.specs.BlockGrammar.{IsBlock, IsBlockEnd, IsDeclaration, IsFaultyBlock, IsFaultyDeclaration, IsName, IsNoPart}
use Rattle.sheet_rules.specs.BlockGrammar as grammar
use Rattle.sheet_rules.specs.Faults.{◌>>=◌}
use Rattle.sheet_rules.proofs.BlockLemmas.{block_more, block_none}
use Rattle.sheet_rules.proofs.DeclarationReadings.{declaration_is_read, declaration_says, faulty_declaration_is_read}

-- ---- what stands next

abbrev PartIs : BlockKind → List Token → Option Token → List Token → Type 0
PartIs block ts None rest = IsBlockEnd block ts rest
PartIs block ts (Some name) after = IsName ts name after

abbrev PartSays : BlockKind → ℕ → List Token → Result (Option Token × List Token) CssFault → Type 0
PartSays block end ts (Ok part) = PartIs block ts part.0 part.1
PartSays block end ts (Err fault) = (at : ℕ) × (fault ≡ BadToken at) × IsNoPart block end ts at

text_end_says : (block : BlockKind) (end : ℕ) → PartSays block end [] (text_end_of block end)
text_end_says Attribute end = grammar.text_end refl
text_end_says Style end = (end, refl, grammar.text_end (λ e. cc))
text_end_says Keyframe end = (end, refl, grammar.text_end (λ e. cc))

close_says : (block : BlockKind) (end : ℕ) (t : Token) (ts : List Token) → t.kind ≡ kind.CurlyClose → PartSays block end (t ∷ ts) (block_end_of block t.from ts)
close_says Attribute end t ts is = (t.from, refl, grammar.stray_close t ts refl is)
close_says Style end t ts is = grammar.closed t ts (λ e. cc) is
close_says Keyframe end t ts is = grammar.closed t ts (λ e. cc) is

part_says : (block : BlockKind) (end : ℕ) (ts : List Token) → PartSays block end ts (part_at block end ts)
part_says block end [] = text_end_says block end
part_says block end (t ∷ ts) = by t.kind refl
  where
    by : (k : Kind) → t.kind ≡ k → PartSays block end (t ∷ ts) (part_of block k t ts)
    by kind.Ident is = record { is = is; stands = refl }
    by kind.CurlyClose is = close_says block end t ts is
    by k is = (t.from, refl, grammar.other t ts (λ e. cc) (λ e. cc))

name_part : (block : BlockKind) (end : ℕ) (ts after : List Token) (name : Token) → IsName ts name after → part_at block end ts ≡ Ok (Some name, after)
name_part block end ts after name h = ap (part_at block end) h.stands ∙ ap (λ k. part_of block k name after) h.is

not_attribute : (block : BlockKind) (at : ℕ) (ts : List Token) → block ≢ Attribute → block_end_of block at ts ≡ Ok (None, ts)
not_attribute Attribute at ts other = absurd (other refl)
not_attribute Style at ts other = refl
not_attribute Keyframe at ts other = refl

unfinished : (block : BlockKind) (end : ℕ) → block ≢ Attribute → text_end_of block end ≡ Err (BadToken end)
unfinished Attribute end other = absurd (other refl)
unfinished Style end other = refl
unfinished Keyframe end other = refl

end_part : (block : BlockKind) (end : ℕ) (ts rest : List Token) → IsBlockEnd block ts rest → part_at block end ts ≡ Ok (None, rest)
end_part block end ts rest (grammar.text_end is) = ap (λ b. text_end_of b end) is
end_part block end ts rest (grammar.closed t us other is) = ap (λ k. part_of block k t us) is ∙ not_attribute block t.from us other

other_part : (block : BlockKind) (k : Kind) (t : Token) (ts : List Token) → k ≢ kind.Ident → k ≢ kind.CurlyClose → part_of block k t ts ≡ Err (BadToken t.from)
other_part block kind.Ident t ts name close = absurd (name refl)
other_part block kind.CurlyClose t ts name close = absurd (close refl)
other_part block k t ts name close = refl

no_part_is : (block : BlockKind) (end : ℕ) (ts : List Token) (at : ℕ) → IsNoPart block end ts at → part_at block end ts ≡ Err (BadToken at)
no_part_is block end ts at (grammar.text_end other) = unfinished block end other
no_part_is block end ts at (grammar.stray_close t us is close) = ap (λ k. part_of block k t us) close ∙ ap (λ b. block_end_of b t.from us) is
no_part_is block end ts at (grammar.other t us name close) = other_part block t.kind t us name close

-- ---- the block

module _ (block : BlockKind) (text : List ℕ) where
  abbrev pub BlockSays : ℕ → List Token → Found → Type 0
  BlockSays place ts (Ok found) = IsBlock block text place ts found.0 found.1
  BlockSays place ts (Err fault) = IsFaultyBlock block text place ts fault

  of_last : (place : ℕ) (ts : List Token) → place ≡ 64 → (r : Result (Option Token × List Token) CssFault) → PartSays block (length text) (after_separators ts) r
      → BlockSays place ts (r >>= (λ part. ended_or part.0 part.1 (λ name. Err (Bound bound.Declarations name.from))))
  of_last place ts whole (Ok (None, rest)) h = grammar.ended place ts rest h
  of_last place ts whole (Ok (Some name, after)) h = grammar.too_many place ts name after (omega (arith, whole)) h
  of_last place ts whole (Err fault) h = subst (IsFaultyBlock block text place ts) (sym h.1) (grammar.no_part place ts h.0 h.2)

  pub block_says : (left place : ℕ) (ts : List Token) → place + left ≡ 64 → BlockSays place ts (block_at block text place left ts)
  block_says zero place ts whole =
      subst (BlockSays place ts) (sym (block_none block text place ts))
      (of_last place ts (omega (arith, whole)) (part_at block (length text) (after_separators ts)) (part_says block (length text) (after_separators ts)))
  block_says (suc left) place ts whole =
      subst (BlockSays place ts) (sym (block_more block text place left ts))
      (by (λ next. block_says left (place + 1) next (omega (arith, whole))) (part_at block (length text) (after_separators ts)) (part_says block (length text) (after_separators ts)))
    where
      few : place < 64
      few = omega (arith, whole)

      after_first : (name : Token) (after : List Token) → IsName (after_separators ts) name after → (first : List DeclarationParts) (next : List Token)
          → IsDeclaration block text place name after first next → (r : Found) → BlockSays (place + 1) next r → BlockSays place ts (with_front first r)
      after_first name after is_name first next declared (Ok found) h = grammar.declaration place ts name after first found.0 next found.1 few is_name declared h
      after_first name after is_name first next declared (Err fault) h = grammar.later place ts name after first next fault few is_name declared h

      of_declaration : Token → List Token → Found → Type 0
      of_declaration name after (Ok found) = IsDeclaration block text place name after found.0 found.1
      of_declaration name after (Err fault) = IsFaultyDeclaration block text place name after fault

      of_first : ((next : List Token) → BlockSays (place + 1) next (block_at block text (place + 1) left next)) → (name : Token) (after : List Token) → IsName (after_separators ts) name after
          → (r : Found) → of_declaration name after r → BlockSays place ts (r >>= (λ first. with_front first.0 (block_at block text (place + 1) left first.1)))
      of_first others name after is_name (Ok first) h = after_first name after is_name first.0 first.1 h (block_at block text (place + 1) left first.1) (others first.1)
      of_first others name after is_name (Err fault) h = grammar.here place ts name after fault few is_name h

      by : ((next : List Token) → BlockSays (place + 1) next (block_at block text (place + 1) left next)) → (r : Result (Option Token × List Token) CssFault)
          → PartSays block (length text) (after_separators ts) r
          → BlockSays place ts (r >>= (λ part. ended_or part.0 part.1 (λ name.
          declaration_at block text place name part.1 >>= (λ first. with_front first.0 (block_at block text (place + 1) left first.1)))))
      by others (Ok (None, rest)) h = grammar.ended place ts rest h
      by others (Ok (Some name, after)) h = of_first others name after h (declaration_at block text place name after) (declaration_says block text place name after)
      by others (Err fault) h = subst (IsFaultyBlock block text place ts) (sym h.1) (grammar.no_part place ts h.0 h.2)

  -- ---- what the grammar says is read

  pub block_is_read : {place : ℕ} {ts rest : List Token} {ds : List DeclarationParts} → IsBlock block text place ts ds rest → (left : ℕ) → place + left ≡ 64
      → block_at block text place left ts ≡ Ok (ds, rest)
  block_is_read (grammar.ended place ts rest h) zero whole =
      block_none block text place ts ∙ rw (end_part block (length text) (after_separators ts) rest h) refl
  block_is_read (grammar.ended place ts rest h) (suc left) whole =
      block_more block text place left ts ∙ rw (end_part block (length text) (after_separators ts) rest h) refl
  block_is_read (grammar.declaration place ts name after first others next rest few is_name declared more) zero whole = absurd (omega (arith, few, whole))
  block_is_read (grammar.declaration place ts name after first others next rest few is_name declared more) (suc left) whole =
      block_more block text place left ts
      ∙ rw (
        name_part block (length text) (after_separators ts) after name is_name,
        declaration_is_read block text place name after first next declared,
        block_is_read more left (omega (arith, whole)),
      ) refl

  pub faulty_block_is_read : {place : ℕ} {ts : List Token} {fault : CssFault} → IsFaultyBlock block text place ts fault → (left : ℕ) → place + left ≡ 64
      → block_at block text place left ts ≡ Err fault
  faulty_block_is_read (grammar.no_part place ts at h) zero whole = block_none block text place ts ∙ rw (no_part_is block (length text) (after_separators ts) at h) refl
  faulty_block_is_read (grammar.no_part place ts at h) (suc left) whole = block_more block text place left ts ∙ rw (no_part_is block (length text) (after_separators ts) at h) refl
  faulty_block_is_read (grammar.too_many place ts name after many is_name) zero whole =
      block_none block text place ts ∙ rw (name_part block (length text) (after_separators ts) after name is_name) refl
  faulty_block_is_read (grammar.too_many place ts name after many is_name) (suc left) whole = absurd (omega (arith, many, whole))
  faulty_block_is_read (grammar.here place ts name after fault few is_name h) zero whole = absurd (omega (arith, few, whole))
  faulty_block_is_read (grammar.here place ts name after fault few is_name h) (suc left) whole =
      block_more block text place left ts
      ∙ rw (name_part block (length text) (after_separators ts) after name is_name, faulty_declaration_is_read block text place name after fault h) refl
  faulty_block_is_read (grammar.later place ts name after first next fault few is_name declared more) zero whole = absurd (omega (arith, few, whole))
  faulty_block_is_read (grammar.later place ts name after first next fault few is_name declared more) (suc left) whole =
      block_more block text place left ts
      ∙ rw (
        name_part block (length text) (after_separators ts) after name is_name,
        declaration_is_read block text place name after first next declared,
        faulty_block_is_read more left (omega (arith, whole)),
      ) refl
