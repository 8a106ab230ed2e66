-- Tokens that are read lie within the text.
use Rattle.std.proofs.Common.{◌≡◌, ℕ, List, [], ◌∷◌, ap, inl, inr, not, refl, sym, subst}
use Rattle.std.specs.Prelude.{◌⊎◌, All, IfSome, if◌then◌else◌, Ok, Option, None, Some}
use Rattle.std.proofs.lemmas.List.Elements.{All-drop, All-filter, All-head}
use Rattle.css_token.specs.declared.token.Kind.{Kind}
use Rattle.css_token.specs.declared.token.Kind.TheVariants as kind
use Rattle.css_token.specs.declared.token.Token.{Token}
use Rattle.css_token.specs.TokenLists.{IsTokenOf, LiesWithin, bytes_of}
use Rattle.css_token.specs.Productions.{IsIdentifier, IsLexeme}
use Rattle.sheet_rules.specs.declared.block_kind.BlockKind.{BlockKind}
use Rattle.sheet_rules.specs.declared.block_kind.BlockKind.TheVariants.{Attribute, Style, Keyframe}
use Rattle.sheet_rules.specs.Blocks.{after_separators, block_end_of, colon_at, colon_of, part_at, part_of, text_end_of}
use Rattle.sheet_rules.specs.Keyframes.{after_close, closed_by_kind, lone_word}
use Rattle.sheet_rules.specs.Declarations.{is_ident, solid}
use Rattle.sheet_rules.specs.Scanning.{after_spaces, is_space}

-- each is a token of the text
abbrev pub Lie : List ℕ → List Token → Type 0
Lie text ts = All (IsTokenOf text) ts

pub lie_after_spaces : (text : List ℕ) (ts : List Token) → Lie text ts → Lie text (after_spaces ts)
unfolding after_spaces
lie_after_spaces text ts h = All-drop (IsTokenOf text) _ ts h

pub lie_after_separators : (text : List ℕ) (ts : List Token) → Lie text ts → Lie text (after_separators ts)
unfolding after_separators
lie_after_separators text ts h = All-drop (IsTokenOf text) _ ts h

lie_rest : (text : List ℕ) (t : Token) (ts : List Token) → Lie text (t ∷ ts) → Lie text ts
lie_rest text t ts h = All-drop (IsTokenOf text) 1 (t ∷ ts) h

colon_is : (k : Kind) (at : ℕ) (ts rest : List Token) → colon_of k at ts ≡ Ok rest → ts ≡ rest
colon_is kind.Colon at ts rest e = cc
colon_is _ at ts rest e = cc

pub lie_after_colon : (text : List ℕ) (end : ℕ) (ts rest : List Token) → colon_at end ts ≡ Ok rest → Lie text ts → Lie text rest
lie_after_colon text end [] rest e h = cc
lie_after_colon text end (t ∷ ts) rest e h = subst (Lie text) (colon_is t.kind t.from ts rest e) (lie_rest text t ts h)

-- what stands next is the first token or the block's end
record IsPart (p : Option Token × List Token) (t : Token) (ts : List Token) : Type 0 where
  name : (p.0 ≡ None) ⊎ (p.0 ≡ Some t)
  rest : p.1 ≡ ts

name_is : (p : Option Token × List Token) (t : Token) (ts : List Token) → (Some t, ts) ≡ p → IsPart p t ts
name_is p t ts e = record { name = inr (sym (ap (λ (q : Option Token × List Token). q.0) e)); rest = sym (ap (λ (q : Option Token × List Token). q.1) e) }

end_is : (p : Option Token × List Token) (t : Token) (ts : List Token) → (None, ts) ≡ p → IsPart p t ts
end_is p t ts e = record { name = inl (sym (ap (λ (q : Option Token × List Token). q.0) e)); rest = sym (ap (λ (q : Option Token × List Token). q.1) e) }

block_end_is : (block : BlockKind) (at : ℕ) (p : Option Token × List Token) (t : Token) (ts : List Token) → block_end_of block at ts ≡ Ok p → IsPart p t ts
block_end_is Attribute at p t ts e = cc
block_end_is Style at p t ts e = end_is p t ts (cc)
block_end_is Keyframe at p t ts e = end_is p t ts (cc)

part_is : (block : BlockKind) (k : Kind) (t : Token) (ts : List Token) (p : Option Token × List Token) → part_of block k t ts ≡ Ok p → IsPart p t ts
part_is block kind.Ident t ts p e = name_is p t ts (cc)
part_is block kind.CurlyClose t ts p e = block_end_is block t.from p t ts e
part_is block _ t ts p e = cc

lie_part : (text : List ℕ) (t : Token) (ts : List Token) (p : Option Token × List Token) → IsPart p t ts → Lie text (t ∷ ts)
    → Lie text p.1 × IfSome p.0 (IsTokenOf text)
lie_part text t ts p is h = (
  subst (Lie text) (sym is.rest) (lie_rest text t ts h),
  elim is.name [
    | inl none ↦ subst (λ (o : Option Token). IfSome o (IsTokenOf text)) (sym none) tt
    | inr some ↦ subst (λ (o : Option Token). IfSome o (IsTokenOf text)) (sym some) (All-head (IsTokenOf text) t ts h)
  ],
)

text_end_lies : (text : List ℕ) (block : BlockKind) (end : ℕ) (p : Option Token × List Token) → text_end_of block end ≡ Ok p → Lie text [] → Lie text p.1 × IfSome p.0 (IsTokenOf text)
text_end_lies text Attribute end p e h =
    let same : (None, []) ≡ p = cc in
    subst (λ (q : Option Token × List Token). Lie text q.1 × IfSome q.0 (IsTokenOf text)) same (h, tt)
text_end_lies text Style end p e h = cc
text_end_lies text Keyframe end p e h = cc

-- the name of a declaration and what follows it lie within the text
pub lie_after_part : (text : List ℕ) (block : BlockKind) (end : ℕ) (ts : List Token) (p : Option Token × List Token) → part_at block end ts ≡ Ok p → Lie text ts
    → Lie text p.1 × IfSome p.0 (IsTokenOf text)
lie_after_part text block end [] p e h = text_end_lies text block end p e h
lie_after_part text block end (t ∷ ts) p e h = lie_part text t ts p (part_is block t.kind t ts p e) h

closed_is : (k : Kind) (ts rest : List Token) → closed_by_kind k ts ≡ Some rest → ts ≡ rest
closed_is kind.CurlyClose ts rest e = cc
closed_is _ ts rest e = cc

-- what follows a `}` lies within the text
pub lie_after_close : (text : List ℕ) (ts rest : List Token) → after_close ts ≡ Some rest → Lie text ts → Lie text rest
lie_after_close text [] rest e h = cc
lie_after_close text (t ∷ ts) rest e h = subst (Lie text) (closed_is t.kind ts rest e) (lie_rest text t ts h)

-- and so each lies within it
pub within : (text : List ℕ) (ts : List Token) → Lie text ts → All (LiesWithin text) ts
within text ts h = λ k d p. (h k d p).within

-- ---- words

ident_is : (text : List ℕ) (t u : Token) (k : Kind) → t.kind ≡ k → (if is_ident k then Some t else None) ≡ Some u → IsTokenOf text t → IsTokenOf text u × IsIdentifier (bytes_of text u)
ident_is text t u kind.Ident is e h =
    let same : t ≡ u = cc in
    let word : IsIdentifier (bytes_of text t) = subst (λ (k : Kind). IsLexeme t.from k (bytes_of text t)) is h.lexeme in
    subst (λ (v : Token). IsTokenOf text v × IsIdentifier (bytes_of text v)) same (h, word)
ident_is text t u _ is e h = cc

-- a lone word is a token, and an identifier
pub lone_word_is : (text : List ℕ) (ts : List Token) (u : Token) → lone_word ts ≡ Some u → Lie text ts → IsTokenOf text u × IsIdentifier (bytes_of text u)
lone_word_is text [] u e h = cc
lone_word_is text (t ∷ []) u e h = ident_is text t u t.kind refl e (All-head (IsTokenOf text) t [] h)
lone_word_is text (t ∷ s ∷ ts) u e h = cc

-- the solid tokens are tokens of the text
pub lie_solid : (text : List ℕ) (ts : List Token) → Lie text ts → Lie text (solid ts)
lie_solid text ts h = All-filter (λ t. not (is_space t)) (IsTokenOf text) ts h
