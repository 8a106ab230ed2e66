-- The reading of a declaration is what the grammar says, or its first fault.
use Rattle.std.proofs.Common.{◌≡◌, ◌≢◌, ℕ, List, [], ◌∷◌, length, drop, take, refl, ap, sym, ◌∙◌, subst, arith}
use Rattle.std.specs.Prelude.{Result, Ok, Err}
use Rattle.css_token.specs.TokenLists.{bytes_of}
use Rattle.css_token.specs.declared.token.Kind.{Kind}
use Rattle.css_token.specs.declared.token.Kind.TheVariants as kind
use Rattle.css_token.specs.declared.token.Token.{Token}
use Rattle.shorthand_text.specs.KnownNames.{known_name}
use Rattle.sheet_types.specs.declared.declaration.DeclarationParts.{DeclarationParts}
use Rattle.sheet_rules.specs.declared.block_kind.BlockKind.{BlockKind}
use Rattle.sheet_rules.specs.declared.fault.CssFault.{CssFault}
use Rattle.sheet_rules.specs.declared.fault.CssFault.TheVariants.{BadToken}
use Rattle.sheet_rules.specs.Blocks.{colon_at, colon_of, declaration_at}
use Rattle.sheet_rules.specs.BlockGrammar.{IsColon, IsDeclaration, IsFaultyDeclaration, IsNoColon}
use Rattle.sheet_rules.specs.BlockGrammar as grammar
use Rattle.sheet_rules.specs.Declarations.{judged, solid}
use Rattle.sheet_rules.specs.Faults.{◌>>=◌}
use Rattle.sheet_rules.specs.Pairing.{IsValue}
use Rattle.sheet_rules.specs.Scanning.{after_spaces, value_len}
use Rattle.sheet_rules.proofs.Pairs.{IsCounted, at_first, unpaired_is_told, value_is_counted}

-- ---- the colon

other_than_colon : (k : Kind) (at : ℕ) (ts : List Token) → k ≢ kind.Colon → colon_of k at ts ≡ Err (BadToken at)
other_than_colon kind.Colon at ts other = absurd (other refl)
other_than_colon k at ts other = refl

colon_is : (end : ℕ) (ts value : List Token) → IsColon ts value → colon_at end (after_spaces ts) ≡ Ok value
colon_is end ts value h = ap (colon_at end) h.stands ∙ ap (λ k. colon_of k h.colon.from value) h.is

no_colon_is : (end : ℕ) (us : List Token) (at : ℕ) → IsNoColon end us at → colon_at end us ≡ Err (BadToken at)
no_colon_is end us at grammar.text_end = refl
no_colon_is end us at (grammar.other t ts other) = other_than_colon t.kind t.from ts other

-- what the result says of the tokens after the spaces
abbrev ColonSays : ℕ → List Token → Result (List Token) CssFault → Type 0
ColonSays end ts (Ok value) = IsColon ts value
ColonSays end ts (Err fault) = (at : ℕ) × (fault ≡ BadToken at) × IsNoColon end (after_spaces ts) at

colon_says : (end : ℕ) (ts : List Token) → ColonSays end ts (colon_at end (after_spaces ts))
colon_says end ts = by (after_spaces ts) refl
  where
    of_kind : (t : Token) (us : List Token) (k : Kind) → after_spaces ts ≡ t ∷ us → t.kind ≡ k → ColonSays end ts (colon_of k t.from us)
    of_kind t us kind.Colon stands is = record { colon = t; is = is; stands = stands }
    of_kind t us k stands is = (t.from, refl, subst (λ l. IsNoColon end l t.from) (sym stands) (grammar.other t us (λ e. cc)))

    by : (us : List Token) → after_spaces ts ≡ us → ColonSays end ts (colon_at end us)
    by [] stands = (end, refl, subst (λ l. IsNoColon end l end) (sym stands) grammar.text_end)
    by (t ∷ us) stands = of_kind t us t.kind stands refl

-- ---- the declaration

module _ (block : BlockKind) (text : List ℕ) (place : ℕ) (name : Token) (ts : List Token) where
  abbrev pub Given : Type 0
  Given = Result (List DeclarationParts × List Token) CssFault

  judging : List Token → ℕ → Result (List DeclarationParts) CssFault
  judging value count = judged block place name.from text (solid (take count value)) (known_name (bytes_of text name))

  abbrev ended : List Token → ℕ → Result (List DeclarationParts) CssFault → Given
  ended value count declared = declared >>= (λ d. Ok (d, drop count value))

  abbrev counted : List Token → Result ℕ CssFault → Given
  counted value count = count >>= (λ n. ended value n (judging value n))

  abbrev begun : Result (List Token) CssFault → Given
  begun value = value >>= (λ v. counted v (value_len (length text) [] v))

  parts : declaration_at block text place name ts ≡ begun (colon_at (length text) (after_spaces ts))
  unfolding declaration_at judging
  parts = refl

  abbrev pub DeclarationSays : Given → Type 0
  DeclarationSays (Ok found) = IsDeclaration block text place name ts found.0 found.1
  DeclarationSays (Err fault) = IsFaultyDeclaration block text place name ts fault

  of_judged : (value : List Token) (count : ℕ) → IsColon ts value → IsValue value count → (r : Result (List DeclarationParts) CssFault) → judging value count ≡ r
      → DeclarationSays (ended value count r)
  unfolding judging
  of_judged value count colon is_value (Ok declared) gives = record { value = value; colon = colon; count = count; is_value = is_value; gives = gives; behind = refl }
  of_judged value count colon is_value (Err fault) gives = grammar.refused value count fault colon is_value gives

  of_counted : (value : List Token) → IsColon ts value → (r : Result ℕ CssFault) → IsCounted (length text) value 0 r → DeclarationSays (counted value r)
  of_counted value colon (Ok n) h = of_judged value n colon (subst (IsValue value) (omega arith) h) (judging value n) refl
  of_counted value colon (Err fault) h = subst (IsFaultyDeclaration block text place name ts) (sym h.1) (grammar.unpaired value h.0 colon h.2)

  of_colon : (r : Result (List Token) CssFault) → ColonSays (length text) ts r → DeclarationSays (begun r)
  of_colon (Ok value) h = of_counted value h (value_len (length text) [] value) (at_first (length text) value)
  of_colon (Err fault) h = subst (IsFaultyDeclaration block text place name ts) (sym h.1) (grammar.no_colon h.0 h.2)

  -- the reading says what the grammar does
  pub declaration_says : DeclarationSays (declaration_at block text place name ts)
  declaration_says = subst DeclarationSays (sym parts) (of_colon (colon_at (length text) (after_spaces ts)) (colon_says (length text) ts))

  -- and what the grammar says is read
  pub declaration_is_read : (declared : List DeclarationParts) (rest : List Token) → IsDeclaration block text place name ts declared rest
      → declaration_at block text place name ts ≡ Ok (declared, rest)
  unfolding judging
  declaration_is_read declared rest h =
      parts ∙ ap begun (colon_is (length text) ts h.value h.colon) ∙ ap (counted h.value) (value_is_counted (length text) h.value h.count h.is_value)
      ∙ ap (ended h.value h.count) h.gives ∙ ap (λ r. Ok (declared, r)) (sym h.behind)

  pub faulty_declaration_is_read : (fault : CssFault) → IsFaultyDeclaration block text place name ts fault → declaration_at block text place name ts ≡ Err fault
  unfolding judging
  faulty_declaration_is_read fault (grammar.no_colon at none) = parts ∙ ap begun (no_colon_is (length text) (after_spaces ts) at none)
  faulty_declaration_is_read fault (grammar.unpaired value at colon bad) =
      parts ∙ ap begun (colon_is (length text) ts value colon) ∙ ap (counted value) (unpaired_is_told (length text) bad)
  faulty_declaration_is_read fault (grammar.refused value count e colon is_value gives) =
      parts ∙ ap begun (colon_is (length text) ts value colon) ∙ ap (counted value) (value_is_counted (length text) value count is_value) ∙ ap (ended value count) gives
