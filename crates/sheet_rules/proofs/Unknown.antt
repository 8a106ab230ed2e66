-- Declarations of unknown names, cut out of a block.
use Rattle.std.proofs.Common.{◌≡◌, ℕ, ◌+◌, Bool, true, false, List, [], ◌∷◌, ◌++◌, map, refl, ap, sym, subst, ◌∙◌, arith}
use Rattle.std.specs.Prelude.{Option, None, Some, Result, Ok, Err, if◌then◌else◌, take}
use Rattle.std.proofs.lemmas.List.{map-append}
use Rattle.css_token.specs.TokenLists.{bytes_of}
use Rattle.css_token.specs.declared.token.Kind.TheVariants as kind
use Rattle.css_token.specs.declared.token.Token.{Token}
use Rattle.token_parts.specs.Parts.{token_parts_of}
use Rattle.token_parts.specs.declared.fault.ValueFault.{ValueFault}
use Rattle.shorthand_text.specs.Declaring.{declared_of}
use Rattle.shorthand_text.specs.KnownNames.{known_name}
use Rattle.shorthand_text.specs.declared.known_name.KnownName.{KnownName}
use Rattle.shorthand_text.specs.declared.longhand.Longhand.{Longhand}
use Rattle.sheet_types.specs.declared.declaration.DeclarationParts.{DeclarationParts}
use Rattle.sheet_rules.specs.declared.block_kind.BlockKind.{BlockKind}
use Rattle.sheet_rules.specs.Blocks.{after_separators}
use Rattle.sheet_rules.specs.BlockGrammar.{IsBlock, IsBlockEnd, IsDeclaration, IsName}
use Rattle.sheet_rules.specs.BlockGrammar as grammar
use Rattle.sheet_rules.specs.Declarations.{declaration_of, declarations_of, ends_important, is_dropped, judged, solid, unmarked}
use Rattle.sheet_rules.specs.Moving.{moved_declaration}

-- the same one place later
abbrev MovedTo : List DeclarationParts → List DeclarationParts → Type 0
MovedTo earlier later = later ≡ map moved_declaration earlier

longhands_moved : (place : ℕ) (important : Bool) (longhands : List Longhand) → MovedTo (map (declaration_of place important) longhands) (map (declaration_of (place + 1) important) longhands)
longhands_moved place important [] = refl
longhands_moved place important (x ∷ xs) = ap (λ ds. declaration_of (place + 1) important x ∷ ds) (longhands_moved place important xs)

values_moved : (name : KnownName) (place at : ℕ) (important : Bool) (r : Result (List Longhand) ValueFault) (later : List DeclarationParts)
    → declarations_of name at (place + 1) important r ≡ Ok later → (earlier : List DeclarationParts) × (declarations_of name at place important r ≡ Ok earlier) × MovedTo earlier later
values_moved name place at important (Ok longhands) later e =
    let same : map (declaration_of (place + 1) important) longhands ≡ later = cc in
    (map (declaration_of place important) longhands, refl, sym same ∙ longhands_moved place important longhands)
values_moved name place at important (Err fault) later e = cc

module _ (block : BlockKind) (text : List ℕ) where
  known_moved : (place at : ℕ) (tokens : List Token) (name : KnownName) (later : List DeclarationParts) → judged block (place + 1) at text tokens (Some name) ≡ Ok later
      → (earlier : List DeclarationParts) × (judged block place at text tokens (Some name) ≡ Ok earlier) × MovedTo earlier later
  unfolding judged
  known_moved place at tokens name later e = by_drop (is_dropped block name (ends_important text tokens)) e where
    value : Result (List Longhand) ValueFault
    value = declared_of name (token_parts_of text (unmarked text tokens))

    by_drop : (b : Bool) → (if b then Ok [] else declarations_of name at (place + 1) (ends_important text tokens) value) ≡ Ok later
        → (earlier : List DeclarationParts) × ((if b then Ok [] else declarations_of name at place (ends_important text tokens) value) ≡ Ok earlier) × MovedTo earlier later
    by_drop true h = let none : [] ≡ later = cc in ([], refl, sym none)
    by_drop false h = values_moved name place at (ends_important text tokens) value later h

  judged_moved : (place at : ℕ) (tokens : List Token) (name : Option KnownName) (later : List DeclarationParts) → judged block (place + 1) at text tokens name ≡ Ok later
      → (earlier : List DeclarationParts) × (judged block place at text tokens name ≡ Ok earlier) × MovedTo earlier later
  unfolding judged
  judged_moved place at tokens None later e = let none : [] ≡ later = cc in ([], refl, sym none)
  judged_moved place at tokens (Some name) later e = known_moved place at tokens name later e

  declaration_moved : (place : ℕ) (name : Token) (after : List Token) (later : List DeclarationParts) (next : List Token) → IsDeclaration block text (place + 1) name after later next
      → (earlier : List DeclarationParts) × IsDeclaration block text place name after earlier next × MovedTo earlier later
  declaration_moved place name after later next h =
      let m = judged_moved place name.from (solid (take h.count h.value)) (known_name (bytes_of text name)) later h.gives in
      (m.0, record { value = h.value; colon = h.colon; count = h.count; is_value = h.is_value; gives = m.1; behind = h.behind }, m.2)

  -- a block from a place on is the same from the place before
  block_moved : {at : ℕ} {ts rest : List Token} {later : List DeclarationParts} → IsBlock block text at ts later rest → (place : ℕ) → at ≡ place + 1
      → (earlier : List DeclarationParts) × IsBlock block text place ts earlier rest × MovedTo earlier later
  block_moved (grammar.ended at ts rest h) place e = ([], grammar.ended place ts rest h, refl)
  block_moved (grammar.declaration at ts name after first others next rest few is_name declared more) place e =
      let P : ℕ → Type 0 = λ n. IsDeclaration block text n name after first next in
      let d = declaration_moved place name after first next (subst P e declared) in
      let m = block_moved more (place + 1) (omega arith) in (
        d.0 ++ m.0,
        grammar.declaration place ts name after d.0 m.0 next rest (omega arith) is_name d.1 m.1,
        ap (λ ds. ds ++ others) d.2 ∙ ap (λ ds. map moved_declaration d.0 ++ ds) m.2 ∙ sym (map-append moved_declaration d.0 m.0),
      )

  no_name_ends : (at rest : List Token) (name : Token) (after : List Token) → IsBlockEnd block at rest → at ≡ name ∷ after → name.kind ≡ kind.Ident → ⊥
  no_name_ends at rest name after (grammar.text_end is) e k = cc
  no_name_ends at rest name after (grammar.closed t us other is) e k =
      let same : t ≡ name = cc in
      let no : kind.Ident ≡ kind.CurlyClose = sym k ∙ ap (λ (x : Token). x.kind) (sym same) ∙ is in
      cc

  nothing_declared : (place : ℕ) (name : Token) (after : List Token) (first : List DeclarationParts) (next : List Token) → known_name (bytes_of text name) ≡ None
      → IsDeclaration block text place name after first next → first ≡ []
  unfolding judged
  nothing_declared place name after first next unknown h =
      let e = ap (judged block place name.from text (solid (take h.count h.value))) (sym unknown) ∙ h.gives in
      let same : [] ≡ first = cc in
      sym same

  -- what follows a declaration of an unknown name
  abbrev FollowsUnknown : ℕ → Token → List Token → List DeclarationParts → List Token → Type 0
  FollowsUnknown place name after ds rest =
      (next : List Token) × (others : List DeclarationParts) × IsDeclaration block text place name after [] next × IsBlock block text place next others rest
      × (ds ≡ map moved_declaration others)

  follows : (place : ℕ) (name : Token) (after : List Token) (first others : List DeclarationParts) (next rest : List Token) → known_name (bytes_of text name) ≡ None
      → IsDeclaration block text place name after first next → IsBlock block text (place + 1) next others rest → FollowsUnknown place name after (first ++ others) rest
  follows place name after first others next rest unknown declared more =
      let none = nothing_declared place name after first next unknown declared in
      let m = block_moved more place refl in
      let P : List DeclarationParts → Type 0 = λ ds. IsDeclaration block text place name after ds next in
      (next, m.0, subst P none declared, m.1, ap (λ ds. ds ++ others) none ∙ m.2)

  pub unknown_cut : {place : ℕ} {ts rest : List Token} {ds : List DeclarationParts} → IsBlock block text place ts ds rest → (name : Token) (after : List Token)
      → IsName (after_separators ts) name after → known_name (bytes_of text name) ≡ None → FollowsUnknown place name after ds rest
  unknown_cut (grammar.ended place ts rest h) name after n unknown = absurd (no_name_ends (after_separators ts) rest name after h n.stands n.is)
  unknown_cut (grammar.declaration place ts name after first others next rest few is_name declared more) wanted behind n unknown =
      let stands : name ∷ after ≡ wanted ∷ behind = sym is_name.stands ∙ n.stands in
      let same : name ≡ wanted = cc in
      let rest_same : after ≡ behind = cc in
      let P : Token → Type 0 = λ t. known_name (bytes_of text t) ≡ None in
      let Q : Token → Type 0 = λ t. FollowsUnknown place t behind (first ++ others) rest in
      let R : List Token → Type 0 = λ us. FollowsUnknown place name us (first ++ others) rest in
      subst Q same (subst R rest_same (follows place name after first others next rest (subst P (sym same) unknown) declared more))
