-- A declaration is told by its precedence, and what is found has the strongest of what applies.
use Rattle.std.proofs.Common.{◌≡◌, ℕ, Bool, true, false, List, ◌∷◌, ◌++◌, refl, ap, sym, ◌∙◌, arith, ⊎_elim}
use Rattle.std.specs.Prelude.{Contains, slice_get, slice_index_or, Option, None, Some}
use Rattle.std.specs.Option.{option_map_or}
use Rattle.std.proofs.lemmas.List.Elements.{Contains-append_cases, Contains-append_left, Contains-append_right}
use Rattle.std.proofs.lemmas.Option.{get_or_from_slice_get}
use Rattle.doc_tree.specs.Element.{Element}
use Rattle.sheet_types.specs.Sheets.{SheetRules}
use Rattle.sheet_types.specs.declared.declaration.DeclarationParts.{DeclarationParts}
use Rattle.cascade_sort.specs.declared.precedence.Precedence.{Precedence}
use Rattle.cascade_sort.specs.Applying.{Applied, applied, applied_from, applied_in_sheets, rules_of}
use Rattle.cascade_sort.specs.Finding.{all_found, declaration_by, declaration_in_rule, found_in_sheets}
use Rattle.cascade_sort.specs.Lexicographic.{is_at_most}
use Rattle.cascade_sort.specs.Precedences.{attached_key, keys_of, of_declaration, of_rule, of_style}
use Rattle.cascade_sort.specs.Winning.{AreApart}
use Rattle.cascade_sort.proofs.Candidates.{InRule, applies_if_found, found_if_applies, from_applied, from_found, in_applied, in_found}
use Rattle.cascade_sort.proofs.Orders.{at_most_itself}
use Rattle.cascade_sort.proofs.Standing.{from_whole}

-- ---- what a precedence tells

-- the look-up of its precedence gives the declaration
pub record IsTold (find : Precedence → Option DeclarationParts) (a : Applied) : Type 0 where
  pub parts : DeclarationParts
  pub found : find a.precedence ≡ Some parts
  pub is : a ≡ applied parts a.precedence

told_in_rule : (sheets : List (Option SheetRules)) (style : List DeclarationParts) (a : Applied) → InRule sheets a → IsTold (declaration_by sheets style) a
told_in_rule sheets style a h =
    let sheet : slice_index_or sheets h.k None ≡ h.sheet = get_or_from_slice_get sheets h.k h.sheet None h.at_sheet in
    let rule : slice_get (rules_of (slice_index_or sheets h.k None)) h.i ≡ Some h.rule = ap (λ s. slice_get (rules_of s) h.i) sheet ∙ h.at_rule in
    let there : declaration_in_rule sheets (of_declaration (of_rule h.k h.i h.specificity) h.j) ≡ Some h.parts =
    ap (λ r. option_map_or (λ x. slice_get x.declarations h.j) r None) rule ∙ h.at_parts in
    record {
      parts = h.parts;
      found = ap (λ x. declaration_by sheets style x.precedence) h.is ∙ there;
      is = h.is ∙ ap (λ x. applied h.parts x.precedence) (sym h.is);
    }

told_in_style : (sheets : List (Option SheetRules)) (style : List DeclarationParts) (a : Applied) → Contains (applied_from of_style 0 style) a → IsTold (declaration_by sheets style) a
told_in_style sheets style a h =
    let s = from_whole of_style style a h in
    record {
      parts = s.parts;
      found = ap (λ x. declaration_by sheets style x.precedence) s.is ∙ s.stands;
      is = s.is ∙ ap (λ x. applied s.parts x.precedence) (sym s.is);
    }

-- ---- all that is found, and all that applies

-- the declarations that apply, by the element's chain and its style attribute
abbrev pub all_applied : List Element → List (Option SheetRules) → List DeclarationParts → List Applied
all_applied chain sheets style = applied_in_sheets chain sheets ++ applied_from of_style 0 style

pub applied_is_told : (chain : List Element) (sheets : List (Option SheetRules)) (style : List DeclarationParts) (a : Applied) → Contains (all_applied chain sheets style) a
    → IsTold (declaration_by sheets style) a
applied_is_told chain sheets style a h =
    ⊎_elim
    (λ (rules : Contains (applied_in_sheets chain sheets) a). told_in_rule sheets style a (from_applied chain sheets a rules).stands)
    (λ (attribute : Contains (applied_from of_style 0 style) a). told_in_style sheets style a attribute)
    (Contains-append_cases (applied_in_sheets chain sheets) (applied_from of_style 0 style) a h)

-- declarations of one precedence are the same
pub one_of_precedence : (find : Precedence → Option DeclarationParts) (a b : Applied) → IsTold find a → IsTold find b → a.precedence ≡ b.precedence → a ≡ b
one_of_precedence find a b f g same =
    let parts : f.parts ≡ g.parts = (let e : Some f.parts ≡ Some g.parts = sym f.found ∙ ap find same ∙ g.found in cc) in
    f.is ∙ ap (λ d. applied d a.precedence) parts ∙ ap (applied g.parts) same ∙ sym g.is

-- no two that apply have one precedence
pub applied_are_apart : (chain : List Element) (sheets : List (Option SheetRules)) (style : List DeclarationParts) → AreApart (all_applied chain sheets style)
applied_are_apart chain sheets style a b among also same =
    one_of_precedence (declaration_by sheets style) a b (applied_is_told chain sheets style a among) (applied_is_told chain sheets style b also) same

pub applied_is_found : (e : Element) (above : List Element) (sheets : List (Option SheetRules)) (style : List DeclarationParts) (a : Applied)
    → Contains (all_applied (e ∷ above) sheets style) a → Contains (all_found (e ∷ above) e sheets style) a
applied_is_found e above sheets style a h =
    ⊎_elim
    (λ (rules : Contains (applied_in_sheets (e ∷ above) sheets) a).
    Contains-append_left (found_in_sheets (e ∷ above) e sheets) (applied_from of_style 0 style) a
    (in_found e above sheets a (found_if_applies (e ∷ above) sheets a (from_applied (e ∷ above) sheets a rules))))
    (λ (attribute : Contains (applied_from of_style 0 style) a). Contains-append_right (found_in_sheets (e ∷ above) e sheets) (applied_from of_style 0 style) a attribute)
    (Contains-append_cases (applied_in_sheets (e ∷ above) sheets) (applied_from of_style 0 style) a h)

-- the same declaration applies with a precedence as great
pub record IsCovered (applying : List Applied) (a : Applied) : Type 0 where
  pub other : Applied
  pub applies : Contains applying other
  pub longhand : other.longhand ≡ a.longhand
  pub important : other.important ≡ a.important
  pub most : is_at_most (keys_of a.precedence) (keys_of other.precedence) ≡ true

pub found_is_covered : (chain : List Element) (e : Element) (sheets : List (Option SheetRules)) (style : List DeclarationParts) (a : Applied)
    → Contains (all_found chain e sheets style) a → IsCovered (all_applied chain sheets style) a
found_is_covered chain e sheets style a h =
    ⊎_elim
    (λ (rules : Contains (found_in_sheets chain e sheets) a).
    let too = applies_if_found chain sheets a (from_found chain e sheets a rules) in
    record {
      other = too.other;
      applies = Contains-append_left (applied_in_sheets chain sheets) (applied_from of_style 0 style) too.other (in_applied chain sheets too.other too.applies);
      longhand = too.longhand;
      important = too.important;
      most = too.most;
    })
    (λ (attribute : Contains (applied_from of_style 0 style) a). record {
      other = a;
      applies = Contains-append_right (applied_in_sheets chain sheets) (applied_from of_style 0 style) a attribute;
      longhand = refl;
      important = refl;
      most = at_most_itself (keys_of a.precedence);
    })
    (Contains-append_cases (found_in_sheets chain e sheets) (applied_from of_style 0 style) a h)

-- ---- keys

pub same_attached : (b c : Bool) → attached_key b ≡ attached_key c → b ≡ c
same_attached true true is = refl
same_attached true false is = absurd (omega (arith, is))
same_attached false true is = absurd (omega (arith, is))
same_attached false false is = refl

abbrev pub of_parts : Bool → ℕ → ℕ → ℕ → ℕ → ℕ → ℕ → Precedence
of_parts attached ids classes types sheet rule declaration =
    record { attached = attached; specificity = (ids, classes, types); sheet = sheet; rule = rule; declaration = declaration }

pub same_precedence : (p q : Precedence) → keys_of p ≡ keys_of q → p ≡ q
same_precedence p q is =
    let attached : p.attached ≡ q.attached = same_attached p.attached q.attached (cc) in
    let ids : p.specificity.0 ≡ q.specificity.0 = cc in
    let classes : p.specificity.1 ≡ q.specificity.1 = cc in
    let types : p.specificity.2 ≡ q.specificity.2 = cc in
    let sheet : p.sheet ≡ q.sheet = cc in
    let rule : p.rule ≡ q.rule = cc in
    let declaration : p.declaration ≡ q.declaration = cc in
    ap (λ x. of_parts x p.specificity.0 p.specificity.1 p.specificity.2 p.sheet p.rule p.declaration) attached
    ∙ ap (λ x. of_parts q.attached x p.specificity.1 p.specificity.2 p.sheet p.rule p.declaration) ids
    ∙ ap (λ x. of_parts q.attached q.specificity.0 x p.specificity.2 p.sheet p.rule p.declaration) classes
    ∙ ap (λ x. of_parts q.attached q.specificity.0 q.specificity.1 x p.sheet p.rule p.declaration) types
    ∙ ap (λ x. of_parts q.attached q.specificity.0 q.specificity.1 q.specificity.2 x p.rule p.declaration) sheet
    ∙ ap (λ x. of_parts q.attached q.specificity.0 q.specificity.1 q.specificity.2 q.sheet x p.declaration) rule
    ∙ ap (λ x. of_parts q.attached q.specificity.0 q.specificity.1 q.specificity.2 q.sheet q.rule x) declaration
