-- Siblings alike are matched by the same selectors, and so declare alike.
use Rattle.std.proofs.Common.{◌≡◌, ℕ, Bool, true, false, ◌&&◌, eqb, List, [], ◌∷◌, ◌++◌, map, refl, ap, sym, ◌∙◌, inl, inr}
use Rattle.std.specs.Bool.{Decides}
use Rattle.std.specs.Cmp.Lexicographic.{pointwise}
use Rattle.std.specs.Prelude.{IsSomeAnd, filter, nat_eq, reverse, Option, None, Some}
use Rattle.std.specs.Option.{option_eq, option_map_or}
use Rattle.std.specs.List.{list_all, list_any}
use Rattle.std.specs.Str.{bytes_eq}
use Rattle.std.proofs.Math.Path.{fun_ext}
use Rattle.std.proofs.lemmas.Bool.{cases_Bool, eqb-true, false≢true}
use Rattle.std.proofs.lemmas.Bool.Decides.{Decides-eqb}
use Rattle.std.proofs.lemmas.Slice.Eq.{bytes_eq-Decides, slice_eq-Decides}
use Rattle.doc_tree.specs.Element.{Document, Element, element_of, inclusive_ancestors}
use Rattle.doc_tree.specs.Shape.{IsTree}
use Rattle.selectors_mini.specs.Compounds.{CompoundSelector, specificity_of}
use Rattle.selectors_mini.specs.Matching.{fits, matches_of, represents, stands}
use Rattle.sheet_types.specs.Sheets.{SheetRules}
use Rattle.cascade_sort.specs.Alike.{AreAlike, AreSiblingsAlike, are_alike, are_siblings_alike}
use Rattle.cascade_sort.specs.Applying.{Applied, applied_from, joined_from, rules_of, style_declarations, style_text}
use Rattle.cascade_sort.specs.Lexicographic.{greatest_by}
use Rattle.cascade_sort.specs.Precedences.{of_rule, of_style, specificity_keys}
use Rattle.cascade_sort.specs.Winning.{all_winners, declared_of}

-- ---- the test

both_true : (a b : Bool) → (a && b) ≡ true → (a ≡ true) × (b ≡ true)
both_true true b is = (refl, is)
both_true false b is = absurd (false≢true is)

from_both : (a b : Bool) → a ≡ true → b ≡ true → (a && b) ≡ true
from_both a b one other = rw (one, other) refl

option_eq-Decides : {A : Type 0} (E : A → A → Bool) → ((a b : A) → Decides (E a b) (a ≡ b)) → (o p : Option A) → Decides (option_eq E o p) (o ≡ p)
option_eq-Decides E decides None None = (λ is. refl, λ is. refl)
option_eq-Decides E decides None (Some b) = (λ is. absurd (false≢true is), λ is. absurd (cc))
option_eq-Decides E decides (Some a) None = (λ is. absurd (false≢true is), λ is. absurd (cc))
option_eq-Decides E decides (Some a) (Some b) = (λ is. ap Some ((decides a b).0 is), λ is. (decides a b).1 (cc))

parents : (e f : Element) → Decides (option_eq nat_eq e.parent f.parent) (e.parent ≡ f.parent)
parents e f = option_eq-Decides nat_eq Decides-eqb e.parent f.parent

classes : (e f : Element) → Decides (pointwise bytes_eq e.classes f.classes) (e.classes ≡ f.classes)
classes e f = slice_eq-Decides bytes_eq-Decides e.classes f.classes (pointwise bytes_eq e.classes f.classes) refl

ids : (e f : Element) → Decides (option_eq bytes_eq e.id f.id) (e.id ≡ f.id)
ids e f = option_eq-Decides bytes_eq bytes_eq-Decides e.id f.id

pub alike_if_tested : (e f : Element) → are_alike e f ≡ true → AreAlike e f
alike_if_tested e f is =
    let first = both_true (option_eq nat_eq e.parent f.parent) _ is in
    let second = both_true (pointwise bytes_eq e.classes f.classes) _ first.1 in
    let third = both_true (bytes_eq e.tag f.tag) _ second.1 in
    let fourth = both_true (bytes_eq e.style f.style) _ third.1 in
    record {
      parent = (parents e f).0 first.0;
      tag = (bytes_eq-Decides e.tag f.tag).0 third.0;
      id = (ids e f).0 fourth.1;
      classes = (classes e f).0 second.0;
      style = (bytes_eq-Decides e.style f.style).0 fourth.0;
    }

pub tested_if_alike : (e f : Element) → AreAlike e f → are_alike e f ≡ true
tested_if_alike e f h =
    from_both _ _ ((parents e f).1 h.parent)
    (from_both _ _ ((classes e f).1 h.classes)
    (from_both _ _ ((bytes_eq-Decides e.tag f.tag).1 h.tag)
    (from_both _ _ ((bytes_eq-Decides e.style f.style).1 h.style) ((ids e f).1 h.id))))

siblings_if_tested : (o p : Option Element) → option_map_or (λ e. option_map_or (are_alike e) p false) o false ≡ true → IsSomeAnd o (λ e. IsSomeAnd p (AreAlike e))
siblings_if_tested None p is = absurd (false≢true is)
siblings_if_tested (Some e) None is = absurd (false≢true is)
siblings_if_tested (Some e) (Some f) is = alike_if_tested e f is

tested_if_siblings : (o p : Option Element) → IsSomeAnd o (λ e. IsSomeAnd p (AreAlike e)) → option_map_or (λ e. option_map_or (are_alike e) p false) o false ≡ true
tested_if_siblings None p h = absurd h
tested_if_siblings (Some e) None h = absurd h
tested_if_siblings (Some e) (Some f) h = tested_if_alike e f h

pub siblings_tested : (n m : ℕ) (es : List Element) → Decides (are_siblings_alike n m es) (AreSiblingsAlike n m es)
siblings_tested n m es = (siblings_if_tested (element_of n es) (element_of m es), tested_if_siblings (element_of n es) (element_of m es))

-- ---- matching

-- a compound looks at an element's type, id and classes alone
abbrev represents_by : CompoundSelector → List ℕ → Option (List ℕ) → List (List ℕ) → Bool
represents_by c tag id classes =
    option_map_or (λ t. bytes_eq tag t) c.tag true
    && (list_all (λ x. option_map_or (λ own. bytes_eq own x) id false) c.ids && list_all (λ x. list_any (λ own. bytes_eq own x) classes) c.classes)

represents_alike : (c : CompoundSelector) (e f : Element) → AreAlike e f → represents c e ≡ represents c f
represents_alike c e f h = λ i. represents_by c (h.tag i) (h.id i) (h.classes i)

fits_alike : (s : List CompoundSelector) (e f : Element) (above : List Element) → AreAlike e f → fits s (e ∷ above) ≡ fits s (f ∷ above)
fits_alike [] e f above h = refl
fits_alike (c ∷ []) e f above h = represents_alike c e f h
fits_alike (c ∷ before ∷ cs) e f above h = ap (λ b. b && stands before.next (fits (before ∷ cs)) above) (represents_alike c e f h)

-- ---- winners

-- the declarations that apply where the test says which selectors match, and of a style text
abbrev applied_by : List (Option SheetRules) → (List CompoundSelector → Bool) → List ℕ → List Applied
applied_by sheets matches text =
    joined_from
    (λ k s. joined_from (λ at r. option_map_or (λ g. applied_from (of_rule k at g) 0 r.declarations) (greatest_by specificity_keys (map specificity_of (filter matches r.selectors))) []) 0 (rules_of s))
    0 sheets
    ++ applied_from of_style 0 (style_declarations text)

-- where an element stands
record IsFound (n : ℕ) (es : List Element) (e : Element) : Type 0 where
  before : List Element
  after : List Element
  is : es ≡ before ++ e ∷ after
  number : e.number ≡ n

found : (n : ℕ) (es : List Element) (e : Element) → element_of n es ≡ Some e → IsFound n es e
found n [] e there = absurd (cc)
found n (x ∷ es) e there =
    elim (cases_Bool (eqb x.number n)) [
      | inl same ↦
          let is : Some x ≡ Some e = rw same at there in
          let itself : x ≡ e = cc in
          record { before = []; after = es; is = ap (λ y. y ∷ es) itself; number = sym (ap (λ y. y.number) itself) ∙ eqb-true x.number n same }
      | inr other ↦
          let rest = found n es e (rw other at there) in
          record { before = x ∷ rest.before; after = rest.after; is = ap (λ ys. x ∷ ys) rest.is; number = rest.number }
    ]

-- the ancestors of an element go by its parent
abbrev pub AncestorsGoByParents : Type 0
AncestorsGoByParents = (d : Document) (before after : List Element) (e : Element) → IsTree d → d.elements ≡ before ++ e ∷ after
    → inclusive_ancestors d.elements e.number ≡ e ∷ option_map_or (inclusive_ancestors d.elements) e.parent []

chain_of : AncestorsGoByParents → (d : Document) (n : ℕ) (e : Element) → IsTree d → element_of n d.elements ≡ Some e
    → inclusive_ancestors d.elements n ≡ e ∷ option_map_or (inclusive_ancestors d.elements) e.parent []
chain_of law d n e tree there =
    let at = found n d.elements e there in
    ap (inclusive_ancestors d.elements) (sym at.number) ∙ law d at.before at.after e tree at.is

pub alike_declare_alike : AncestorsGoByParents → (sheets : List (Option SheetRules)) (d : Document) (n m : ℕ) (e f : Element)
    → IsTree d → element_of n d.elements ≡ Some e → element_of m d.elements ≡ Some f → AreAlike e f
    → declared_of sheets d.elements n ≡ declared_of sheets d.elements m
alike_declare_alike law sheets d n m e f tree one other h =
    let above : List Element = option_map_or (inclusive_ancestors d.elements) f.parent [] in
    let chain : inclusive_ancestors d.elements n ≡ e ∷ above =
    chain_of law d n e tree one ∙ ap (λ p. e ∷ option_map_or (inclusive_ancestors d.elements) p []) h.parent in
    let same : (s : List CompoundSelector) → matches_of s (inclusive_ancestors d.elements n) ≡ matches_of s (inclusive_ancestors d.elements m) =
    λ s. ap (matches_of s) chain ∙ fits_alike (reverse s) e f above h ∙ sym (ap (matches_of s) (chain_of law d m f tree other)) in
    let text : style_text d.elements n ≡ style_text d.elements m =
    ap (λ o. option_map_or (λ x. x.style) o []) one ∙ h.style ∙ sym (ap (λ o. option_map_or (λ x. x.style) o []) other) in
    ap (λ (matches : List CompoundSelector → Bool). all_winners (applied_by sheets matches (style_text d.elements n))) (fun_ext same)
    ∙ ap (λ t. all_winners (applied_by sheets (λ s. matches_of s (inclusive_ancestors d.elements m)) t)) text

declare_alike_by : AncestorsGoByParents → (sheets : List (Option SheetRules)) (d : Document) (n m : ℕ) (o p : Option Element)
    → IsTree d → element_of n d.elements ≡ o → element_of m d.elements ≡ p → IsSomeAnd o (λ e. IsSomeAnd p (AreAlike e))
    → declared_of sheets d.elements n ≡ declared_of sheets d.elements m
declare_alike_by law sheets d n m None p tree one other h = absurd h
declare_alike_by law sheets d n m (Some e) None tree one other h = absurd h
declare_alike_by law sheets d n m (Some e) (Some f) tree one other h = alike_declare_alike law sheets d n m e f tree one other h

pub tested_declare_alike : AncestorsGoByParents → (sheets : List (Option SheetRules)) (d : Document) (n m : ℕ)
    → IsTree d → are_siblings_alike n m d.elements ≡ true → declared_of sheets d.elements n ≡ declared_of sheets d.elements m
tested_declare_alike law sheets d n m tree is =
    declare_alike_by law sheets d n m (element_of n d.elements) (element_of m d.elements) tree refl refl ((siblings_tested n m d.elements).0 is)
