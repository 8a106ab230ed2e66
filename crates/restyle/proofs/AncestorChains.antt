-- An element and its ancestors: of each in the chain, those after it are its ancestors.
use Rattle.std.proofs.Common.{◌≡◌, ℕ, zero, suc, ◌<◌, refl, ap, sym, ◌∙◌, subst, arith, eqb, Bool, true, false, List, [], ◌∷◌, ◌++◌, length, Option, Some, None}
use Rattle.std.specs.List.{find, list_any}
use Rattle.std.specs.Option.{option_map_or}
use Rattle.std.proofs.lemmas.Bool.{eq-eqb, or_left, or_parts, or_right}
use Rattle.std.proofs.lemmas.List.Folds.{list_any-append}
use Rattle.doc_tree.specs.Element.{Document, Element, element_of, inclusive_ancestors, is_in, parent_of}
use Rattle.doc_tree.specs.Shape.{IsTree}
use Rattle.restyle.specs.StyleChanges.{ancestors_of}
use Rattle.restyle.proofs.ProperPlans.{TreeLaws, absent, parent_before, split_at}

find_split : {X : Type 0} (p : X → Bool) (front : List X) (item : X) (back : List X) → list_any p front ≡ false → p item ≡ true → find p (front ++ item ∷ back) ≡ Some item
find_split p [] item back none passes = rw passes refl
find_split p (x ∷ front) item back none passes =
    let parts = or_parts (p x) (list_any p front) none in
    rw parts.0 (find_split p front item back parts.1 passes)

-- the first is an element of the document, whose ancestors are those after it, and so of each of these
abbrev pub IsChain : Document → List Element → Type 0
IsChain d [] = Unit {0}
IsChain d (a ∷ above) = (is_in a.number d.elements ≡ true) × (ancestors_of d a.number ≡ above) × IsChain d above

module _ (d : Document) (tree : IsTree d) (laws : TreeLaws) where
  module _ (before after : List Element) (e : Element) (is : d.elements ≡ before ++ e ∷ after) where
    pub found : element_of e.number d.elements ≡ Some e
    found =
        ap (find (λ (x : Element). eqb x.number e.number)) is
        ∙ find_split (λ (x : Element). eqb x.number e.number) before e after (absent d tree laws before after e is).0 (eq-eqb e.number e.number refl)

    pub parent_found : parent_of e.number d.elements ≡ e.parent
    parent_found = ap (λ o. option_map_or (λ (x : Element). x.parent) o None) found

    pub there : is_in e.number d.elements ≡ true
    there = ap (is_in e.number) is ∙ list_any-append (λ (x : Element). eqb x.number e.number) before (e ∷ after) ∙ or_right _ _ (or_left _ _ (eq-eqb e.number e.number refl))

    -- the chain begins with the element itself
    pub chain_begins : inclusive_ancestors d.elements e.number ≡ e ∷ ancestors_of d e.number
    chain_begins =
        laws.ancestors d before after e tree is ∙ ap (λ o. e ∷ option_map_or (inclusive_ancestors d.elements) o []) (sym parent_found)

  -- the chains of elements of which fewer than so many stand before
  abbrev AreChains : ℕ → Type 0
  AreChains k = (before after : List Element) (e : Element) → d.elements ≡ before ++ e ∷ after → length before < k → IsChain d (e ∷ ancestors_of d e.number)

  chain_above : (k : ℕ) → AreChains k → (before after : List Element) (e : Element) → d.elements ≡ before ++ e ∷ after → length before < suc k → (o : Option ℕ) → e.parent ≡ o
      → IsChain d (ancestors_of d e.number)
  chain_above k chains before after e is less None root =
      subst (IsChain d) (sym (ap (λ o. option_map_or (inclusive_ancestors d.elements) o []) (parent_found before after e is ∙ root))) tt
  chain_above k chains before after e is less (Some p) parent =
      let a = parent_before d tree laws before after e p is parent in
      let up : ancestors_of d e.number ≡ a.item ∷ ancestors_of d a.item.number =
      ap (λ o. option_map_or (inclusive_ancestors d.elements) o []) (parent_found before after e is ∙ parent) ∙ ap (inclusive_ancestors d.elements) (sym a.number)
      ∙ chain_begins a.front a.rest a.item a.is in
      subst (IsChain d) (sym up) (chains a.front a.rest a.item a.is (omega (arith, a.less, less)))

  chain_from : (k : ℕ) → AreChains k
  chain_from zero before after e is less = absurd (omega (arith, less))
  chain_from (suc k) before after e is less = (there before after e is, refl, chain_above k (chain_from k) before after e is less e.parent refl)

  -- an element and its ancestors
  pub record Chain (n : ℕ) : Type 0 where
    pub item : Element
    pub number : item.number ≡ n
    pub found : element_of n d.elements ≡ Some item
    pub is : inclusive_ancestors d.elements n ≡ item ∷ ancestors_of d n
    pub chain : IsChain d (item ∷ ancestors_of d n)

  pub chain_of : (n : ℕ) → is_in n d.elements ≡ true → Chain n
  chain_of n there =
      let s = split_at n d.elements there in
      record {
        item = s.item;
        number = s.number;
        found = subst (λ m. element_of m d.elements ≡ Some s.item) s.number (found s.before s.after s.item s.is);
        is = subst (λ m. inclusive_ancestors d.elements m ≡ s.item ∷ ancestors_of d m) s.number (chain_begins s.before s.after s.item s.is);
        chain = subst (λ m. IsChain d (s.item ∷ ancestors_of d m)) s.number (chain_from (suc (length s.before)) s.before s.after s.item s.is (omega arith));
      }
