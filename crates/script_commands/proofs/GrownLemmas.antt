-- Documents that grow by one element after another, each below one of a smaller number.
use Rattle.std.proofs.Common.{◌≡◌, ◌≤◌, ◌<◌, ℕ, suc, ◌+◌, Bool, true, false, List, [], ◌∷◌, ◌++◌, length, take, drop, map, Option, Some, None, refl, ap, sym, ◌∙◌, inl, inr, arith, length-append}
use Rattle.std.proofs.lemmas.Bool.{and_from, and_parts, cases_lt, cond-false, cond-true, eq-eqb, ne_eqb, or_from, or_left, or_right}
use Rattle.std.proofs.lemmas.Bool.Decides.{nat_tests}
use Rattle.std.proofs.lemmas.List.{take-append-drop}
use Rattle.std.proofs.lemmas.List.Folds.{list_all-append, list_any-append}
use Rattle.std.specs.Prelude.{◌⊎◌, ◌==◌, ◌||◌, ◌&&◌, if◌then◌else◌, nat_eq, nat_lt}
use Rattle.std.specs.List.{list_all, list_any}
use Rattle.std.specs.Option.{option_map_or}
use Rattle.doc_tree.specs.Change.{each_once, new_element, with_classes}
use Rattle.doc_tree.specs.Element.{Document, Element, chain, depth_of, is_in, is_used, reversed_onto}
use Rattle.doc_tree.specs.Fault.{fault_of_add}
use Rattle.doc_tree.specs.declared.limits.TheConstants.{MAX_DEPTH, MAX_ELEMENTS}

-- its parent has a smaller number
abbrev pub is_lower_parent : Element → Bool
is_lower_parent e = option_map_or (λ p. nat_lt p e.number) e.parent true

-- elements 1 to `most`, each below one of a smaller number
pub record IsGrown (d : Document) (most : ℕ) : Type 0 where
  pub there : (m : ℕ) → 1 ≤ m → m ≤ most → is_in m d.elements ≡ true
  pub unused : (m : ℕ) → most < m → is_used m d ≡ false
  pub count : length d.elements ≡ most
  pub lower : list_all is_lower_parent d.elements ≡ true

-- ---- depths

reversed_lower : (es earlier : List Element) → list_all is_lower_parent es ≡ true → list_all is_lower_parent earlier ≡ true
    → list_all is_lower_parent (reversed_onto es earlier) ≡ true
reversed_lower [] earlier h below = below
reversed_lower (e ∷ es) earlier h below = reversed_lower es (e ∷ earlier) (and_parts _ _ h).1 (and_from _ _ (and_parts _ _ h).0 below)

chain-nil : (n : ℕ) → chain [] n ≡ []
unfolding chain
chain-nil n = refl

chain-cons : (e : Element) (earlier : List Element) (n : ℕ) → chain (e ∷ earlier) n ≡ (if e.number == n then e ∷ option_map_or (chain earlier) e.parent [] else chain earlier n)
unfolding chain
chain-cons e earlier n = refl

below : (p number : ℕ) → nat_lt p number ≡ true → p < number
below p number h = grind (arith, nat_tests)

same_number : (a b : ℕ) → (a == b) ≡ true → a ≡ b
same_number a b h = grind (arith, nat_tests)

-- an element of number n has at most n ancestors
chain_short : (es : List Element) (n : ℕ) → list_all is_lower_parent es ≡ true → length (chain es n) ≤ n + 1
chain_short [] n h = omega (arith, ap (λ (xs : List Element). length xs) (chain-nil n))
chain_short (e ∷ es) n h = by_test (λ m. chain_short es m (and_parts _ _ h).1) (e.number == n) refl where
  above : ((m : ℕ) → length (chain es m) ≤ m + 1) → (o : Option ℕ) → e.parent ≡ o → e.number ≡ n → length (option_map_or (chain es) o []) ≤ n
  above rest None none same = omega arith
  above rest (Some p) is same =
      let low : nat_lt p e.number ≡ true = sym (ap (λ o. option_map_or (λ q. nat_lt q e.number) o true) is) ∙ (and_parts _ _ h).0 in
      let short = rest p in
      let less = below p e.number low in
      omega arith

  by_test : ((m : ℕ) → length (chain es m) ≤ m + 1) → (b : Bool) → (e.number == n) ≡ b → length (chain (e ∷ es) n) ≤ n + 1
  by_test rest true is =
      let found : chain (e ∷ es) n ≡ e ∷ option_map_or (chain es) e.parent [] = chain-cons e es n ∙ cond-true _ _ _ is in
      let short = above rest e.parent refl (same_number e.number n is) in
      omega (arith, ap (λ (xs : List Element). length xs) found)
  by_test rest false is =
      let passed : chain (e ∷ es) n ≡ chain es n = chain-cons e es n ∙ cond-false _ _ _ is in
      let short = rest n in
      omega (arith, ap (λ (xs : List Element). length xs) passed)

depth_short : (es : List Element) (n : ℕ) → list_all is_lower_parent es ≡ true → depth_of es n ≤ n + 1
depth_short es n h = chain_short (reversed_onto es []) n (reversed_lower es [] h refl)

-- ---- one element more

-- the elements with one more at a place
abbrev put_at : List Element → ℕ → Element → List Element
put_at es place e = take place es ++ e ∷ drop place es

any_put : (p : Element → Bool) (es : List Element) (place : ℕ) (e : Element) → list_any p (put_at es place e) ≡ (p e || list_any p es)
any_put p es place e =
    list_any-append p (take place es) (e ∷ drop place es)
    ∙ swapped (list_any p (take place es)) (p e) (list_any p (drop place es))
    ∙ ap (λ b. p e || b) (sym (list_any-append p (take place es) (drop place es)) ∙ ap (list_any p) (take-append-drop place es)) where
      swapped : (a b c : Bool) → (a || (b || c)) ≡ (b || (a || c))
      swapped true true c = refl
      swapped true false c = refl
      swapped false true c = refl
      swapped false false c = refl

all_put : (p : Element → Bool) (es : List Element) (place : ℕ) (e : Element) → list_all p es ≡ true → p e ≡ true → list_all p (put_at es place e) ≡ true
all_put p es place e h own =
    let parts = and_parts _ _ (sym (list_all-append p (take place es) (drop place es)) ∙ ap (list_all p) (take-append-drop place es) ∙ h) in
    list_all-append p (take place es) (e ∷ drop place es) ∙ and_from _ _ parts.0 (and_from _ _ own parts.1)

length_put : (es : List Element) (place : ℕ) (e : Element) → length (put_at es place e) ≡ suc (length es)
length_put es place e = omega (arith, length-append (take place es) (e ∷ drop place es), length-append (take place es) (drop place es), ap (λ (xs : List Element). length xs) (take-append-drop place es))

-- no fault where the parent is there and has a small number
pub no_fault : (d : Document) (most p : ℕ) → IsGrown d most → 1 ≤ p → p ≤ most → p ≤ 40 → most < 2000 → fault_of_add d (suc most) (Some p) ≡ None
no_fault d most p grown some there small few =
    let depth = depth_short d.elements p grown.lower in
    let count = grown.count in
    cond-true _ _ _ (grown.there p some there)
    ∙ cond-false _ _ _ (grown.unused (suc most) (omega arith))
    ∙ cond-false _ _ _ (not_lt MAX_ELEMENTS (length d.elements + 1) (omega arith))
    ∙ cond-false _ _ _ (not_lt MAX_DEPTH (depth_of d.elements p + 1) (omega arith)) where
      not_lt : (a b : ℕ) → b ≤ a → nat_lt a b ≡ false
      not_lt a b h = grind (arith, nat_tests)

pub grown_more : (d : Document) (most p place : ℕ) (tag : List ℕ) → IsGrown d most → 1 ≤ p → p ≤ most
    → IsGrown (record { elements = put_at d.elements place (new_element (suc most) (Some p) tag); used = d.used ++ suc most ∷ [] }) (suc most)
grown_more d most p place tag grown some to = record {
  there = λ m from within. any_put (λ e. e.number == m) d.elements place (new_element (suc most) (Some p) tag) ∙ new_or_old m from within (cases_lt m (suc most));
  unused = λ m above.
      list_any-append (nat_eq m) d.used (suc most ∷ [])
      ∙ or_from _ _ (grown.unused m (omega arith)) (or_from (nat_eq m (suc most)) false (ne_eqb m (suc most) (λ e. omega arith)) refl);
  count = length_put d.elements place (new_element (suc most) (Some p) tag) ∙ ap (λ n. suc n) grown.count;
  lower = all_put is_lower_parent d.elements place (new_element (suc most) (Some p) tag) grown.lower (is_lt p (suc most) (omega arith));
} where
  is_lt : (a b : ℕ) → a < b → nat_lt a b ≡ true
  is_lt a b h = grind (arith, nat_tests)

  new_or_old : (m : ℕ) → 1 ≤ m → m ≤ suc most → (m < suc most) ⊎ (suc most ≤ m) → ((suc most == m) || is_in m d.elements) ≡ true
  new_or_old m from within (inl old) = or_right _ _ (grown.there m from (omega arith))
  new_or_old m from within (inr new) = or_left _ _ (eq-eqb (suc most) m (omega arith))

-- ---- the root alone

pub grown_root : (tag : List ℕ) → IsGrown (record { elements = new_element 1 None tag ∷ []; used = 1 ∷ [] }) 1
grown_root tag = record {
  there = λ m from to. or_left _ _ (eq-eqb 1 m (omega arith));
  unused = λ m above. or_from _ _ (ne_eqb m 1 (λ e. omega arith)) refl;
  count = refl;
  lower = refl;
}

-- ---- changes of elements

any_map : (p : Element → Bool) (f : Element → Element) (es : List Element) → ((e : Element) → p (f e) ≡ p e) → list_any p (map f es) ≡ list_any p es
any_map p f [] same = refl
any_map p f (e ∷ es) same = ap (λ b. b || list_any p (map f es)) (same e) ∙ ap (λ b. p e || b) (any_map p f es same)

all_map : (p : Element → Bool) (f : Element → Element) (es : List Element) → ((e : Element) → p (f e) ≡ p e) → list_all p (map f es) ≡ list_all p es
all_map p f [] same = refl
all_map p f (e ∷ es) same = ap (λ b. b && list_all p (map f es)) (same e) ∙ ap (λ b. p e && b) (all_map p f es same)

length_map : (f : Element → Element) (es : List Element) → length (map f es) ≡ length es
length_map f [] = refl
length_map f (e ∷ es) = ap (λ n. suc n) (length_map f es)

pub grown_classes : (d : Document) (most n : ℕ) (names : List (List ℕ)) → IsGrown d most → IsGrown (with_classes d n names) most
grown_classes d most n names grown = record {
  there = λ m from to. any_map (λ e. e.number == m) change d.elements (λ e. same_at m (e.number == n) e) ∙ grown.there m from to;
  unused = grown.unused;
  count = length_map change d.elements ∙ grown.count;
  lower = all_map is_lower_parent change d.elements (λ e. same_parent (e.number == n) e) ∙ grown.lower;
} where
  change : Element → Element
  change e = (if e.number == n then record e { classes = each_once names } else e)

  same_at : (m : ℕ) (b : Bool) (e : Element) → ((if b then record e { classes = each_once names } else e).number == m) ≡ (e.number == m)
  same_at m true e = refl
  same_at m false e = refl

  same_parent : (b : Bool) (e : Element) → is_lower_parent (if b then record e { classes = each_once names } else e) ≡ is_lower_parent e
  same_parent true e = refl
  same_parent false e = refl
