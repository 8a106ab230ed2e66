-- The element of a slot in a tour: where it is found, and what its inclusive descendants are.
use Rattle.std.proofs.Common.{◌≡◌, ℕ, ◌+◌, ◌*◌, Bool, true, false, not, eqb, Some, List, [], ◌∷◌, ◌++◌, map, length, refl, sym, ap, ◌∙◌, subst, inl, inr, append_assoc}
use Rattle.std.specs.Prelude.{filter}
use Rattle.std.specs.List.{list_any, position}
use Rattle.std.proofs.lemmas.Bool.{cases_Bool, eq-eqb, or_left, or_parts, or_from, not_from_true, not_from_false, false≢true}
use Rattle.std.proofs.lemmas.List.{map-append, length-map, append-nil}
use Rattle.std.proofs.lemmas.List.Elements.{filter-append}
use Rattle.doc_tree.specs.Element.{Element, is_in, element_of, subtree_of, inclusive_ancestors, is_inclusive_descendant}
use Rattle.doc_tree.specs.Change.{EndsSubtree}
use Rattle.doc_tree.specs.Marks.{Mark, Open, Close, code, opened, has, AreDifferent, Nests}
use Rattle.doc_tree.proofs.Numbers.{has-append, has-self, absent-parts, different-before, different-after}
use Rattle.doc_tree.proofs.Lists.{find-split, position-split}
use Rattle.doc_tree.proofs.Tours.{opened-append, different-opened, nests-join, open_was_opened, IsSpan}
use Rattle.doc_tree.proofs.Standing.{IsProper, Each, IsInside, is_in-slots, ancestors-opened, inside-stack, each-inside, each-outside, each-then, filter-each, filter-none}

-- the last of a list that isn't empty
record IsLast (P : Element → Type 0) (x : Element) (xs : List Element) : Type 0 where
  front : List Element
  last : Element
  is : x ∷ xs ≡ front ++ last ∷ []
  holds : P last

module _ (el : ℕ → Element) (dep : ℕ → ℕ) where
  last_of : (P : ℕ → Type 0) (Q : Element → Type 0) (s : ℕ) (ss : List ℕ) → ((t : ℕ) → P t → Q (el t)) → P s → Each el dep P ss → IsLast Q (el s) (map el ss)
  last_of P Q s [] f own each = record { front = []; last = el s; is = refl; holds = f s own }
  last_of P Q s (t ∷ ss) f own each =
      let rest = last_of P Q t ss f each.0 each.1 in
      record { front = el s ∷ rest.front; last = rest.last; is = ap (λ (es : List Element). el s ∷ es) rest.is; holds = rest.holds }

  module _ (ms : List Mark) (s : ℕ) (p : IsProper el dep ms) (there : has s (opened ms) ≡ true) (sp : IsSpan el dep ms s) where
    -- the slots in order, around those of s and below
    pub slots-span : opened ms ≡ opened sp.before ++ s ∷ (opened sp.inner ++ opened sp.after)
    slots-span =
        ap opened sp.is ∙ (opened-append (sp.before ++ Open s ∷ sp.inner) (Close s ∷ sp.after) ∙ (ap (λ (ss : List ℕ). ss ++ opened sp.after) (opened-append sp.before (Open s ∷ sp.inner)) ∙ append_assoc (opened sp.before) (s ∷ opened sp.inner) (opened sp.after)))

    different-slots : AreDifferent (opened sp.before ++ s ∷ (opened sp.inner ++ opened sp.after))
    different-slots = subst AreDifferent slots-span (different-opened ms p.different)

    pub absent-before : has s (opened sp.before) ≡ false
    absent-before = different-before (opened sp.before) s (opened sp.inner ++ opened sp.after) different-slots

    among-before : (t : ℕ) → has t (opened sp.before) ≡ true → has t (opened ms) ≡ true
    among-before t h = ap (has t) slots-span ∙ (has-append t (opened sp.before) (s ∷ (opened sp.inner ++ opened sp.after)) ∙ or_left _ _ h)

    pub number-before : is_in (el s).number (map el (opened sp.before)) ≡ false
    number-before = is_in-slots el dep s (opened sp.before) (λ t h. p.apart t s (among-before t h) there) ∙ absent-before

    pub elements-span : map el (opened ms) ≡ map el (opened sp.before) ++ el s ∷ map el (opened sp.inner ++ opened sp.after)
    elements-span = ap (map el) slots-span ∙ map-append el (opened sp.before) (s ∷ (opened sp.inner ++ opened sp.after))

    pub element-span : element_of (el s).number (map el (opened ms)) ≡ Some (el s)
    element-span =
        ap (element_of (el s).number) elements-span
        ∙ find-split (λ (e : Element). eqb e.number (el s).number) (map el (opened sp.before)) (el s) (map el (opened sp.inner ++ opened sp.after)) number-before (eq-eqb (el s).number (el s).number refl)

    pub position-span : position (λ e. eqb e.number (el s).number) (map el (opened ms)) ≡ Some (length (opened sp.before))
    position-span =
        ap (position (λ (e : Element). eqb e.number (el s).number)) elements-span
        ∙ (position-split (λ (e : Element). eqb e.number (el s).number) (map el (opened sp.before)) (el s) (map el (opened sp.inner ++ opened sp.after)) number-before (eq-eqb (el s).number (el s).number refl) ∙ ap (λ (n : ℕ). Some n) (length-map (opened sp.before) el))

    is-front : ms ≡ sp.before ++ Open s ∷ (sp.inner ++ Close s ∷ sp.after)
    is-front = sp.is ∙ append_assoc sp.before (Open s ∷ sp.inner) (Close s ∷ sp.after)

    -- its inclusive ancestors
    pub ancestors-span : inclusive_ancestors (map el (opened ms)) (el s).number ≡ map el (s ∷ sp.under)
    ancestors-span = ancestors-opened el dep ms sp.before (sp.inner ++ Close s ∷ sp.after) s sp.under p is-front sp.front sp.below

    within-itself : IsInside el dep ms s true s
    within-itself = subst (λ (b : Bool). IsInside el dep ms s b s) (has-self s sp.under) (inside-stack el dep ms sp.before (sp.inner ++ Close s ∷ sp.after) s s sp.under p there is-front sp.front sp.below)

    pub closed-once : has (2 * s + 3) (map code sp.inner) ≡ false
    closed-once =
        let codes : map code ms ≡ map code (sp.before ++ Open s ∷ sp.inner) ++ (2 * s + 3) ∷ map code sp.after = ap (map code) sp.is ∙ map-append code (sp.before ++ Open s ∷ sp.inner) (Close s ∷ sp.after) in
        let front : has (2 * s + 3) (map code (sp.before ++ Open s ∷ sp.inner)) ≡ false = different-before (map code (sp.before ++ Open s ∷ sp.inner)) (2 * s + 3) (map code sp.after) (subst AreDifferent codes p.different) in
        let parts = absent-parts (2 * s + 3) (map code sp.before) ((2 * s + 2) ∷ map code sp.inner) (ap (has (2 * s + 3)) (sym (map-append code sp.before (Open s ∷ sp.inner))) ∙ front) in
        (or_parts _ _ parts.1).1

    within-inner : Each el dep (IsInside el dep ms s true) (opened sp.inner)
    within-inner =
        each-inside el dep ms (sp.before ++ Open s ∷ []) sp.inner (Close s ∷ sp.after) s (s ∷ sp.under) (s ∷ sp.under) p there (is-front ∙ sym (append_assoc sp.before (Open s ∷ []) (sp.inner ++ Close s ∷ sp.after)))
        (nests-join el dep sp.before (Open s ∷ []) [] sp.under (s ∷ sp.under) sp.front (sp.below, refl)) sp.within (has-self s sp.under) closed-once

    outside-before : Each el dep (IsInside el dep ms s false) (opened sp.before)
    outside-before = each-outside el dep ms [] sp.before (Open s ∷ (sp.inner ++ Close s ∷ sp.after)) s [] sp.under p there is-front refl sp.front refl absent-before

    outside-after : Each el dep (IsInside el dep ms s false) (opened sp.after)
    outside-after =
        let pre = (sp.before ++ Open s ∷ sp.inner) ++ Close s ∷ [] in
        let is : ms ≡ pre ++ (sp.after ++ []) = sp.is ∙ (ap (λ (xs : List Mark). (sp.before ++ Open s ∷ sp.inner) ++ Close s ∷ xs) (sym (append-nil sp.after)) ∙ sym (append_assoc (sp.before ++ Open s ∷ sp.inner) (Close s ∷ []) (sp.after ++ []))) in
        let front : Nests el dep pre [] sp.under =
        nests-join el dep (sp.before ++ Open s ∷ sp.inner) (Close s ∷ []) [] (s ∷ sp.under) sp.under (nests-join el dep sp.before (Open s ∷ sp.inner) [] sp.under (s ∷ sp.under) sp.front (sp.below, sp.within)) (refl, refl) in
        let not_under : has s sp.under ≡ false =
        elim (cases_Bool (has s sp.under)) [ inl h ↦ absurd (false≢true (sym absent-before ∙ open_was_opened el dep sp.before sp.under s sp.front h)) | inr none ↦ none ] in
        let later = absent-parts s (opened sp.inner) (opened sp.after) (different-after (opened sp.before) s (opened sp.inner ++ opened sp.after) different-slots) in
        each-outside el dep ms pre sp.after [] s sp.under [] p there is front sp.back not_under later.1

    pub elements-apart : map el (opened ms) ≡ map el (opened sp.before) ++ (map el (s ∷ opened sp.inner) ++ map el (opened sp.after))
    elements-apart = elements-span ∙ ap (λ (es : List Element). map el (opened sp.before) ++ el s ∷ es) (map-append el (opened sp.inner) (opened sp.after))

    -- its inclusive descendants
    pub subtree-span : subtree_of (map el (opened ms)) (el s).number ≡ map el (s ∷ opened sp.inner)
    subtree-span =
        let test = (λ (e : Element). is_inclusive_descendant (map el (opened ms)) (el s).number e.number) in
        let before = filter-none el dep test (opened sp.before) outside-before in
        let middle = filter-each el dep test (s ∷ opened sp.inner) (within-itself, within-inner) in
        let after = filter-none el dep test (opened sp.after) outside-after in
        ap (filter test) elements-apart ∙ (filter-append test (map el (opened sp.before)) (map el (s ∷ opened sp.inner) ++ map el (opened sp.after))
        ∙ (ap (λ (es : List Element). es ++ filter test (map el (s ∷ opened sp.inner) ++ map el (opened sp.after))) before ∙ (filter-append test (map el (s ∷ opened sp.inner)) (map el (opened sp.after))
        ∙ (ap (λ (es : List Element). es ++ filter test (map el (opened sp.after))) middle ∙ (ap (λ (es : List Element). map el (s ∷ opened sp.inner) ++ es) after ∙ append-nil (map el (s ∷ opened sp.inner)))))))

    -- all others
    pub others-span : filter (λ e. not (is_inclusive_descendant (map el (opened ms)) (el s).number e.number)) (map el (opened ms)) ≡ map el (opened sp.before ++ opened sp.after)
    others-span =
        let test = (λ (e : Element). not (is_inclusive_descendant (map el (opened ms)) (el s).number e.number)) in
        let passes : (t : ℕ) → IsInside el dep ms s false t → test (el t) ≡ true = λ t h. not_from_false _ h in
        let fails : (t : ℕ) → IsInside el dep ms s true t → test (el t) ≡ false = λ t h. not_from_true _ h in
        let before = filter-each el dep test (opened sp.before) (each-then el dep (IsInside el dep ms s false) (λ t. test (el t) ≡ true) (opened sp.before) passes outside-before) in
        let middle = filter-none el dep test (s ∷ opened sp.inner) (fails s within-itself, each-then el dep (IsInside el dep ms s true) (λ t. test (el t) ≡ false) (opened sp.inner) fails within-inner) in
        let after = filter-each el dep test (opened sp.after) (each-then el dep (IsInside el dep ms s false) (λ t. test (el t) ≡ true) (opened sp.after) passes outside-after) in
        ap (filter test) elements-apart ∙ (filter-append test (map el (opened sp.before)) (map el (s ∷ opened sp.inner) ++ map el (opened sp.after))
        ∙ (ap (λ (es : List Element). es ++ filter test (map el (s ∷ opened sp.inner) ++ map el (opened sp.after))) before ∙ (ap (λ (es : List Element). map el (opened sp.before) ++ es) (filter-append test (map el (s ∷ opened sp.inner)) (map el (opened sp.after))
        ∙ (ap (λ (es : List Element). es ++ filter test (map el (opened sp.after))) middle ∙ after)) ∙ sym (map-append el (opened sp.before) (opened sp.after)))))

    none-any : (ss : List ℕ) → Each el dep (IsInside el dep ms s false) ss → list_any (λ e. is_inclusive_descendant (map el (opened ms)) (el s).number e.number) (map el ss) ≡ false
    none-any [] each = refl
    none-any (t ∷ ss) each = or_from _ _ each.0 (none-any ss each.1)

    -- its subtree ends before its closing mark
    pub ends-span : EndsSubtree (el s).number (map el (opened sp.before ++ s ∷ opened sp.inner)) (map el (opened sp.after))
    ends-span =
        let whole : map el (opened sp.before ++ s ∷ opened sp.inner) ++ map el (opened sp.after) ≡ map el (opened ms) =
        ap (λ (es : List Element). es ++ map el (opened sp.after)) (map-append el (opened sp.before) (s ∷ opened sp.inner)) ∙ (append_assoc (map el (opened sp.before)) (map el (s ∷ opened sp.inner)) (map el (opened sp.after)) ∙ sym elements-apart) in
        let Q = (λ (e : Element). is_inclusive_descendant (map el (opened ms)) (el s).number e.number ≡ true) in
        let last = last_of (IsInside el dep ms s true) Q s (opened sp.inner) (λ t h. h) within-itself within-inner in
        record {
          front = map el (opened sp.before) ++ last.front;
          last = last.last;
          is_last = map-append el (opened sp.before) (s ∷ opened sp.inner) ∙ (ap (λ (es : List Element). map el (opened sp.before) ++ es) last.is ∙ sym (append_assoc (map el (opened sp.before)) last.front (last.last ∷ [])));
          within = subst (λ (es : List Element). is_inclusive_descendant es (el s).number last.last.number ≡ true) (sym whole) last.holds;
          none_after = subst (λ (es : List Element). list_any (λ e. is_inclusive_descendant es (el s).number e.number) (map el (opened sp.after)) ≡ false) (sym whole) (none-any (opened sp.after) outside-after);
        }
