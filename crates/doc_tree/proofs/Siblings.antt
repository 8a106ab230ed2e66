-- Children: below which marks they stand, and the one after each.
use Rattle.std.proofs.Common.{◌≡◌, ℕ, ◌+◌, ◌*◌, ◌-◌, ◌/◌, ◌%◌, Bool, true, false, eqb, cond, Option, Some, None, List, [], ◌∷◌, ◌++◌, map, drop, get_or, refl, sym, ap, ◌∙◌, subst, inl, inr, arith, is_some, append_assoc}
use Rattle.std.specs.Prelude.{filter}
use Rattle.std.specs.Option.{option_map_or}
use Rattle.std.specs.List.{list_all}
use Rattle.std.proofs.lemmas.Bool.{cases_Bool, eqb-true, eq-eqb, and_parts, or_cases, or_parts, or_from, or_left, or_right, false≢true}
use Rattle.std.proofs.lemmas.List.{map-append}
use Rattle.std.proofs.lemmas.List.Elements.{filter-append}
use Rattle.std.proofs.lemmas.List.Folds.{list_any-append, list_all-append}
use Rattle.doc_tree.specs.Element.{Element, is_in, element_of, parent_of}
use Rattle.doc_tree.specs.Children.{is_child_of, children_of, first_number, number_after, first_child_of, next_sibling_of}
use Rattle.doc_tree.specs.Shape.{IsGrown}
use Rattle.doc_tree.specs.Marks.{Kept, Mark, Open, Close, code, opened, has, document_of, element_at, depth_at, number_above, AreDifferent, AreMarksOfTree, IsSlotOf, Leads, Nests}
use Rattle.doc_tree.proofs.Numbers.{has-append, has-self, different-apart, different-front, absent-parts}
use Rattle.doc_tree.proofs.Lists.{find-split}
use Rattle.doc_tree.proofs.Links.{leads-split}
use Rattle.doc_tree.proofs.Trees.{tree-differ}
use Rattle.doc_tree.proofs.Tours.{even, odd, half, opened-append, different-opened, open_was_opened, IsSpan}
use Rattle.doc_tree.proofs.Standing.{IsProper, is_in-slots, proper-grown}
use Rattle.doc_tree.proofs.Spans.{slots-span, number-before, absent-before, elements-apart, closed-once, element-span}
use Rattle.doc_tree.proofs.Sound.{elements-sound, live-opened, opened-live, proper, span-of, not-found}

-- a list whose filtered elements are split at one of them
record IsParted (p : Element → Bool) (es xs : List Element) (a : Element) : Type 0 where
  before : List Element
  after : List Element
  is : es ≡ before ++ a ∷ after
  front : filter p before ≡ xs
  passes : p a ≡ true

parted : (p : Element → Bool) (es xs : List Element) (a : Element) (ys : List Element) → filter p es ≡ xs ++ a ∷ ys → IsParted p es xs a
parted p [] [] a ys h = absurd (let e : [] ≡ a ∷ ys = h in cc)
parted p [] (x ∷ xs) a ys h = absurd (let e : [] ≡ x ∷ (xs ++ a ∷ ys) = h in cc)
parted p (e ∷ es) [] a ys h =
    elim (cases_Bool (p e)) [
      | inl holds ↦
          (let first : e ∷ filter p es ≡ a ∷ ys = rw holds at h in
          let same : e ≡ a = cc in
          record { before = []; after = es; is = ap (λ (x : Element). x ∷ es) same; front = refl; passes = subst (λ (x : Element). p x ≡ true) same holds })
      | inr fails ↦
          (let rest = parted p es [] a ys (rw fails at h) in
          record { before = e ∷ rest.before; after = rest.after; is = ap (λ (xs : List Element). e ∷ xs) rest.is; front = rw fails rest.front; passes = rest.passes })
    ]
parted p (e ∷ es) (x ∷ xs) a ys h =
    elim (cases_Bool (p e)) [
      | inl holds ↦
          (let first : e ∷ filter p es ≡ x ∷ (xs ++ a ∷ ys) = rw holds at h in
          let same : e ≡ x = cc in
          let later : filter p es ≡ xs ++ a ∷ ys = cc in
          let rest = parted p es xs a ys later in
          record { before = e ∷ rest.before; after = rest.after; is = ap (λ (xs : List Element). e ∷ xs) rest.is; front = rw holds (ap (λ (zs : List Element). e ∷ zs) rest.front ∙ ap (λ (z : Element). z ∷ xs) same); passes = rest.passes })
      | inr fails ↦
          (let rest = parted p es (x ∷ xs) a ys (rw fails at h) in
          record { before = e ∷ rest.before; after = rest.after; is = ap (λ (xs : List Element). e ∷ xs) rest.is; front = rw fails rest.front; passes = rest.passes })
    ]

absent-filtered : (n : ℕ) (p : Element → Bool) (es : List Element) → is_in n es ≡ false → is_in n (filter p es) ≡ false
absent-filtered n p [] none = refl
absent-filtered n p (e ∷ es) none =
    let parts = or_parts (eqb e.number n) (is_in n es) none in
    let rest = absent-filtered n p es parts.1 in
    elim (cases_Bool (p e)) [ inl holds ↦ rw holds (or_from _ _ parts.0 rest) | inr fails ↦ rw fails rest ]

after-split : (n : ℕ) (xs : List Element) (e : Element) (ys : List Element) → is_in n xs ≡ false → e.number ≡ n → number_after n (xs ++ e ∷ ys) ≡ first_number ys
after-split n [] e ys none is = rw (eq-eqb e.number n is) refl
after-split n (x ∷ xs) e ys none is =
    let parts = or_parts (eqb x.number n) (is_in n xs) none in
    rw parts.0 (after-split n xs e ys parts.1 is)

-- whose child an element is
not-child : (n : ℕ) (e : Element) (p : ℕ) → e.parent ≡ Some p → eqb p n ≡ false → is_child_of n e ≡ false
not-child n e p is other = ap (λ (o : Option ℕ). option_map_or (λ q. eqb q n) o false) is ∙ other

is-child : (n : ℕ) (e : Element) → e.parent ≡ Some n → is_child_of n e ≡ true
is-child n e is = ap (λ (o : Option ℕ). option_map_or (λ q. eqb q n) o false) is ∙ eq-eqb n n refl

child-parent : (n : ℕ) (e : Element) → is_child_of n e ≡ true → e.parent ≡ Some n
child-parent n e h = by-parent e.parent h
  where
    by-parent : (o : Option ℕ) → option_map_or (λ q. eqb q n) o false ≡ true → o ≡ Some n
    by-parent None h = absurd (false≢true h)
    by-parent (Some p) h = ap (λ (q : ℕ). Some q) (eqb-true p n h)

-- the next sibling of a child is the child after it
pub sibling-after : (es : List Element) (p : ℕ) (xs : List Element) (a : Element) (ys : List Element) → IsGrown [] es → children_of es p ≡ xs ++ a ∷ ys → next_sibling_of a.number es ≡ first_number ys
sibling-after es p xs a ys g h =
    let w = parted (is_child_of p) es xs a ys h in
    let absent = or_parts _ _ (sym (list_any-append (λ (x : Element). eqb x.number a.number) w.before w.after) ∙ tree-differ es w.before w.after a g w.is) in
    let found : element_of a.number es ≡ Some a = ap (element_of a.number) w.is ∙ find-split (λ (e : Element). eqb e.number a.number) w.before a w.after absent.0 (eq-eqb a.number a.number refl) in
    let parent : parent_of a.number es ≡ Some p = ap (λ (o : Option Element). option_map_or (λ e. e.parent) o None) found ∙ child-parent p a w.passes in
    let earlier : is_in a.number xs ≡ false = subst (λ (zs : List Element). is_in a.number zs ≡ false) w.front (absent-filtered a.number (is_child_of p) w.before absent.0) in
    ap (λ (o : Option ℕ). option_map_or (λ q. number_after a.number (children_of es q)) o None) parent ∙ (ap (number_after a.number) h ∙ after-split a.number xs a ys earlier refl)

rooted-after : (p : ℕ → Bool) (xs : List ℕ) (s : ℕ) (ys : List ℕ) → list_all p (drop 1 (xs ++ s ∷ ys)) ≡ true → list_all p ys ≡ true
rooted-after p [] s ys all = all
rooted-after p (x ∷ xs) s ys all =
    let parts = and_parts (list_all p xs) (list_all p (s ∷ ys)) (sym (list_all-append p xs (s ∷ ys)) ∙ all) in
    (and_parts (p s) (list_all p ys) parts.1).1

-- the number of the element that the first of the marks opens
pub opens : (ℕ → Element) → List Mark → Option ℕ
opens el [] = None
opens el (Open t ∷ ms) = Some (el t).number
opens el (Close t ∷ ms) = None

-- the number of the element that a mark opens, by its number in the list of marks
abbrev pub number_opened : List ℕ → ℕ → Option ℕ
number_opened keys m = cond (eqb (m % 2) 0) (Some (get_or keys (m / 2 - 1) 0)) None

opens-next : (next previous keys : List ℕ) (el : ℕ → Element) (a : ℕ) (ms : List Mark) → Leads next previous a (map code ms) 1 → ((t : ℕ) → has t (opened ms) ≡ true → get_or keys t 0 ≡ (el t).number) → number_opened keys (get_or next a 0) ≡ opens el ms
unfolding opens
opens-next next previous keys el a [] l same = ap (number_opened keys) l.0.is
opens-next next previous keys el a (Open t ∷ ms) l same = ap (number_opened keys) l.0.is ∙ (rw (even t, half t) (ap (λ (n : ℕ). Some n) (same t (has-self t (opened ms)))))
opens-next next previous keys el a (Close t ∷ ms) l same = ap (number_opened keys) l.0.is ∙ (rw (odd t) refl)

module _ (el : ℕ → Element) (dep : ℕ → ℕ) where
  abbrev children : ℕ → List Mark → List Element
  children n ms = children_of (map el (opened ms)) n

  not-below : (n : ℕ) (stack : List ℕ) (e : Element) → e.parent ≡ number_above el stack → is_in n (map el stack) ≡ false → is_child_of n e ≡ false
  not-below n [] e is out = ap (λ (o : Option ℕ). option_map_or (λ q. eqb q n) o false) is
  not-below n (q ∷ stack) e is out = not-child n e (el q).number is (or_parts (eqb (el q).number n) _ out).0

  -- what is neither open nor opened has no child among what opens
  no-children : (n : ℕ) (ms : List Mark) (stack end : List ℕ) → Nests el dep ms stack end → is_in n (map el stack) ≡ false → is_in n (map el (opened ms)) ≡ false → children n ms ≡ []
  no-children n [] stack end nests out unopened = refl
  no-children n (Open s ∷ ms) stack end nests out unopened =
      let parts = or_parts (eqb (el s).number n) (is_in n (map el (opened ms))) unopened in
      rw (not-below n stack (el s) nests.0.parent out) (no-children n ms (s ∷ stack) end nests.1 (or_from _ _ parts.0 out) parts.1)
  no-children n (Close s ∷ ms) [] end nests out unopened = absurd nests
  no-children n (Close s ∷ ms) (q ∷ stack) end nests out unopened = no-children n ms stack end nests.1 (or_parts (eqb (el q).number n) (is_in n (map el stack)) out).1 unopened

  not-above : (n s : ℕ) (top under : List ℕ) (e : Element) → e.parent ≡ number_above el (top ++ s ∷ under) → eqb (el s).number n ≡ false → is_in n (map el top) ≡ false → is_child_of n e ≡ false
  not-above n s [] under e is own out = not-child n e (el s).number is own
  not-above n s (q ∷ top) under e is own out = not-child n e (el q).number is (or_parts (eqb (el q).number n) _ out).0

  -- nor, while s stays open, has what is open below s
  no-children-within : (n s : ℕ) (ms : List Mark) (top under end : List ℕ) → Nests el dep ms (top ++ s ∷ under) end → eqb (el s).number n ≡ false → is_in n (map el top) ≡ false → is_in n (map el (opened ms)) ≡ false
      → has (2 * s + 3) (map code ms) ≡ false → children n ms ≡ []
  no-children-within n s [] top under end nests own out unopened unclosed = refl
  no-children-within n s (Open t ∷ ms) top under end nests own out unopened unclosed =
      let parts = or_parts (eqb (el t).number n) (is_in n (map el (opened ms))) unopened in
      let closed = or_parts (eqb (2 * s + 3) (2 * t + 2)) (has (2 * s + 3) (map code ms)) unclosed in
      rw (not-above n s top under (el t) nests.0.parent own out) (no-children-within n s ms (t ∷ top) under end nests.1 own (or_from _ _ parts.0 out) parts.1 closed.1)
  no-children-within n s (Close t ∷ ms) [] under end nests own out unopened unclosed =
      let closed = or_parts (eqb (2 * s + 3) (2 * t + 3)) (has (2 * s + 3) (map code ms)) unclosed in
      absurd (false≢true (sym closed.0 ∙ eq-eqb (2 * s + 3) (2 * t + 3) (omega (arith, nests.0))))
  no-children-within n s (Close t ∷ ms) (q ∷ top) under end nests own out unopened unclosed =
      let closed = or_parts (eqb (2 * s + 3) (2 * t + 3)) (has (2 * s + 3) (map code ms)) unclosed in
      no-children-within n s ms top under end nests.1 own (or_parts (eqb (el q).number n) (is_in n (map el top)) out).1 unopened closed.1

  -- open slots are different, where those that open are
  different-open : (ms : List Mark) (stack end : List ℕ) → Nests el dep ms stack end → AreDifferent stack → AreDifferent (opened ms) → ((t : ℕ) → has t (opened ms) ≡ true → has t stack ≡ false) → AreDifferent end
  different-open [] stack end nests d o apart = subst AreDifferent nests d
  different-open (Open s ∷ ms) stack end nests d o apart =
      different-open ms (s ∷ stack) end nests.1 (apart s (has-self s (opened ms)), d) o.1
      (λ t h. or_from _ _ (elim (cases_Bool (eqb t s)) [ inl same ↦ absurd (false≢true (sym o.0 ∙ subst (λ (u : ℕ). has u (opened ms) ≡ true) (eqb-true t s same) h)) | inr other ↦ other ]) (apart t (or_right (eqb t s) _ h)))
  different-open (Close s ∷ ms) [] end nests d o apart = absurd nests
  different-open (Close s ∷ ms) (q ∷ stack) end nests d o apart = different-open ms stack end nests.1 d.1 o (λ t h. (or_parts (eqb t q) (has t stack) (apart t h)).1)

  -- the first child opens right after its parent's opening mark
  first-inner : (s : ℕ) (inner after : List Mark) (under end : List ℕ) (rest : List Element) → Nests el dep inner (s ∷ under) end → has (2 * s + 3) (map code inner) ≡ false → rest ≡ [] → first_number (children (el s).number inner ++ rest) ≡ opens el (inner ++ Close s ∷ after)
  unfolding opens
  first-inner s [] after under end rest nests unclosed none = ap first_number none
  first-inner s (Open t ∷ inner) after under end rest nests unclosed none = rw (is-child (el s).number (el t) nests.0.parent) refl
  first-inner s (Close t ∷ inner) after under end rest nests unclosed none =
      let closed = or_parts (eqb (2 * s + 3) (2 * t + 3)) (has (2 * s + 3) (map code inner)) unclosed in
      absurd (false≢true (sym closed.0 ∙ eq-eqb (2 * s + 3) (2 * t + 3) (omega (arith, nests.0))))

  -- the next child opens right after the closing mark of the one before it
  first-after : (q : ℕ) (after : List Mark) (u : List ℕ) → Nests el dep after (q ∷ u) [] → is_in (el q).number (map el u) ≡ false → is_in (el q).number (map el (opened after)) ≡ false → first_number (children (el q).number after) ≡ opens el after
  unfolding opens
  first-after q [] u nests out unopened = refl
  first-after q (Open t ∷ after) u nests out unopened = rw (is-child (el q).number (el t) nests.0.parent) refl
  first-after q (Close t ∷ after) u nests out unopened = ap first_number (no-children (el q).number after u [] nests.1 out unopened)

  -- nothing opens after the root
  last-root : (after : List Mark) → Nests el dep after [] [] → list_all (λ t. is_some (el t).parent) (opened after) ≡ true → opens el after ≡ None
  unfolding opens
  last-root [] nests all = refl
  last-root (Open t ∷ after) nests all = absurd (false≢true (sym (ap (λ (o : Option ℕ). is_some o) nests.0.parent) ∙ (and_parts (is_some (el t).parent) _ all).0))
  last-root (Close t ∷ after) nests all = absurd nests

  module _ (ms : List Mark) (s : ℕ) (p : IsProper el dep ms) (there : has s (opened ms) ≡ true) (sp : IsSpan el dep ms s) where
    abbrev es : List Element
    es = map el (opened ms)

    slots : opened ms ≡ opened sp.before ++ s ∷ (opened sp.inner ++ opened sp.after)
    slots = slots-span el dep ms s p there sp

    different : AreDifferent (opened sp.before ++ s ∷ (opened sp.inner ++ opened sp.after))
    different = subst AreDifferent slots (different-opened ms p.different)

    among-before : (t : ℕ) → has t (opened sp.before) ≡ true → has t (opened ms) ≡ true
    among-before t h = ap (has t) slots ∙ (has-append t (opened sp.before) (s ∷ (opened sp.inner ++ opened sp.after)) ∙ or_left _ _ h)

    among-later : (t : ℕ) → has t (s ∷ (opened sp.inner ++ opened sp.after)) ≡ true → has t (opened ms) ≡ true
    among-later t h = ap (has t) slots ∙ (has-append t (opened sp.before) (s ∷ (opened sp.inner ++ opened sp.after)) ∙ or_right (has t (opened sp.before)) _ h)

    among-inner : (t : ℕ) → has t (opened sp.inner) ≡ true → has t (opened ms) ≡ true
    among-inner t h = among-later t (or_right (eqb t s) _ (has-append t (opened sp.inner) (opened sp.after) ∙ or_left _ _ h))

    among-after : (t : ℕ) → has t (opened sp.after) ≡ true → has t (opened ms) ≡ true
    among-after t h = among-later t (or_right (eqb t s) _ (has-append t (opened sp.inner) (opened sp.after) ∙ or_right (has t (opened sp.inner)) _ h))

    among-under : (t : ℕ) → has t sp.under ≡ true → has t (opened sp.before) ≡ true
    among-under t h = open_was_opened el dep sp.before sp.under t sp.front h

    -- a slot isn't among others, nor is its number
    absent : (q : ℕ) (ss : List ℕ) → has q (opened ms) ≡ true → ((t : ℕ) → has t ss ≡ true → has t (opened ms) ≡ true) → has q ss ≡ false → is_in (el q).number (map el ss) ≡ false
    absent q ss known among none = is_in-slots el dep q ss (λ t h. p.apart t q (among t h) known) ∙ none

    not-under : has s sp.under ≡ false
    not-under =
        elim (cases_Bool (has s sp.under)) [ inl h ↦ absurd (false≢true (sym (absent-before el dep ms s p there sp) ∙ among-under s h)) | inr none ↦ none ]

    not-later : (has s (opened sp.inner) ≡ false) × (has s (opened sp.after) ≡ false)
    not-later = absent-parts s (opened sp.inner) (opened sp.after) (different-back-of (opened sp.before) different)
      where
        different-back-of : (xs : List ℕ) → AreDifferent (xs ++ s ∷ (opened sp.inner ++ opened sp.after)) → has s (opened sp.inner ++ opened sp.after) ≡ false
        different-back-of [] d = d.0
        different-back-of (x ∷ xs) d = different-back-of xs d.1

    -- the children of an element, by where they stand
    children-apart : (n : ℕ) → children_of es n ≡ children n sp.before ++ (children_of (el s ∷ []) n ++ (children n sp.inner ++ children n sp.after))
    children-apart n =
        let test = is_child_of n in
        ap (filter test) (elements-apart el dep ms s p there sp) ∙ (filter-append test (map el (opened sp.before)) ((el s ∷ []) ++ (map el (opened sp.inner) ++ map el (opened sp.after)))
        ∙ ap (λ (xs : List Element). children n sp.before ++ xs) (filter-append test (el s ∷ []) (map el (opened sp.inner) ++ map el (opened sp.after))
        ∙ ap (λ (xs : List Element). children_of (el s ∷ []) n ++ xs) (filter-append test (map el (opened sp.inner)) (map el (opened sp.after)))))

    pub first-child-span : first_child_of (el s).number es ≡ opens el (sp.inner ++ Close s ∷ sp.after)
    first-child-span =
        let n = (el s).number in
        let under = absent s sp.under there (λ t h. among-before t (among-under t h)) not-under in
        let before : children n sp.before ≡ [] = no-children n sp.before [] sp.under sp.front refl (number-before el dep ms s p there sp) in
        let after : children n sp.after ≡ [] = no-children n sp.after sp.under [] sp.back under (absent s (opened sp.after) there among-after not-later.1) in
        let own : children_of (el s ∷ []) n ≡ [] = rw (not-below n sp.under (el s) sp.below.parent under) refl in
        let all : children_of es n ≡ children n sp.inner ++ children n sp.after =
        children-apart n ∙ (ap (λ (xs : List Element). xs ++ (children_of (el s ∷ []) n ++ (children n sp.inner ++ children n sp.after))) before ∙ ap (λ (xs : List Element). xs ++ (children n sp.inner ++ children n sp.after)) own) in
        ap first_number all ∙ first-inner s sp.inner sp.after sp.under (s ∷ sp.under) (children n sp.after) sp.within (closed-once el dep ms s p there sp) after

    parent-is : (o : Option ℕ) → (el s).parent ≡ o → parent_of (el s).number es ≡ o
    parent-is o is = ap (λ (x : Option Element). option_map_or (λ e. e.parent) x None) (element-span el dep ms s p there sp) ∙ is

    root-last : sp.under ≡ [] → next_sibling_of (el s).number es ≡ opens el sp.after
    root-last none =
        let parent = parent-is None (sp.below.parent ∙ ap (number_above el) none) in
        let rooted : list_all (λ t. is_some (el t).parent) (opened sp.inner ++ opened sp.after) ≡ true =
        rooted-after (λ (t : ℕ). is_some (el t).parent) (opened sp.before) s (opened sp.inner ++ opened sp.after) (subst (λ (ss : List ℕ). list_all (λ t. is_some (el t).parent) (drop 1 ss) ≡ true) slots p.rooted) in
        let parts = and_parts (list_all (λ t. is_some (el t).parent) (opened sp.inner)) _ (sym (list_all-append (λ (t : ℕ). is_some (el t).parent) (opened sp.inner) (opened sp.after)) ∙ rooted) in
        ap (λ (o : Option ℕ). option_map_or (λ q. number_after (el s).number (children_of es q)) o None) parent ∙ sym (last-root sp.after (subst (λ (st : List ℕ). Nests el dep sp.after st []) none sp.back) parts.1)

    child-next : (q : ℕ) (u : List ℕ) → sp.under ≡ q ∷ u → next_sibling_of (el s).number es ≡ opens el sp.after
    child-next q u is =
        let n = (el q).number in
        let opening : has q (opened sp.before) ≡ true = among-under q (ap (has q) is ∙ has-self q u) in
        let known = among-before q opening in
        let later = or_parts (eqb q s) _ (different-apart (opened sp.before) (s ∷ (opened sp.inner ++ opened sp.after)) q different opening) in
        let parts = absent-parts q (opened sp.inner) (opened sp.after) later.1 in
        let own : eqb (el s).number n ≡ false = (or_parts _ _ (absent q (s ∷ []) known (λ t h. among-later t (elim (or_cases (eqb t s) false h) [ inl same ↦ or_left _ _ same | inr other ↦ absurd (false≢true other) ])) (or_from _ _ later.0 refl))).0 in
        let stack : AreDifferent (q ∷ u) = subst AreDifferent is (different-open sp.before [] sp.under sp.front tt (different-front (opened sp.before) (s ∷ (opened sp.inner ++ opened sp.after)) different) (λ t h. refl)) in
        let under = absent q u known (λ t h. among-before t (among-under t (ap (has t) is ∙ or_right (eqb t q) _ h))) stack.0 in
        let inner : children n sp.inner ≡ [] = no-children-within n s sp.inner [] sp.under (s ∷ sp.under) sp.within own refl (absent q (opened sp.inner) known among-inner parts.0) (closed-once el dep ms s p there sp) in
        let after = first-after q sp.after u (subst (λ (st : List ℕ). Nests el dep sp.after st []) is sp.back) under (absent q (opened sp.after) known among-after parts.1) in
        let child : children_of (el s ∷ []) n ≡ el s ∷ [] = rw (is-child n (el s) (sp.below.parent ∙ ap (number_above el) is)) refl in
        let all : children_of es n ≡ children n sp.before ++ el s ∷ children n sp.after =
        children-apart n ∙ (ap (λ (xs : List Element). children n sp.before ++ (xs ++ (children n sp.inner ++ children n sp.after))) child ∙ ap (λ (xs : List Element). children n sp.before ++ el s ∷ (xs ++ children n sp.after)) inner) in
        sibling-after es n (children n sp.before) (el s) (children n sp.after) (proper-grown el dep ms p) all ∙ after

    pub next-sibling-span : next_sibling_of (el s).number es ≡ opens el sp.after
    next-sibling-span = by-under sp.under refl
      where
        by-under : (u : List ℕ) → sp.under ≡ u → next_sibling_of (el s).number es ≡ opens el sp.after
        by-under [] is = root-last is
        by-under (q ∷ u) is = child-next q u is

module _ (k : Kept) (sound : AreMarksOfTree k) where
  abbrev el : ℕ → Element
  el = element_at k.slots

  abbrev dep : ℕ → ℕ
  dep = depth_at k.slots

  leads-from : (xs : List Mark) (y : Mark) (ys : List Mark) → sound.marks ≡ xs ++ y ∷ ys → number_opened k.keys (get_or k.next (code y) 0) ≡ opens el ys
  leads-from xs y ys is =
      let linked = leads-split k.next k.previous 0 (map code xs) (code y) (map code ys) 1 (subst (λ (zs : List ℕ). Leads k.next k.previous 0 zs 1) (ap (map code) is ∙ map-append code xs (y ∷ ys)) sound.tour.linked) in
      let last : (t : ℕ) → has t (opened ys) ≡ true → has t (opened (y ∷ ys)) ≡ true = λ t h. later y t h in
      let among : (t : ℕ) → has t (opened ys) ≡ true → has t (opened sound.marks) ≡ true =
      λ t h. ap (λ (ms : List Mark). has t (opened ms)) is ∙ (ap (has t) (opened-append xs (y ∷ ys)) ∙ (has-append t (opened xs) (opened (y ∷ ys)) ∙ or_right (has t (opened xs)) _ (last t h))) in
      opens-next k.next k.previous k.keys el (code y) ys linked.1 (λ t h. (sound.fit t (opened-live k sound t (among t h))).key.is)
    where
      later : (y : Mark) (t : ℕ) → has t (opened ys) ≡ true → has t (opened (y ∷ ys)) ≡ true
      later (Open s) t h = or_right (eqb t s) _ h
      later (Close s) t h = h

  pub first-child-sound : (n s : ℕ) → IsSlotOf k n s → number_opened k.keys (get_or k.next (2 * s + 2) 0) ≡ first_child_of n (document_of k).elements
  first-child-sound n s of =
      let sp = span-of k sound s of.live in
      let there = live-opened k sound s of.live in
      leads-from sp.before (Open s) (sp.inner ++ Close s ∷ sp.after) (sp.is ∙ append_assoc sp.before (Open s ∷ sp.inner) (Close s ∷ sp.after))
      ∙ (sym (first-child-span el dep sound.marks s (proper k sound) there sp) ∙ (ap (first_child_of (el s).number) (sym (elements-sound k sound)) ∙ ap (λ (m : ℕ). first_child_of m (document_of k).elements) of.number))

  pub next-sibling-sound : (n s : ℕ) → IsSlotOf k n s → number_opened k.keys (get_or k.next (2 * s + 3) 0) ≡ next_sibling_of n (document_of k).elements
  next-sibling-sound n s of =
      let sp = span-of k sound s of.live in
      let there = live-opened k sound s of.live in
      leads-from (sp.before ++ Open s ∷ sp.inner) (Close s) sp.after sp.is
      ∙ (sym (next-sibling-span el dep sound.marks s (proper k sound) there sp) ∙ (ap (next_sibling_of (el s).number) (sym (elements-sound k sound)) ∙ ap (λ (m : ℕ). next_sibling_of m (document_of k).elements) of.number))

  -- what isn't there has no child and no sibling
  pub no-first-child : (n : ℕ) → is_in n (document_of k).elements ≡ false → first_child_of n (document_of k).elements ≡ None
  no-first-child n none =
      ap first_number (ap (filter (is_child_of n)) (elements-sound k sound) ∙ no-children el dep n sound.marks [] [] sound.tour.nests refl (sym (ap (is_in n) (elements-sound k sound)) ∙ none))

  pub no-next-sibling : (n : ℕ) → is_in n (document_of k).elements ≡ false → next_sibling_of n (document_of k).elements ≡ None
  no-next-sibling n none =
      ap (λ (o : Option Element). option_map_or (λ p. number_after n (children_of (document_of k).elements p)) (option_map_or (λ e. e.parent) o None) None) (not-found n (document_of k).elements none)
