-- What holds of the elements of a tree, wherever one of them stands, and of an add.
use Rattle.std.proofs.Common.{◌≡◌, ℕ, ◌<◌, ◌≤◌, true, false, not, eqb, Option, Some, None, List, [], ◌∷◌, ◌++◌, length, refl, sym, ap, ◌∙◌, subst, inl, inr, arith, length-append, append_assoc}
use Rattle.std.specs.Option.{option_map_or}
use Rattle.std.specs.List.{list_any, filter, position}
use Rattle.std.proofs.lemmas.Bool.{cases_Bool, cases_order, eq-eqb, or_from, or_left, or_right, or_parts, false≢true}
use Rattle.std.proofs.lemmas.List.Folds.{list_any-append}
use Rattle.doc_tree.specs.Element.{Element, Document, is_in, is_used, is_inclusive_descendant, chain, reversed_onto, inclusive_ancestors, position_of}
use Rattle.doc_tree.specs.Shape.{Follows, MayComeNext, IsGrown}
use Rattle.doc_tree.specs.Change.{EndsSubtree, IsAdded, IsInserted, IsLastPlace, new_element}
use Rattle.doc_tree.proofs.Chains.{Differ, chain-here, chain-past_all, is_in-chain}
use Rattle.doc_tree.proofs.Growth.{onto-append, is_in-onto_kept, is_in-onto_front, is_in-onto_there, grown-front, grown-back, differ-onto, later_differ, chain-stays, there_itself, parent_there, outside_rest, NoneWithin}
use Rattle.doc_tree.proofs.Lists.{same_parts, position-split}

-- an element of a tree follows those before it, and the tree goes on after it
record IsMet (es before after : List Element) (e : Element) : Type 0 where
  next : MayComeNext (reversed_onto before []) e
  rest : IsGrown (e ∷ reversed_onto before []) after
  differ : Differ (e ∷ reversed_onto before [])
  all : reversed_onto es [] ≡ reversed_onto after (e ∷ reversed_onto before [])

met : (es before after : List Element) (e : Element) → IsGrown [] es → es ≡ before ++ e ∷ after → IsMet es before after e
met es before after e g is =
    let grown = subst (λ (es : List Element). IsGrown [] es) is g in
    let back = grown-back [] before (e ∷ after) grown in
    record {
      next = back.0;
      rest = back.1;
      differ = (back.0.differs, differ-onto before [] (grown-front [] before (e ∷ after) grown) tt);
      all = ap (λ (es : List Element). reversed_onto es []) is ∙ onto-append before (e ∷ after) [];
    }

absent_before : (n : ℕ) (before : List Element) → is_in n (reversed_onto before []) ≡ false → is_in n before ≡ false
absent_before n before h =
    elim (cases_Bool (is_in n before)) [ inl there ↦ absurd (false≢true (sym h ∙ is_in-onto_there n before [] there)) | inr none ↦ none ]

pub tree-differ : (es before after : List Element) (e : Element) → IsGrown [] es → es ≡ before ++ e ∷ after → is_in e.number (before ++ after) ≡ false
tree-differ es before after e g is =
    let m = met es before after e g is in
    list_any-append (λ (x : Element). eqb x.number e.number) before after ∙ or_from _ _ (absent_before e.number before m.next.differs) (later_differ e.number after (e ∷ reversed_onto before []) m.rest (there_itself e (reversed_onto before [])))

-- the parent of an element that follows others is one of them
parent-in : (r : List Element) (parent : Option ℕ) (p : ℕ) → Follows r parent → parent ≡ Some p → is_in p r ≡ true
parent-in [] parent p f is = let e : None ≡ Some p = sym f ∙ is in cc
parent-in (last ∷ r) parent p f is =
    let above = parent_there last r parent f in
    let e : Some above.number ≡ Some p = sym above.is ∙ is in
    let same : above.number ≡ p = cc in
    subst (λ (n : ℕ). is_in n (last ∷ r) ≡ true) same (is_in-chain (last ∷ r) above.number last.number above.above)

pub tree-parent : (es before after : List Element) (e : Element) (p : ℕ) → IsGrown [] es → es ≡ before ++ e ∷ after → e.parent ≡ Some p → is_in p before ≡ true
tree-parent es before after e p g is parent =
    let m = met es before after e g is in
    is_in-onto_front p before [] (parent-in (reversed_onto before []) e.parent p m.next.follows parent) refl

no_parent : (r : List Element) (parent : Option ℕ) → Follows r parent → parent ≡ None → r ≡ []
no_parent [] parent f is = refl
no_parent (last ∷ r) parent f is =
    let above = parent_there last r parent f in
    let e : Some above.number ≡ None = sym above.is ∙ is in
    cc

onto-nil : (es : List Element) → reversed_onto es [] ≡ [] → es ≡ []
onto-nil [] h = refl
onto-nil (e ∷ es) h =
    let there : is_in e.number (reversed_onto es (e ∷ [])) ≡ true = is_in-onto_kept e.number es (e ∷ []) (there_itself e []) in
    absurd (false≢true (ap (is_in e.number) (sym h) ∙ there))

pub tree-root : (es before after : List Element) (e : Element) → IsGrown [] es → es ≡ before ++ e ∷ after → e.parent ≡ None → before ≡ []
tree-root es before after e g is parent =
    let m = met es before after e g is in
    onto-nil before (no_parent (reversed_onto before []) e.parent m.next.follows parent)

above-stays : (es r : List Element) (o : Option ℕ) → ((p : ℕ) → o ≡ Some p → chain es p ≡ chain r p) → option_map_or (chain es) o [] ≡ option_map_or (chain r) o []
above-stays es r None same = refl
above-stays es r (Some p) same = same p refl

pub tree-ancestors : (es before after : List Element) (e : Element) → IsGrown [] es → es ≡ before ++ e ∷ after → inclusive_ancestors es e.number ≡ e ∷ option_map_or (inclusive_ancestors es) e.parent []
tree-ancestors es before after e g is =
    let m = met es before after e g is in
    let r = reversed_onto before [] in
    let own : inclusive_ancestors es e.number ≡ e ∷ option_map_or (chain r) e.parent [] =
    ap (λ (xs : List Element). chain xs e.number) m.all ∙ (chain-stays e after r m.rest ∙ chain-here e r e.number (eq-eqb e.number e.number refl)) in
    let later : (p : ℕ) → e.parent ≡ Some p → inclusive_ancestors es p ≡ chain r p =
    λ p parent.
    let there : is_in p r ≡ true = parent-in r e.parent p m.next.follows parent in
    ap (λ (xs : List Element). chain xs p) m.all ∙ chain-past_all (e ∷ after) r p (later_differ p (e ∷ after) r (m.next, m.rest) there) in
    own ∙ ap (λ (c : List Element). e ∷ c) (sym (above-stays (reversed_onto es []) r e.parent later))

pub tree-together : (es before after : List Element) (e : Element) (a : ℕ) → IsGrown [] es → es ≡ before ++ e ∷ after → is_in a before ≡ true → is_inclusive_descendant es a e.number ≡ false → list_any (λ later. is_inclusive_descendant es a later.number) after ≡ false
tree-together es before after e a g is there out =
    let m = met es before after e g is in
    let r = reversed_onto before [] in
    let left : is_in a (chain (e ∷ r) e.number) ≡ false = sym (ap (is_in a) (ap (λ (xs : List Element). chain xs e.number) m.all ∙ chain-stays e after r m.rest)) ∙ out in
    subst (λ (xs : List Element). NoneWithin a xs after) (sym m.all) (outside_rest a e r after m.differ m.rest (or_right _ _ (is_in-onto_there a before [] there)) left)

-- the second of two splits of a list, from the first on
record GoesOn (ys us vs xs : List Element) : Type 0 where
  middle : List Element
  front : us ≡ xs ++ middle
  back : ys ≡ middle ++ vs

goes_on : (xs ys us vs : List Element) → xs ++ ys ≡ us ++ vs → length xs ≤ length us → GoesOn ys us vs xs
goes_on [] ys us vs e short = record { middle = us; front = refl; back = e }
goes_on (x ∷ xs) ys [] vs e short = absurd (omega arith)
goes_on (x ∷ xs) ys (u ∷ us) vs e short =
    let same : x ≡ u = cc in
    let rest = goes_on xs ys us vs (cc) (omega arith) in
    record { middle = rest.middle; front = ap (λ (zs : List Element). u ∷ zs) rest.front ∙ ap (λ (z : Element). z ∷ xs ++ rest.middle) (sym same); back = rest.back }

-- p's subtree doesn't end in front of an element that is in it
not_shorter : (p : ℕ) (before after before' after' : List Element) → EndsSubtree p before after → EndsSubtree p before' after' → before ++ after ≡ before' ++ after' → length before < length before' → ⊥
not_shorter p before after before' after' a b same short =
    let whole : before ++ after ≡ b.front ++ (b.last ∷ after') = same ∙ (ap (λ (xs : List Element). xs ++ after') b.is_last ∙ append_assoc b.front (b.last ∷ []) after') in
    let on = goes_on before after b.front (b.last ∷ after') whole (omega (arith, ap length b.is_last, length-append b.front (b.last ∷ []))) in
    let within : is_inclusive_descendant (before ++ after) p b.last.number ≡ true = subst (λ (es : List Element). is_inclusive_descendant es p b.last.number ≡ true) (sym same) b.within in
    let test = (λ (e : Element). is_inclusive_descendant (before ++ after) p e.number) in
    let some : list_any test after ≡ true = ap (list_any test) on.back ∙ (list_any-append test on.middle (b.last ∷ after') ∙ or_right _ _ (or_left _ _ within)) in
    false≢true (sym a.none_after ∙ some)

-- a last child has one place
one_place : (parent : Option ℕ) (before after before' after' : List Element) → IsLastPlace parent before after → IsLastPlace parent before' after' → before ++ after ≡ before' ++ after' → (before ≡ before') × (after ≡ after')
one_place None before after before' after' a b same = (a.0 ∙ sym b.0, a.1 ∙ sym b.1)
one_place (Some p) before after before' after' a b same =
    elim (cases_order (length before) (length before')) [
      | inl equal ↦ (let parts = same_parts before after before' after' equal same in (parts.fronts, parts.backs))
      | inr other ↦ (elim other [ inl short ↦ absurd (not_shorter p before after before' after' a b same short) | inr long ↦ absurd (not_shorter p before' after' before after b a (sym same) long) ])
    ]

abbrev document : List Element → List ℕ → Document
document es us = record { elements = es; used = us }

same_document : (a b : Document) → a.elements ≡ b.elements → a.used ≡ b.used → a ≡ b
same_document a b e u = ap (λ (es : List Element). document es a.used) e ∙ ap (λ (us : List ℕ). document b.elements us) u

pub one_addition : (old first second : Document) (child : Element) → IsAdded old first child → IsAdded old second child → first ≡ second
one_addition old first second child a b =
    let parts = one_place child.parent a.before a.after b.before b.after a.place b.place (sym a.was ∙ b.was) in
    let elements : first.elements ≡ second.elements = a.is ∙ (ap (λ (xs : List Element). xs ++ child ∷ a.after) parts.0 ∙ (ap (λ (xs : List Element). b.before ++ child ∷ xs) parts.1 ∙ sym b.is)) in
    same_document first second elements (a.used ∙ sym b.used)

added-absent : (old new : Document) (child : Element) (added : IsAdded old new child) → IsGrown [] new.elements → (is_in child.number added.before ≡ false) × (is_in child.number added.after ≡ false)
added-absent old new child added g =
    or_parts _ _ (sym (list_any-append (λ (x : Element). eqb x.number child.number) added.before added.after) ∙ tree-differ new.elements added.before added.after child g added.is)

pub position-added : (old new : Document) (child : Element) (added : IsAdded old new child) → IsGrown [] new.elements → position_of child.number new ≡ Some (length added.before)
position-added old new child added g =
    let test = (λ (e : Element). eqb e.number child.number) in
    ap (position test) added.is ∙ position-split test added.before child added.after (added-absent old new child added g).0 (eq-eqb child.number child.number refl)

filter-others : (n : ℕ) (es : List Element) → is_in n es ≡ false → filter (λ e. not (eqb e.number n)) es ≡ es
filter-others n [] absent = refl
filter-others n (e ∷ es) absent =
    let parts = or_parts (eqb e.number n) (is_in n es) absent in
    rw parts.0 (ap (λ (xs : List Element). e ∷ xs) (filter-others n es parts.1))

filter-around : (n : ℕ) (before after : List Element) (c : Element) → c.number ≡ n → is_in n before ≡ false → is_in n after ≡ false → filter (λ e. not (eqb e.number n)) (before ++ c ∷ after) ≡ before ++ after
filter-around n [] after c is b a = rw (eq-eqb c.number n is) (filter-others n after a)
filter-around n (e ∷ before) after c is b a =
    let parts = or_parts (eqb e.number n) (is_in n before) b in
    rw parts.0 (ap (λ (xs : List Element). e ∷ xs) (filter-around n before after c is parts.1 a))

pub others-added : (old new : Document) (child : Element) (added : IsAdded old new child) → IsGrown [] new.elements → filter (λ e. not (eqb e.number child.number)) new.elements ≡ old.elements
others-added old new child added g =
    let absent = added-absent old new child added g in
    ap (filter (λ (e : Element). not (eqb e.number child.number))) added.is ∙ (filter-around child.number added.before added.after child refl absent.0 absent.1 ∙ sym added.was)

pub used-added : (old new : Document) (child : Element) (n : ℕ) → IsAdded old new child → is_used n old ≡ true → is_used n new ≡ true
used-added old new child n added h =
    ap (list_any (eqb n)) added.used ∙ (list_any-append (eqb n) old.used (child.number ∷ []) ∙ or_left _ _ h)

pub others-inserted : (old new : Document) (n sibling : ℕ) (tag : List ℕ) (put : IsInserted old new n sibling tag) → IsGrown [] new.elements → filter (λ e. not (eqb e.number n)) new.elements ≡ old.elements
others-inserted old new n sibling tag put g =
    let c = new_element n put.next.parent tag in
    let absent = or_parts _ _ (sym (list_any-append (λ (x : Element). eqb x.number n) put.before (put.next ∷ put.after)) ∙ tree-differ new.elements put.before (put.next ∷ put.after) c g put.is) in
    ap (filter (λ (e : Element). not (eqb e.number n))) put.is ∙ (filter-around n put.before (put.next ∷ put.after) c refl absent.0 absent.1 ∙ sym put.was)
