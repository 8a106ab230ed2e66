-- What a tree keeps, and the document that it stands for.
use Rattle.std.proofs.Common.{Bor, option_copied, ◌≡◌, ℕ, ◌*◌, ◌<◌, ◌≤◌, Bool, true, false, eqb, Option, Some, None, IfSome, IfNone, List, [], ◌∷◌, ◌++◌, map, length, get_or, refl, sym, ap, ◌∙◌, subst, inl, inr, arith, is_some}
use Rattle.std.specs.Prelude.{nat_le}
use Rattle.std.specs.Option.{option_map_or}
use Rattle.std.specs.List.{list_all, position}
use Rattle.std.proofs.lemmas.Bool.{cases_Bool, eqb-true, eq-eqb, le-leb, leb-true, and_from, and_parts, or_cases, or_left, or_right, false≢true}
use Rattle.std.proofs.lemmas.List.{length-map}
use Rattle.std.proofs.lemmas.Option.{slice_get_read, get_or_from_slice_get}
use Rattle.std.proofs.lemmas.List.Folds.{list_any-append}
use Rattle.doc_tree.specs.Element.{Element, Document, is_in, is_used, depth_of, element_of, inclusive_ancestors}
use Rattle.doc_tree.specs.Shape.{IsTree, IsWithinLimits, is_bounded}
use Rattle.doc_tree.specs.declared.node.Node.{Node}
use Rattle.doc_tree.specs.declared.limits.TheConstants.{MAX_DEPTH}
use Rattle.doc_tree.specs.Marks.{Kept, Mark, code, opened, has, slots_of, slots_in, marks_until, document_of, element_at, depth_at, empty_kept, is_live, no_element, IsAt, AreMarksOfTree, IsSlotOf, IsNodeOf}
use Rattle.doc_tree.proofs.Numbers.{has-self, at-has, at-seam, at-same, different-index}
use Rattle.doc_tree.proofs.Lists.{splits_at_position, find-none}
use Rattle.doc_tree.proofs.Links.{until-leads}
use Rattle.doc_tree.proofs.Trees.{tree-ancestors, tree-parent}
use Rattle.doc_tree.proofs.Tours.{slots_of-codes, no_code, count-nests, span, IsSpan}
use Rattle.doc_tree.proofs.Standing.{IsProper, proper-grown}
use Rattle.doc_tree.proofs.Spans.{element-span, ancestors-span, elements-span}

-- what was read of a slot
pub read_slot : (slots : List (Option Node)) (s : ℕ) (o : Option Node) → s < length slots → o ≡ get_or slots s o → get_or slots s None ≡ o
read_slot slots s o within is = get_or_from_slice_get slots s o None (slice_get_read slots (length slots) s o refl within is)

-- an element among those of slots
pub record IsSlotWith (el : ℕ → Element) (n : ℕ) (ss : List ℕ) : Type 0 where
  pub slot : ℕ
  pub there : has slot ss ≡ true
  pub number : (el slot).number ≡ n

pub slot_with : (el : ℕ → Element) (n : ℕ) (ss : List ℕ) → is_in n (map el ss) ≡ true → IsSlotWith el n ss
slot_with el n [] h = absurd (false≢true h)
slot_with el n (s ∷ ss) h =
    elim (or_cases (eqb (el s).number n) _ h) [
      | inl same ↦ record { slot = s; there = has-self s ss; number = eqb-true _ _ same }
      | inr later ↦ (let w = slot_with el n ss later in record { slot = w.slot; there = or_right _ _ w.there; number = w.number })
    ]

pub is_in-slot : (el : ℕ → Element) (s : ℕ) (ss : List ℕ) → has s ss ≡ true → is_in (el s).number (map el ss) ≡ true
is_in-slot el s [] h = absurd (false≢true h)
is_in-slot el s (t ∷ ss) h =
    elim (or_cases (eqb s t) _ h) [
      | inl same ↦ or_left _ _ (eq-eqb _ _ (ap (λ (x : ℕ). (el x).number) (sym (eqb-true _ _ same))))
      | inr later ↦ or_right _ _ (is_in-slot el s ss later)
    ]

pub all-slots : (el : ℕ → Element) (p : Element → Bool) (ss : List ℕ) → ((s : ℕ) → has s ss ≡ true → p (el s) ≡ true) → list_all p (map el ss) ≡ true
all-slots el p [] f = refl
all-slots el p (s ∷ ss) f = and_from _ _ (f s (has-self s ss)) (all-slots el p ss (λ t h. f t (or_right _ _ h)))

module _ (k : Kept) (sound : AreMarksOfTree k) where
  abbrev el : ℕ → Element
  el = element_at k.slots

  abbrev dep : ℕ → ℕ
  dep = depth_at k.slots

  abbrev ms : List Mark
  ms = sound.marks

  pub codes-sound : marks_until k.next 1 (2 * k.len) (get_or k.next 0 0) ≡ map code ms
  codes-sound = until-leads k.next k.previous 0 (map code ms) 1 (2 * k.len) sound.tour.linked (no_code 1 ms (omega arith)) (omega (arith, length-map ms code, sound.tour.many))

  pub slots-sound : slots_in k ≡ opened ms
  slots-sound = ap slots_of codes-sound ∙ slots_of-codes ms

  pub elements-sound : (document_of k).elements ≡ map el (opened ms)
  elements-sound = ap (map el) slots-sound

  pub count-opened : length (opened ms) ≡ k.len
  count-opened = omega (arith, count-nests el dep ms [] [] sound.tour.nests, sound.tour.many)

  pub length-sound : length (document_of k).elements ≡ k.len
  length-sound = ap length elements-sound ∙ (length-map (opened ms) el ∙ count-opened)

  pub opened-live : (s : ℕ) → has s (opened ms) ≡ true → is_live k.slots s ≡ true
  opened-live s h = sym (sound.tour.live s) ∙ h

  pub live-opened : (s : ℕ) → is_live k.slots s ≡ true → has s (opened ms) ≡ true
  live-opened s h = sound.tour.live s ∙ h

  pub same-slot : (a b : ℕ) → is_live k.slots a ≡ true → is_live k.slots b ≡ true → (el a).number ≡ (el b).number → a ≡ b
  same-slot a b la lb same =
      different-index k.keys a b (el a).number sound.different (sound.fit a la).key (subst (λ (n : ℕ). IsAt k.keys b n) (sym same) (sound.fit b lb).key)

  pub proper : IsProper el dep ms
  proper = record { nests = sound.tour.nests; different = sound.tour.different; rooted = sound.tour.rooted; apart = λ a b ha hb same. same-slot a b (opened-live a ha) (opened-live b hb) same }

  pub tree-sound : IsTree (document_of k)
  tree-sound = record {
    order = rw elements-sound (proper-grown el dep ms proper);
    numbers = rw elements-sound (all-slots el (λ e. is_used e.number (document_of k)) (opened ms) (λ s h. at-has k.keys s (el s).number (sound.fit s (opened-live s h)).key));
  }

  pub span-of : (s : ℕ) → is_live k.slots s ≡ true → IsSpan el dep ms s
  span-of s live = span el dep ms s sound.tour.nests (live-opened s live)

  pub ancestors-sound : (s : ℕ) (live : is_live k.slots s ≡ true) → inclusive_ancestors (document_of k).elements (el s).number ≡ map el (s ∷ (span-of s live).under)
  ancestors-sound s live =
      ap (λ (es : List Element). inclusive_ancestors es (el s).number) elements-sound ∙ ancestors-span el dep ms s proper (live-opened s live) (span-of s live)

  pub depth-sound : (s : ℕ) → is_live k.slots s ≡ true → depth_of (document_of k).elements (el s).number ≡ dep s
  depth-sound s live =
      ap length (ancestors-sound s live) ∙ (length-map (s ∷ (span-of s live).under) el ∙ omega (arith, (span-of s live).below.depth))

  pub limits-sound : IsWithinLimits (document_of k)
  limits-sound = record {
    elements = omega (arith, length-sound, sound.limit);
    depths = rw elements-sound (all-slots el (λ e. nat_le (depth_of (map el (opened ms)) e.number) MAX_DEPTH) (opened ms)
        (λ s h. le-leb _ _ (subst (λ (d : ℕ). d ≤ MAX_DEPTH) (sym (depth-sound s (opened-live s h)) ∙ ap (λ (es : List Element). depth_of es (el s).number) elements-sound) (sound.fit s (opened-live s h)).depth)));
    texts = rw elements-sound (all-slots el is_bounded (opened ms) (λ s h. (sound.fit s (opened-live s h)).bounded));
  }

  -- a number that isn't at an index of a slot with an element is of no element
  pub absent-sound : (n : ℕ) → ((s : ℕ) → is_live k.slots s ≡ true → IsAt k.keys s n → ⊥) → is_in n (document_of k).elements ≡ false
  absent-sound n none =
      elim (cases_Bool (is_in n (document_of k).elements)) [
        | inl there ↦
            (let w = slot_with el n (opened ms) (ap (is_in n) (sym elements-sound) ∙ there) in
            let live = opened-live w.slot w.there in
            absurd (none w.slot live (subst (λ (m : ℕ). IsAt k.keys w.slot m) w.number (sound.fit w.slot live).key)))
        | inr absent ↦ absent
      ]

  pub absent-unused : (n : ℕ) → has n k.keys ≡ false → is_in n (document_of k).elements ≡ false
  absent-unused n unused = absent-sound n (λ s live at. false≢true (sym unused ∙ at-has k.keys s n at))

  -- the index of a number
  pub at-position : (n s : ℕ) → position (eqb n) k.keys ≡ Some s → IsAt k.keys s n
  at-position n s is =
      let sp = splits_at_position (eqb n) k.keys s is in
      subst (λ (xs : List ℕ). IsAt xs s n) (sym sp.is) (subst (λ (x : ℕ). IsAt (sp.front ++ x ∷ sp.back) s n) (eqb-true _ _ sp.passes) (at-seam sp.front sp.back s n (sym sp.at)))

  pub absent-cleared : (n s : ℕ) → position (eqb n) k.keys ≡ Some s → is_live k.slots s ≡ false → is_in n (document_of k).elements ≡ false
  absent-cleared n s is dead =
      absent-sound n (λ t live at. false≢true (sym dead ∙ subst (λ (x : ℕ). is_live k.slots x ≡ true) (different-index k.keys t s n sound.different at (at-position n s is)) live))

  pub found-slot : (n s : ℕ) → position (eqb n) k.keys ≡ Some s → is_live k.slots s ≡ true → IsSlotOf k n s
  found-slot n s is live =
      let at = at-position n s is in
      record { within = omega (arith, sound.sized.slots, at.within); live = live; number = at-same k.keys s (el s).number n (sound.fit s live).key at }

  -- an element and those around it
  pub split-sound : (s : ℕ) (live : is_live k.slots s ≡ true) → (document_of k).elements ≡ map el (opened (span-of s live).before) ++ el s ∷ map el (opened (span-of s live).inner ++ opened (span-of s live).after)
  split-sound s live = elements-sound ∙ elements-span el dep ms s proper (live-opened s live) (span-of s live)

  parent-in : (s : ℕ) (live : is_live k.slots s ≡ true) (o : Option ℕ) → (el s).parent ≡ o → IfSome o (λ p. is_in p (document_of k).elements ≡ true)
  parent-in s live None is = tt
  parent-in s live (Some p) is =
      let before = map el (opened (span-of s live).before) in
      let after = map el (opened (span-of s live).inner ++ opened (span-of s live).after) in
      ap (is_in p) (split-sound s live) ∙ (list_any-append (λ (e : Element). eqb e.number p) before (el s ∷ after) ∙ or_left _ _ (tree-parent (document_of k).elements before after (el s) p tree-sound.order (split-sound s live) is))

  pub element-sound : (s : ℕ) → is_live k.slots s ≡ true → element_of (el s).number (document_of k).elements ≡ Some (el s)
  element-sound s live = ap (element_of (el s).number) elements-sound ∙ element-span el dep ms s proper (live-opened s live) (span-of s live)

  -- what is known of the element in a slot
  pub node-found : (n s : ℕ) (x : Node) → IsSlotOf k n s → get_or k.slots s None ≡ Some x → IsNodeOf (document_of k) n x
  node-found n s x of is =
      let same : el s ≡ x.element = ap (λ (o : Option Node). option_map_or (λ x. x.element) o no_element) is in
      let deep : dep s ≡ x.depth = ap (λ (o : Option Node). option_map_or (λ x. x.depth) o 0) is in
      let number : x.element.number ≡ n = ap (λ (e : Element). e.number) (sym same) ∙ of.number in
      let bounded = and_parts _ _ (subst (λ (e : Element). is_bounded e ≡ true) same (sound.fit s of.live).bounded) in
      let before = map el (opened (span-of s of.live).before) in
      let after = map el (opened (span-of s of.live).inner ++ opened (span-of s of.live).after) in
      record {
        element = ap (λ (m : ℕ). element_of m (document_of k).elements) (sym of.number) ∙ (element-sound s of.live ∙ ap (λ (e : Element). Some e) same);
        number = number;
        there = subst (λ (m : ℕ). is_in m (document_of k).elements ≡ true) of.number (ap (is_in (el s).number) elements-sound ∙ is_in-slot el s (opened ms) (live-opened s of.live));
        depth = ap (depth_of (document_of k).elements) (sym of.number) ∙ (depth-sound s of.live ∙ deep);
        parent = parent-in s of.live x.element.parent (ap (λ (e : Element). e.parent) same);
        ancestors = subst (λ (m : ℕ). inclusive_ancestors (document_of k).elements m ≡ x.element ∷ option_map_or (inclusive_ancestors (document_of k).elements) x.element.parent []) of.number
            (subst (λ (e : Element). inclusive_ancestors (document_of k).elements (el s).number ≡ e ∷ option_map_or (inclusive_ancestors (document_of k).elements) e.parent []) same (tree-ancestors (document_of k).elements before after (el s) tree-sound.order (split-sound s of.live)));
        style = leb-true _ _ bounded.0;
        classes = leb-true _ _ bounded.1;
      }

-- what holds of what a reference points to
pub if_copied : {X : Type 0} (o : Option (Bor X)) (P : X → Type 0) → ((x : X) → option_copied o ≡ Some x → P x) → IfSome o (λ b. P b.now)
if_copied None P f = tt
if_copied (Some b) P f = f b.now refl

-- the element of a slot is in the tree
pub slot-there : (k : Kept) (sound : AreMarksOfTree k) (n s : ℕ) → IsSlotOf k n s → is_in n (document_of k).elements ≡ true
slot-there k sound n s of =
    subst (λ (m : ℕ). is_in m (document_of k).elements ≡ true) of.number (ap (is_in (element_at k.slots s).number) (elements-sound k sound) ∙ is_in-slot (element_at k.slots) s (opened sound.marks) (live-opened k sound s of.live))

-- no element is there exactly where none is counted
empty_list : (es : List Element) → length es ≡ 0 → es ≡ []
empty_list [] h = refl
empty_list (e ∷ es) h = absurd (omega arith)

pub empty-sound : (k : Kept) (sound : AreMarksOfTree k) (d : Document) → document_of k ≡ d → (eqb k.len 0 ≡ true → d.elements ≡ []) × (d.elements ≡ [] → eqb k.len 0 ≡ true)
empty-sound k sound d is =
    let count : length d.elements ≡ k.len = ap (λ (x : Document). length x.elements) (sym is) ∙ length-sound k sound in
    (λ none. empty_list d.elements (count ∙ eqb-true _ _ none), λ empty. eq-eqb _ _ (sym count ∙ ap length empty))

-- what isn't there isn't found
pub not-found : (n : ℕ) (es : List Element) → is_in n es ≡ false → element_of n es ≡ None
not-found n es none = find-none (λ (e : Element). eqb e.number n) es none

-- the empty tree
pub empty_kept-sound : AreMarksOfTree empty_kept
empty_kept-sound = record {
  marks = [];
  tour = record {
    linked = (record { within = omega arith; is = refl }, record { within = omega arith; is = refl });
    many = refl;
    nests = refl;
    different = tt;
    rooted = refl;
    live = λ s. refl;
    counted = λ fresh. record { ranks = tt; order = refl };
  };
  sized = record { few = omega arith; slots = refl; next = refl; previous = refl; ranks = refl; order = refl; links = refl; back_links = refl };
  fit = λ s live. absurd (false≢true live);
  different = tt;
  limit = omega arith;
}

-- a slot is found exactly where the element is there
pub slot-test : (k : Kept) (sound : AreMarksOfTree k) (n : ℕ) (o : Option ℕ) → IfSome o (IsSlotOf k n) → IfNone o (is_in n (document_of k).elements ≡ false) → is_some o ≡ is_in n (document_of k).elements
slot-test k sound n None found absent = sym absent
slot-test k sound n (Some s) found absent = sym (slot-there k sound n s found)

pub not-found-in : (n : ℕ) (d e : Document) → d ≡ e → is_in n d.elements ≡ false → element_of n e.elements ≡ None
not-found-in n d e is none = subst (λ (x : Document). element_of n x.elements ≡ None) is (not-found n d.elements none)
