-- The places of new elements, and what an add and an insert make of a tree.
use Rattle.std.proofs.Common.{◌≡◌, ℕ, ◌+◌, ◌*◌, ◌<◌, ◌≤◌, ◌&&◌, ◌⊎◌, Bool, true, false, Option, Some, None, Result, Ok, Err, OnOk, OnErr, cond, List, [], ◌∷◌, ◌++◌, map, length, refl, sym, ap, ◌∙◌, subst, inl, inr, arith, is_none, length-append, append_assoc}
use Rattle.std.specs.Prelude.{nat_lt}
use Rattle.std.specs.Option.{option_map_or}
use Rattle.std.proofs.lemmas.Bool.{cases_Bool, ltb-false, lt-ltb, le-ltb, and_right, false≢true}
use Rattle.std.proofs.lemmas.List.{map-append}
use Rattle.doc_tree.specs.Element.{Element, Document, is_in, is_used, depth_of, parent_of, inclusive_ancestors}
use Rattle.doc_tree.specs.Change.{EndsSubtree, IsAdded, IsInserted, new_element}
use Rattle.doc_tree.specs.Fault.{Answers, child_depth, fault_at_depth, fault_of_add, fault_of_insert}
use Rattle.doc_tree.specs.declared.fault.TreeFault.{TreeFault}
use Rattle.doc_tree.specs.declared.node.Node.{Node}
use Rattle.doc_tree.specs.declared.limits.TheConstants.{MAX_DEPTH, MAX_ELEMENTS, MAX_SLOTS}
use Rattle.doc_tree.specs.Marks.{Kept, Mark, Open, Close, code, opened, has, document_of, element_at, depth_at, is_live, number_above, with_node, AreMarksOfTree, IsSlotOf, IsEnd, IsLastOf, IsPlaceBelow, IsPlaceBefore}
use Rattle.doc_tree.proofs.Links.{first_mark-nil, first_mark-cons}
use Rattle.doc_tree.proofs.Tours.{opened-append, nests-join}
use Rattle.doc_tree.proofs.Spans.{ends-span}
use Rattle.doc_tree.proofs.Sound.{live-opened, elements-sound, length-sound, proper, span-of, depth-sound, element-sound, is_in-slot, split-sound, tree-sound}
use Rattle.doc_tree.proofs.Trees.{tree-ancestors}
use Rattle.doc_tree.specs.declared.fault.TreeFault.TheVariants.{UnknownNode, BoundNodes, BoundDepth, BoundRoot}
use Rattle.doc_tree.proofs.Putting.{IsGap, IsNew, put-sound, elements-put}

-- the truths under which a new element has no fault at its place
pub record IsFaultless (d : Document) (n depth : ℕ) (root : Bool) : Type 0 where
  pub unused : is_used n d ≡ false
  pub room : length d.elements + 1 ≤ MAX_ELEMENTS
  pub shallow : depth ≤ MAX_DEPTH
  pub alone : (root && nat_lt 0 (length d.elements)) ≡ false

cond_none : {T : Type 0} (b : Bool) (x : T) (rest : Option T) → cond b (Some x) rest ≡ None → (b ≡ false) × (rest ≡ None)
cond_none true x rest e = cc
cond_none false x rest e = (refl, e)

pub faultless : (d : Document) (n depth : ℕ) (root : Bool) → fault_at_depth d n depth root ≡ None → IsFaultless d n depth root
faultless d n depth root none =
    let unused = cond_none _ _ _ none in
    let room = cond_none _ _ _ unused.1 in
    let shallow = cond_none _ _ _ room.1 in
    let alone = cond_none _ _ _ shallow.1 in
    record { unused = unused.0; room = ltb-false _ _ room.0; shallow = ltb-false _ _ shallow.0; alone = alone.0 }

ok_faultless : {T : Type 0} (f : Option TreeFault) (x : T) → Answers {T = T} f (Ok x) → f ≡ None
ok_faultless None x h = refl
ok_faultless (Some e) x h = cc

empty_marks : (ms : List Mark) → length ms ≡ 0 → ms ≡ []
empty_marks [] h = refl
empty_marks (m ∷ ms) h = absurd (omega arith)

-- what an edit makes of a sound tree, where it is accepted
pub record IsEdited (k' : Kept) (Q : Type 0) : Type 0 where
  pub sound : AreMarksOfTree k'
  pub is : Q

child-depth : (o : Option ℕ) (es : List Element) → child_depth o es ≡ length (option_map_or (inclusive_ancestors es) o []) + 1
child-depth None es = refl
child-depth (Some p) es = refl

module _ (k : Kept) (sound : AreMarksOfTree k) (n : ℕ) (tag : List ℕ) where
  abbrev el : ℕ → Element
  el = element_at k.slots

  abbrev node : Option ℕ → ℕ → Node
  node parent depth = record { element = new_element n parent tag; depth = depth }

  new-node : (parent : Option ℕ) (depth : ℕ) (root : Bool) → IsFaultless (document_of k) n depth root → length k.slots < MAX_SLOTS → IsNew k (node parent depth)
  new-node parent depth root fine few =
      record { unused = fine.unused; few = few; room = omega (arith, fine.room, length-sound k sound); shallow = fine.shallow; bounded = refl }

  -- after all that is below the element of slot s
  gap-below : (p s mark : ℕ) (parent : Option ℕ) (depth : ℕ) → IsSlotOf k p s → mark ≡ 2 * s + 3 → parent ≡ Some p → depth ≡ depth_at k.slots s + 1 → IsGap k sound.marks (node parent depth) mark
  gap-below p s mark parent depth of mark_is parent_is depth_is =
      let sp = span-of k sound s of.live in
      record {
        xs = sp.before ++ Open s ∷ sp.inner;
        ys = Close s ∷ sp.after;
        stack = s ∷ sp.under;
        is = sp.is;
        front = nests-join el (depth_at k.slots) sp.before (Open s ∷ sp.inner) [] sp.under (s ∷ sp.under) sp.front (sp.below, sp.within);
        back = (refl, sp.back);
        parent = parent_is ∙ ap (λ (m : ℕ). Some m) (sym of.number);
        depth = omega (arith, depth_is, sp.below.depth);
        mark = mark_is ∙ sym (first_mark-cons (2 * s + 3) (map code sp.after));
        root = λ e. absurd (let h : s ∷ sp.under ≡ [] = e in cc);
      }

  -- directly before the element of slot s, which isn't the root
  gap-before : (s mark : ℕ) (parent : Option ℕ) (depth : ℕ) → is_live k.slots s ≡ true → mark ≡ 2 * s + 2 → parent ≡ (el s).parent → depth ≡ depth_at k.slots s → is_none parent ≡ false → IsGap k sound.marks (node parent depth) mark
  gap-before s mark parent depth live mark_is parent_is depth_is not_root =
      let sp = span-of k sound s live in
      record {
        xs = sp.before;
        ys = Open s ∷ (sp.inner ++ Close s ∷ sp.after);
        stack = sp.under;
        is = sp.is ∙ append_assoc sp.before (Open s ∷ sp.inner) (Close s ∷ sp.after);
        front = sp.front;
        back = (sp.below, nests-join el (depth_at k.slots) sp.inner (Close s ∷ sp.after) (s ∷ sp.under) (s ∷ sp.under) [] sp.within (refl, sp.back));
        parent = parent_is ∙ sp.below.parent;
        depth = omega (arith, depth_is, sp.below.depth);
        mark = mark_is ∙ sym (first_mark-cons (2 * s + 2) (map code (sp.inner ++ Close s ∷ sp.after)));
        root = λ e. absurd (false≢true (sym not_root ∙ ap (λ (o : Option ℕ). is_none o) (parent_is ∙ (sp.below.parent ∙ ap (number_above el) e))));
      }

  -- a root goes into an empty tree
  gap-root : (mark : ℕ) (parent : Option ℕ) (depth : ℕ) → sound.marks ≡ [] → mark ≡ 1 → parent ≡ None → depth ≡ 1 → IsGap k sound.marks (node parent depth) mark
  gap-root mark parent depth empty mark_is parent_is depth_is =
      record { xs = []; ys = []; stack = []; is = empty; front = refl; back = refl; parent = parent_is; depth = depth_is; mark = mark_is ∙ sym first_mark-nil; root = λ e. empty }

  added-last : (p : ℕ) (mark : ℕ) (parent : Option ℕ) (depth : ℕ) → IsLastOf k p mark parent depth → IsFaultless (document_of k) n depth (is_none parent) → length k.slots < MAX_SLOTS
      → IsEdited (with_node k n (node parent depth) mark) (IsAdded (document_of k) (document_of (with_node k n (node parent depth) mark)) (new_element n (Some p) tag))
  unfolding gap-below
  added-last p mark parent depth place fine few =
      let s = place.slot in
      let sp = span-of k sound s place.of.live in
      let gap = gap-below p s mark parent depth place.of place.mark_is place.parent_is place.depth_is in
      let new = new-node parent depth (is_none parent) fine few in
      let ends = ends-span el (depth_at k.slots) sound.marks s (proper k sound) (live-opened k sound s place.of.live) sp in
      let front : map el (opened sp.before ++ s ∷ opened sp.inner) ≡ map el (opened gap.xs) = ap (map el) (sym (opened-append sp.before (Open s ∷ sp.inner))) in
      record {
        sound = put-sound k sound (node parent depth) mark gap new;
        is = record {
          before = map el (opened gap.xs);
          after = map el (opened gap.ys);
          was = elements-sound k sound ∙ (ap (λ (ms : List Mark). map el (opened ms)) gap.is ∙ (ap (map el) (opened-append gap.xs gap.ys) ∙ map-append el (opened gap.xs) (opened gap.ys)));
          is = elements-put k sound (node parent depth) mark gap new ∙ ap (λ (o : Option ℕ). map el (opened gap.xs) ++ new_element n o tag ∷ map el (opened gap.ys)) place.parent_is;
          place = subst (λ (m : ℕ). EndsSubtree m (map el (opened gap.xs)) (map el (opened gap.ys))) place.of.number (subst (λ (es : List Element). EndsSubtree (el s).number es (map el (opened sp.after))) front ends);
          used = refl;
        };
      }

  added-root : (mark : ℕ) (parent : Option ℕ) (depth : ℕ) → IsEnd mark parent depth → IsFaultless (document_of k) n depth (is_none parent) → length k.slots < MAX_SLOTS
      → IsEdited (with_node k n (node parent depth) mark) (IsAdded (document_of k) (document_of (with_node k n (node parent depth) mark)) (new_element n None tag))
  unfolding gap-root
  added-root mark parent depth place fine few =
      let none : (is_none parent && nat_lt 0 (length (document_of k).elements)) ≡ false = fine.alone in
      let zero_elements : nat_lt 0 (length (document_of k).elements) ≡ false = subst (λ (o : Option ℕ). (is_none o && nat_lt 0 (length (document_of k).elements)) ≡ false) place.parent_is none in
      let empty : sound.marks ≡ [] = empty_marks sound.marks (omega (arith, ltb-false _ _ zero_elements, length-sound k sound, sound.tour.many)) in
      let gap = gap-root mark parent depth empty place.mark_is place.parent_is place.depth_is in
      let new = new-node parent depth (is_none parent) fine few in
      record {
        sound = put-sound k sound (node parent depth) mark gap new;
        is = record {
          before = [];
          after = [];
          was = elements-sound k sound ∙ ap (λ (ms : List Mark). map el (opened ms)) empty;
          is = elements-put k sound (node parent depth) mark gap new ∙ ap (λ (o : Option ℕ). new_element n o tag ∷ []) place.parent_is;
          place = (refl, refl);
          used = refl;
        };
      }

  added-below : (o : Option ℕ) (mark : ℕ) (parent : Option ℕ) (depth : ℕ) → IsPlaceBelow k o mark parent depth → IsFaultless (document_of k) n depth (is_none parent) → length k.slots < MAX_SLOTS
      → IsEdited (with_node k n (node parent depth) mark) (IsAdded (document_of k) (document_of (with_node k n (node parent depth) mark)) (new_element n o tag))
  added-below None mark parent depth place fine few = added-root mark parent depth place fine few
  added-below (Some p) mark parent depth place fine few = added-last p mark parent depth place fine few

  inserted-before : (sibling mark : ℕ) (parent : Option ℕ) (depth : ℕ) → IsPlaceBefore k sibling mark parent depth → IsFaultless (document_of k) n depth (is_none parent) → length k.slots < MAX_SLOTS
      → IsEdited (with_node k n (node parent depth) mark) (IsInserted (document_of k) (document_of (with_node k n (node parent depth) mark)) n sibling tag)
  unfolding gap-before
  inserted-before sibling mark parent depth place fine few =
      let s = place.slot in
      let sp = span-of k sound s place.of.live in
      let some_element : nat_lt 0 (length (document_of k).elements) ≡ true =
      lt-ltb _ _ (omega (arith, ap length (split-sound k sound s place.of.live), length-append (map el (opened sp.before)) (el s ∷ map el (opened sp.inner ++ opened sp.after)))) in
      let not_root : is_none parent ≡ false =
      elim (cases_Bool (is_none parent)) [
        | inl is ↦ absurd (false≢true (sym fine.alone ∙ (ap (λ (b : Bool). b && nat_lt 0 (length (document_of k).elements)) is ∙ some_element)))
        | inr other ↦ other
      ] in
      let gap = gap-before s mark parent depth place.of.live place.mark_is place.parent_is place.depth_is not_root in
      let new = new-node parent depth (is_none parent) fine few in
      record {
        sound = put-sound k sound (node parent depth) mark gap new;
        is = record {
          before = map el (opened sp.before);
          next = el s;
          after = map el (opened (sp.inner ++ Close s ∷ sp.after));
          number = place.of.number;
          was = elements-sound k sound ∙ (ap (λ (ms : List Mark). map el (opened ms)) gap.is ∙ (ap (map el) (opened-append gap.xs gap.ys) ∙ map-append el (opened gap.xs) (opened gap.ys)));
          is = elements-put k sound (node parent depth) mark gap new ∙ ap (λ (o : Option ℕ). map el (opened gap.xs) ++ new_element n o tag ∷ map el (opened gap.ys)) place.parent_is;
          used = refl;
        };
      }

  -- the fault of an add is that of its place
  pub fault-below : (o : Option ℕ) (mark : ℕ) (parent : Option ℕ) (depth : ℕ) → IsPlaceBelow k o mark parent depth → fault_of_add (document_of k) n o ≡ fault_at_depth (document_of k) n depth (is_none parent)
  fault-below None mark parent depth place =
      cc (ap (λ (d : ℕ). fault_at_depth (document_of k) n d true) place.depth_is, ap (λ (p : Option ℕ). fault_at_depth (document_of k) n depth (is_none p)) place.parent_is)
  fault-below (Some p) mark parent depth place =
      let s = place.slot in
      let there : is_in p (document_of k).elements ≡ true =
      subst (λ (m : ℕ). is_in m (document_of k).elements ≡ true) place.of.number (ap (is_in (el s).number) (elements-sound k sound) ∙ is_in-slot el s (opened sound.marks) (live-opened k sound s place.of.live)) in
      let deep : depth_of (document_of k).elements p + 1 ≡ depth =
      ap (λ (d : ℕ). d + 1) (ap (depth_of (document_of k).elements) (sym place.of.number) ∙ depth-sound k sound s place.of.live) ∙ sym place.depth_is in
      ap (λ (b : Bool). cond b (fault_at_depth (document_of k) n (depth_of (document_of k).elements p + 1) false) (Some UnknownNode)) there
      ∙ (ap (λ (d : ℕ). fault_at_depth (document_of k) n d false) deep ∙ ap (λ (q : Option ℕ). fault_at_depth (document_of k) n depth (is_none q)) (sym place.parent_is))

  pub fault-before : (sibling mark : ℕ) (parent : Option ℕ) (depth : ℕ) → IsPlaceBefore k sibling mark parent depth → fault_of_insert (document_of k) n sibling ≡ fault_at_depth (document_of k) n depth (is_none parent)
  fault-before sibling mark parent depth place =
      let s = place.slot in
      let es = (document_of k).elements in
      let there : is_in sibling es ≡ true =
      subst (λ (m : ℕ). is_in m es ≡ true) place.of.number (ap (is_in (el s).number) (elements-sound k sound) ∙ is_in-slot el s (opened sound.marks) (live-opened k sound s place.of.live)) in
      let parent_is : parent_of sibling es ≡ parent =
      ap (λ (m : ℕ). parent_of m es) (sym place.of.number) ∙ (ap (λ (o : Option Element). option_map_or (λ e. e.parent) o None) (element-sound k sound s place.of.live) ∙ sym place.parent_is) in
      let before = map el (opened (span-of k sound s place.of.live).before) in
      let after = map el (opened (span-of k sound s place.of.live).inner ++ opened (span-of k sound s place.of.live).after) in
      let up = tree-ancestors es before after (el s) (tree-sound k sound).order (split-sound k sound s place.of.live) in
      let own : depth ≡ length (option_map_or (inclusive_ancestors es) (el s).parent []) + 1 = omega (arith, place.depth_is, depth-sound k sound s place.of.live, ap length up) in
      let deep : child_depth parent es ≡ depth = child-depth parent es ∙ (ap (λ (o : Option ℕ). length (option_map_or (inclusive_ancestors es) o []) + 1) place.parent_is ∙ sym own) in
      ap (λ (b : Bool). cond b (fault_at_depth (document_of k) n (child_depth (parent_of sibling es) es) (is_none (parent_of sibling es))) (Some UnknownNode)) there
      ∙ (ap (λ (o : Option ℕ). fault_at_depth (document_of k) n (child_depth o es) (is_none o)) parent_is ∙ ap (λ (d : ℕ). fault_at_depth (document_of k) n d (is_none parent)) deep)

  -- the outcome of an add
  pub add-result : (k' : Kept) (o : Option ℕ) (mark : ℕ) (parent : Option ℕ) (depth : ℕ) (result : Result (Unit {0}) TreeFault) → IsPlaceBelow k o mark parent depth
      → Answers (fault_at_depth (document_of k) n depth (is_none parent)) result → OnOk result (k' ≡ with_node k n (node parent depth) mark) → OnOk result (length k.slots < MAX_SLOTS) → OnErr result (k' ≡ k)
      → IsEdited k' (OnOk result (IsAdded (document_of k) (document_of k') (new_element n o tag)))
  add-result k' o mark parent depth (Ok u) place answer is few same =
      let edited = added-below o mark parent depth place (faultless (document_of k) n depth (is_none parent) (ok_faultless (fault_at_depth (document_of k) n depth (is_none parent)) u answer)) few in
      record { sound = subst AreMarksOfTree (sym is) edited.sound; is = subst (λ (z : Kept). IsAdded (document_of k) (document_of z) (new_element n o tag)) (sym is) edited.is }
  add-result k' o mark parent depth (Err e) place answer is few same = record { sound = subst AreMarksOfTree (sym same) sound; is = tt }

  -- and of an insert
  pub insert-result : (k' : Kept) (sibling mark : ℕ) (parent : Option ℕ) (depth : ℕ) (result : Result (Unit {0}) TreeFault) → IsPlaceBefore k sibling mark parent depth
      → Answers (fault_at_depth (document_of k) n depth (is_none parent)) result → OnOk result (k' ≡ with_node k n (node parent depth) mark) → OnOk result (length k.slots < MAX_SLOTS) → OnErr result (k' ≡ k)
      → IsEdited k' (OnOk result (IsInserted (document_of k) (document_of k') n sibling tag))
  insert-result k' sibling mark parent depth (Ok u) place answer is few same =
      let edited = inserted-before sibling mark parent depth place (faultless (document_of k) n depth (is_none parent) (ok_faultless (fault_at_depth (document_of k) n depth (is_none parent)) u answer)) few in
      record { sound = subst AreMarksOfTree (sym is) edited.sound; is = subst (λ (z : Kept). IsInserted (document_of k) (document_of z) n sibling tag) (sym is) edited.is }
  insert-result k' sibling mark parent depth (Err e) place answer is few same = record { sound = subst AreMarksOfTree (sym same) sound; is = tt }

  -- the fault told in another way
  pub answers-by : {T : Type 0} (f g : Option TreeFault) (result : Result T TreeFault) → f ≡ g → Answers g result → Answers f result
  answers-by {T} f g result same answer = subst (λ (h : Option TreeFault). Answers {T = T} h result) (sym same) answer

-- the fault that is found, in the order of the tests
module _ (k : Kept) (sound : AreMarksOfTree k) (n depth : ℕ) (root : Bool) (unused : false ≡ has n k.keys) where
  pub fault-nodes : MAX_ELEMENTS < k.len + 1 → Some BoundNodes ≡ fault_at_depth (document_of k) n depth root
  fault-nodes many =
      let full : nat_lt MAX_ELEMENTS (length (document_of k).elements + 1) ≡ true = lt-ltb _ _ (omega (arith, length-sound k sound)) in
      rw (sym unused, full) refl

  pub fault-depth : k.len + 1 ≤ MAX_ELEMENTS → MAX_DEPTH < depth → Some BoundDepth ≡ fault_at_depth (document_of k) n depth root
  fault-depth few deep =
      let room : nat_lt MAX_ELEMENTS (length (document_of k).elements + 1) ≡ false = le-ltb _ _ (omega (arith, length-sound k sound)) in
      rw (sym unused, room, lt-ltb MAX_DEPTH depth deep) refl

  pub fault-root : k.len + 1 ≤ MAX_ELEMENTS → depth ≤ MAX_DEPTH → root ≡ true → 0 < k.len → Some BoundRoot ≡ fault_at_depth (document_of k) n depth root
  fault-root few shallow is some =
      let room : nat_lt MAX_ELEMENTS (length (document_of k).elements + 1) ≡ false = le-ltb _ _ (omega (arith, length-sound k sound)) in
      let there : nat_lt 0 (length (document_of k).elements) ≡ true = lt-ltb _ _ (omega (arith, length-sound k sound)) in
      rw (sym unused, room, le-ltb MAX_DEPTH depth shallow, is, there) refl

  pub fault-none : k.len + 1 ≤ MAX_ELEMENTS → depth ≤ MAX_DEPTH → (root ≡ false) ⊎ (k.len ≤ 0) → None ≡ fault_at_depth (document_of k) n depth root
  fault-none few shallow (inl is) =
      let room : nat_lt MAX_ELEMENTS (length (document_of k).elements + 1) ≡ false = le-ltb _ _ (omega (arith, length-sound k sound)) in
      rw (sym unused, room, le-ltb MAX_DEPTH depth shallow, is) refl
  fault-none few shallow (inr empty) =
      let room : nat_lt MAX_ELEMENTS (length (document_of k).elements + 1) ≡ false = le-ltb _ _ (omega (arith, length-sound k sound)) in
      let none : (root && nat_lt 0 (length (document_of k).elements)) ≡ false = and_right root _ (le-ltb _ _ (omega (arith, length-sound k sound))) in
      rw (sym unused, room, le-ltb MAX_DEPTH depth shallow, none) refl
