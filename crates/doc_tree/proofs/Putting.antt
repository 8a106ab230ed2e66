-- A node is put between the marks of a tour.
use Rattle.std.proofs.Common.{◌≡◌, ℕ, ◌+◌, ◌*◌, ◌<◌, ◌≤◌, ◌||◌, Bool, true, false, eqb, Option, Some, None, List, [], ◌∷◌, ◌++◌, map, length, drop, get_or, zero, suc, refl, sym, ap, ◌∙◌, subst, inl, inr, arith, is_some, length-append}
use Rattle.std.specs.Prelude.{nat_lt}
use Rattle.std.specs.Option.{option_map_or}
use Rattle.std.specs.List.{list_all}
use Rattle.std.proofs.lemmas.Bool.{cases_order, eq-eqb, ne_eqb, lt-ltb, and_from, and_parts, or_parts, or_from, or_left, or_right, false≢true}
use Rattle.std.proofs.lemmas.List.{length-set, map-append, append-nil, get_or_append_left}
use Rattle.std.proofs.lemmas.List.Folds.{list_all-append}
use Rattle.std.proofs.Math.Seq.{get_or-append_seam}
use Rattle.doc_tree.specs.Element.{Element}
use Rattle.doc_tree.specs.Shape.{is_bounded}
use Rattle.doc_tree.specs.declared.node.Node.{Node}
use Rattle.doc_tree.specs.declared.limits.TheConstants.{MAX_DEPTH, MAX_ELEMENTS, MAX_SLOTS}
use Rattle.doc_tree.specs.Marks.{Kept, Mark, Open, Close, code, opened, has, document_of, element_at, depth_at, is_live, number_above, no_element, with_node, AreDifferent, IsAt, IsBelow, AreMarksOfTree, IsSized, IsFit, Nests, Leads}
use Rattle.doc_tree.proofs.Numbers.{has-append, has-self, at-append, at-seam, below-at, below-set, below-weaker, different-put, absent-from}
use Rattle.doc_tree.proofs.Links.{first_mark, first_mark-nil, first_mark-cons, splice, leads-split, leads-fresh, target_within}
use Rattle.doc_tree.proofs.Tours.{opened-append, no_code, nests-join, nests-same, number_above-same, elements-same, rooted-same, open_was_opened, IsSameAt}
use Rattle.doc_tree.proofs.Sound.{opened-live, elements-sound}

-- an index past the end has the default
pub get_or-past : (slots : List (Option Node)) (s : ℕ) → length slots ≤ s → get_or slots s None ≡ None
get_or-past [] s h = refl
get_or-past (x ∷ slots) zero h = absurd (omega arith)
get_or-past (x ∷ slots) (suc s) h = get_or-past slots s (omega arith)

pub has-drop : (n : ℕ) (xs : List ℕ) → has n (drop 1 xs) ≡ true → has n xs ≡ true
has-drop n [] h = h
has-drop n (x ∷ xs) h = or_right _ _ h

list_all-drop : (p : ℕ → Bool) (x : ℕ) (xs ys : List ℕ) (c : ℕ) → p c ≡ true → list_all p (xs ++ ys) ≡ true → list_all p (xs ++ c ∷ ys) ≡ true
list_all-drop p x [] ys c own all = and_from _ _ own all
list_all-drop p x (y ∷ xs) ys c own all =
    let parts = and_parts (p y) _ all in
    and_from _ _ parts.0 (list_all-drop p x xs ys c own parts.1)

append_parts : (xs ys : List Mark) → xs ++ ys ≡ [] → (xs ≡ []) × (ys ≡ [])
append_parts [] ys e = (refl, e)
append_parts (x ∷ xs) ys e = absurd (let h : x ∷ (xs ++ ys) ≡ [] = e in cc)

drop-put : (p : ℕ → Bool) (xs ys : List ℕ) (c q : ℕ) → has q xs ≡ true → p c ≡ true → list_all p (drop 1 (xs ++ ys)) ≡ true → list_all p (drop 1 (xs ++ c ∷ ys)) ≡ true
drop-put p [] ys c q there own all = absurd (false≢true there)
drop-put p (x ∷ xs) ys c q there own all = list_all-drop p x xs ys c own all

-- where a node may be put: below the slots that are open there; a root alone
pub record IsGap (k : Kept) (marks : List Mark) (x : Node) (m : ℕ) : Type 0 where
  pub xs : List Mark
  pub ys : List Mark
  pub stack : List ℕ
  pub is : marks ≡ xs ++ ys
  pub front : Nests (element_at k.slots) (depth_at k.slots) xs [] stack
  pub back : Nests (element_at k.slots) (depth_at k.slots) ys stack []
  pub parent : x.element.parent ≡ number_above (element_at k.slots) stack
  pub depth : x.depth ≡ length stack + 1
  pub mark : m ≡ first_mark (map code ys)
  pub root : stack ≡ [] → marks ≡ []

-- a node that may be put there
pub record IsNew (k : Kept) (x : Node) : Type 0 where
  pub unused : has x.element.number k.keys ≡ false
  pub few : length k.slots < MAX_SLOTS
  pub room : k.len < MAX_ELEMENTS
  pub shallow : x.depth ≤ MAX_DEPTH
  pub bounded : is_bounded x.element ≡ true

module _ (k : Kept) (sound : AreMarksOfTree k) (x : Node) (m : ℕ) (gap : IsGap k sound.marks x m) (new : IsNew k x) where
  abbrev el : ℕ → Element
  el = element_at k.slots

  abbrev dep : ℕ → ℕ
  dep = depth_at k.slots

  abbrev c : ℕ
  c = length k.slots

  abbrev k' : Kept
  k' = with_node k x.element.number x m

  abbrev el' : ℕ → Element
  el' = element_at k'.slots

  abbrev dep' : ℕ → ℕ
  dep' = depth_at k'.slots

  abbrev marks' : List Mark
  marks' = gap.xs ++ Open c ∷ Close c ∷ gap.ys

  old-slot : (s : ℕ) → s < c → get_or (k.slots ++ Some x ∷ []) s None ≡ get_or k.slots s None
  old-slot s h = get_or_append_left k.slots (Some x ∷ []) None s h

  own-slot : get_or (k.slots ++ Some x ∷ []) c None ≡ Some x
  own-slot = get_or-append_seam k.slots (Some x) [] None

  past-slot : (s : ℕ) → c < s → get_or (k.slots ++ Some x ∷ []) s None ≡ None
  past-slot s h = get_or-past (k.slots ++ Some x ∷ []) s (omega (arith, length-append k.slots (Some x ∷ [])))

  own-element : el' c ≡ x.element
  own-element = ap (λ (o : Option Node). option_map_or (λ x. x.element) o no_element) own-slot

  own-depth : dep' c ≡ x.depth
  own-depth = ap (λ (o : Option Node). option_map_or (λ x. x.depth) o 0) own-slot

  same-below : (s : ℕ) → s < c → IsSameAt el el' dep dep' s
  same-below s h =
      record { element = ap (λ (o : Option Node). option_map_or (λ x. x.element) o no_element) (old-slot s h); depth = ap (λ (o : Option Node). option_map_or (λ x. x.depth) o 0) (old-slot s h) }

  opened-split : opened sound.marks ≡ opened gap.xs ++ opened gap.ys
  opened-split = ap opened gap.is ∙ opened-append gap.xs gap.ys

  opened-within : (s : ℕ) → has s (opened sound.marks) ≡ true → s < c
  opened-within s h = omega (arith, (sound.fit s (opened-live k sound s h)).key.within, sound.sized.slots)

  same-front : (s : ℕ) → has s (opened gap.xs) ≡ true → IsSameAt el el' dep dep' s
  same-front s h = same-below s (opened-within s (ap (has s) opened-split ∙ (has-append s (opened gap.xs) (opened gap.ys) ∙ or_left _ _ h)))

  same-back : (s : ℕ) → has s (opened gap.ys) ≡ true → IsSameAt el el' dep dep' s
  same-back s h = same-below s (opened-within s (ap (has s) opened-split ∙ (has-append s (opened gap.xs) (opened gap.ys) ∙ or_right (has s (opened gap.xs)) _ h)))

  same-stack : (s : ℕ) → has s gap.stack ≡ true → IsSameAt el el' dep dep' s
  same-stack s h = same-front s (open_was_opened el dep gap.xs gap.stack s gap.front h)

  nests-put : Nests el' dep' marks' [] []
  nests-put =
      let below : IsBelow el' dep' gap.stack c = record {
        parent = ap (λ (e : Element). e.parent) own-element ∙ (gap.parent ∙ number_above-same el el' dep dep' gap.stack same-stack);
        depth = own-depth ∙ gap.depth;
      } in
      nests-join el' dep' gap.xs (Open c ∷ Close c ∷ gap.ys) [] gap.stack [] (nests-same el el' dep dep' gap.xs [] gap.stack (λ t h. absurd (false≢true h)) same-front gap.front)
      (below, (refl, nests-same el el' dep dep' gap.ys gap.stack [] same-stack same-back gap.back))

  codes-split : map code sound.marks ≡ map code gap.xs ++ map code gap.ys
  codes-split = ap (map code) gap.is ∙ map-append code gap.xs gap.ys

  codes-put : map code marks' ≡ map code gap.xs ++ (2 * c + 2) ∷ (2 * c + 3) ∷ map code gap.ys
  codes-put = map-append code gap.xs (Open c ∷ Close c ∷ gap.ys)

  fresh-code : (i : ℕ) → 2 * c + 2 ≤ i → has i (map code gap.xs ++ map code gap.ys) ≡ false
  fresh-code i h =
      sym (ap (has i) codes-split) ∙ leads-fresh k.next k.previous 0 (map code sound.marks) 1 i sound.tour.linked (omega (arith, sound.sized.previous, sound.sized.slots))

  different-codes : AreDifferent (map code gap.xs ++ map code gap.ys)
  different-codes = subst AreDifferent codes-split sound.tour.different

  different-new : AreDifferent (map code marks')
  different-new =
      let second = different-put (map code gap.xs) (map code gap.ys) (2 * c + 3) different-codes (fresh-code (2 * c + 3) (omega arith)) in
      let parts = or_parts _ _ (sym (has-append (2 * c + 2) (map code gap.xs) (map code gap.ys)) ∙ fresh-code (2 * c + 2) (omega arith)) in
      let fresh : has (2 * c + 2) (map code gap.xs ++ (2 * c + 3) ∷ map code gap.ys) ≡ false =
      absent-from (2 * c + 2) (map code gap.xs) ((2 * c + 3) ∷ map code gap.ys) parts.0 (or_from _ _ (ne_eqb (2 * c + 2) (2 * c + 3) (λ same. omega arith)) parts.1) in
      subst AreDifferent (sym codes-put) (different-put (map code gap.xs) ((2 * c + 3) ∷ map code gap.ys) (2 * c + 2) second fresh)

  linked-put : Leads k'.next k'.previous 0 (map code marks') 1
  linked-put =
      let linked = subst (λ (ms : List ℕ). Leads k.next k.previous 0 ms 1) codes-split sound.tour.linked in
      let no_end = sym (ap (has 1) codes-split) ∙ no_code 1 sound.marks (omega arith) in
      let no_start = sym (ap (has 0) codes-split) ∙ no_code 0 sound.marks (omega arith) in
      subst (λ (ms : List ℕ). Leads k'.next k'.previous 0 ms 1) (sym codes-put)
      (splice k.next k.previous (2 * c + 2) (2 * c + 3) m (omega (arith, sound.sized.next, sound.sized.slots)) (omega (arith, sound.sized.previous, sound.sized.slots)) (omega arith) (map code gap.xs) (map code gap.ys) linked (no_start, different-codes) no_end gap.mark (omega arith))

  opened-put : opened marks' ≡ opened gap.xs ++ c ∷ opened gap.ys
  opened-put = opened-append gap.xs (Open c ∷ Close c ∷ gap.ys)

  live-put : (s : ℕ) → has s (opened marks') ≡ is_live k'.slots s
  live-put s =
      let parts : has s (opened marks') ≡ (has s (opened gap.xs) || (eqb s c || has s (opened gap.ys))) = ap (has s) opened-put ∙ has-append s (opened gap.xs) (c ∷ opened gap.ys) in
      let old : has s (opened sound.marks) ≡ (has s (opened gap.xs) || has s (opened gap.ys)) = ap (has s) opened-split ∙ has-append s (opened gap.xs) (opened gap.ys) in
      elim (cases_order s c) [
        | inl same ↦
            (let left : has s (opened marks') ≡ true = parts ∙ or_right (has s (opened gap.xs)) _ (or_left _ _ (eq-eqb s c same)) in
            left ∙ sym (ap (is_live k'.slots) same ∙ ap (λ (o : Option Node). is_some o) own-slot))
        | inr other ↦ (elim other [
          | inl low ↦
              (let differs : eqb s c ≡ false = ne_eqb s c (λ same. omega arith) in
              let left : has s (opened marks') ≡ has s (opened sound.marks) = parts ∙ (ap (λ (b : Bool). has s (opened gap.xs) || (b || has s (opened gap.ys))) differs ∙ sym old) in
              left ∙ (sound.tour.live s ∙ sym (ap (λ (o : Option Node). is_some o) (old-slot s low))))
          | inr high ↦
              (let differs : eqb s c ≡ false = ne_eqb s c (λ same. omega arith) in
              let left : has s (opened marks') ≡ has s (opened sound.marks) = parts ∙ (ap (λ (b : Bool). has s (opened gap.xs) || (b || has s (opened gap.ys))) differs ∙ sym old) in
              left ∙ (sound.tour.live s ∙ (ap (λ (o : Option Node). is_some o) (get_or-past k.slots s (omega arith)) ∙ sym (ap (λ (o : Option Node). is_some o) (past-slot s high)))))
        ])
      ]

  rooted-cases : (st : List ℕ) → gap.stack ≡ st → list_all (λ s. is_some (el' s).parent) (drop 1 (opened gap.xs ++ c ∷ opened gap.ys)) ≡ true
  rooted-cases [] is =
      let none = append_parts gap.xs gap.ys (sym gap.is ∙ gap.root is) in
      rw (none.0, none.1) refl
  rooted-cases (q ∷ st) is =
      let there : has q (opened gap.xs) ≡ true = open_was_opened el dep gap.xs (q ∷ st) q (subst (λ (z : List ℕ). Nests el dep gap.xs [] z) is gap.front) (has-self q st) in
      let parent : is_some x.element.parent ≡ true = ap (λ (o : Option ℕ). is_some o) (gap.parent ∙ ap (number_above el) is) in
      let own : is_some (el' c).parent ≡ true = ap (λ (e : Element). is_some e.parent) own-element ∙ parent in
      let old = subst (λ (ss : List ℕ). list_all (λ s. is_some (el s).parent) (drop 1 ss) ≡ true) opened-split sound.tour.rooted in
      drop-put (λ (s : ℕ). is_some (el' s).parent) (opened gap.xs) (opened gap.ys) c q there own
      (rooted-same el el' dep dep' (drop 1 (opened gap.xs ++ opened gap.ys)) (λ t h. same-below t (opened-within t (ap (has t) opened-split ∙ has-drop t (opened gap.xs ++ opened gap.ys) h))) old)

  rooted-put : list_all (λ s. is_some (el' s).parent) (drop 1 (opened marks')) ≡ true
  rooted-put = subst (λ (ss : List ℕ). list_all (λ s. is_some (el' s).parent) (drop 1 ss) ≡ true) (sym opened-put) (rooted-cases gap.stack refl)

  mark-cases : (ys : List Mark) → gap.ys ≡ ys → m < length k.previous
  mark-cases [] is =
      let mark : m ≡ 1 = gap.mark ∙ (ap (λ (zs : List Mark). first_mark (map code zs)) is ∙ first_mark-nil) in
      omega (arith, sound.sized.previous)
  mark-cases (y ∷ ys) is =
      let mark : m ≡ code y = gap.mark ∙ (ap (λ (zs : List Mark). first_mark (map code zs)) is ∙ first_mark-cons (code y) (map code ys)) in
      let linked = subst (λ (ms : List ℕ). Leads k.next k.previous 0 ms 1) (codes-split ∙ ap (λ (zs : List Mark). map code gap.xs ++ map code zs) is) sound.tour.linked in
      subst (λ (z : ℕ). z < length k.previous) (sym mark) (target_within k.next k.previous 0 (map code gap.xs) (code y) (leads-split k.next k.previous 0 (map code gap.xs) (code y) (map code ys) 1 linked).0)

  mark-within : m < length k.previous
  mark-within = mark-cases gap.ys refl

  next-length : length k'.next ≡ 2 * c + 4
  next-length = length-set (k.next ++ (2 * c + 3) ∷ m ∷ []) (get_or k.previous m 0) (2 * c + 2) ∙ omega (arith, length-append k.next ((2 * c + 3) ∷ m ∷ []), sound.sized.next, sound.sized.slots)

  low-mark : m < 2 * c + 4
  low-mark = omega (arith, mark-within, sound.sized.previous, sound.sized.slots)

  sized-put : IsSized k'
  sized-put =
      let same_next : length k.next ≡ 2 * c + 2 = omega (arith, sound.sized.next, sound.sized.slots) in
      let before_m : get_or k.previous m 0 < 2 * c + 4 = omega (arith, below-at k.previous m (length k.next) mark-within sound.sized.back_links) in
      let grown : list_all (λ z. nat_lt z (2 * c + 4)) k.next ≡ true = below-weaker k.next (length k.next) (2 * c + 4) (omega arith) sound.sized.links in
      let grown_back : list_all (λ z. nat_lt z (2 * c + 4)) k.previous ≡ true = below-weaker k.previous (length k.next) (2 * c + 4) (omega arith) sound.sized.back_links in
      let two_next : list_all (λ z. nat_lt z (2 * c + 4)) ((2 * c + 3) ∷ m ∷ []) ≡ true = and_from _ _ (lt-ltb _ _ (omega arith)) (and_from _ _ (lt-ltb _ _ low-mark) refl) in
      let two_back : list_all (λ z. nat_lt z (2 * c + 4)) (get_or k.previous m 0 ∷ (2 * c + 2) ∷ []) ≡ true = and_from _ _ (lt-ltb _ _ before_m) (and_from _ _ (lt-ltb _ _ (omega arith)) refl) in
      record {
        few = omega (arith, length-append k.keys (x.element.number ∷ []), new.few, sound.sized.slots);
        slots = omega (arith, length-append k.slots (Some x ∷ []), length-append k.keys (x.element.number ∷ []), sound.sized.slots);
        next = omega (arith, next-length, length-append k.keys (x.element.number ∷ []), sound.sized.slots);
        previous = length-set (k.previous ++ get_or k.previous m 0 ∷ (2 * c + 2) ∷ []) m (2 * c + 3) ∙ omega (arith, length-append k.previous (get_or k.previous m 0 ∷ (2 * c + 2) ∷ []), length-append k.keys (x.element.number ∷ []), sound.sized.previous);
        ranks = omega (arith, length-append k.ranks (0 ∷ 0 ∷ []), length-append k.keys (x.element.number ∷ []), sound.sized.ranks);
        order = omega (arith, length-append k.order (0 ∷ []), length-append k.keys (x.element.number ∷ []), sound.sized.order);
        links = subst (λ (n : ℕ). list_all (λ z. nat_lt z n) k'.next ≡ true) (sym next-length)
            (below-set (k.next ++ (2 * c + 3) ∷ m ∷ []) (get_or k.previous m 0) (2 * c + 2) (2 * c + 4) (omega arith) (list_all-append (λ (z : ℕ). nat_lt z (2 * c + 4)) k.next ((2 * c + 3) ∷ m ∷ []) ∙ and_from _ _ grown two_next));
        back_links = subst (λ (n : ℕ). list_all (λ z. nat_lt z n) k'.previous ≡ true) (sym next-length)
            (below-set (k.previous ++ get_or k.previous m 0 ∷ (2 * c + 2) ∷ []) m (2 * c + 3) (2 * c + 4) (omega arith) (list_all-append (λ (z : ℕ). nat_lt z (2 * c + 4)) k.previous (get_or k.previous m 0 ∷ (2 * c + 2) ∷ []) ∙ and_from _ _ grown_back two_back));
      }

  own-key : IsAt k'.keys c x.element.number
  own-key = at-seam k.keys [] c x.element.number sound.sized.slots

  fit-own : IsFit k' c
  fit-own = record {
    key = subst (λ (e : Element). IsAt k'.keys c e.number) (sym own-element) own-key;
    depth = subst (λ (d : ℕ). d ≤ MAX_DEPTH) (sym own-depth) new.shallow;
    bounded = subst (λ (e : Element). is_bounded e ≡ true) (sym own-element) new.bounded;
  }

  fit-old : (s : ℕ) → s < c → is_live k'.slots s ≡ true → IsFit k' s
  fit-old s low live =
      let fit = sound.fit s (sym (ap (λ (o : Option Node). is_some o) (old-slot s low)) ∙ live) in
      let same = same-below s low in
      record {
        key = subst (λ (e : Element). IsAt k'.keys s e.number) (sym same.element) (at-append k.keys (x.element.number ∷ []) s (el s).number fit.key);
        depth = subst (λ (d : ℕ). d ≤ MAX_DEPTH) (sym same.depth) fit.depth;
        bounded = subst (λ (e : Element). is_bounded e ≡ true) (sym same.element) fit.bounded;
      }

  fit-put : (s : ℕ) → is_live k'.slots s ≡ true → IsFit k' s
  fit-put s live =
      elim (cases_order s c) [
        | inl same ↦ subst (λ (t : ℕ). IsFit k' t) (sym same) fit-own
        | inr other ↦ (elim other [
          | inl low ↦ fit-old s low live
          | inr high ↦ absurd (false≢true (sym (ap (λ (o : Option Node). is_some o) (past-slot s high)) ∙ live))
        ])
      ]

  different-put-last : AreDifferent k'.keys
  different-put-last = different-put k.keys [] x.element.number (subst AreDifferent (sym (append-nil k.keys)) sound.different) (ap (has x.element.number) (append-nil k.keys) ∙ new.unused)

  -- what is kept with the node is sound
  pub put-sound : AreMarksOfTree k'
  put-sound = record {
    marks = marks';
    tour = record {
      linked = linked-put;
      many = omega (arith, ap length gap.is, sound.tour.many, length-append gap.xs gap.ys, length-append gap.xs (Open c ∷ Close c ∷ gap.ys));
      nests = nests-put;
      different = different-new;
      rooted = rooted-put;
      live = live-put;
      counted = λ fresh. absurd (false≢true fresh);
    };
    sized = sized-put;
    fit = fit-put;
    different = different-put-last;
    limit = omega (arith, new.room);
  }

  -- and stands for the document with the element in its place
  pub elements-put : (document_of k').elements ≡ map el (opened gap.xs) ++ x.element ∷ map el (opened gap.ys)
  unfolding put-sound
  elements-put =
      elements-sound k' put-sound ∙ (ap (map el') opened-put ∙ (map-append el' (opened gap.xs) (c ∷ opened gap.ys) ∙ cc (elements-same el el' dep dep' (opened gap.xs) same-front, elements-same el el' dep dep' (opened gap.ys) same-back, own-element)))
