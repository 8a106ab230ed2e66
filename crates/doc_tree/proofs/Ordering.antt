-- Places in tree order: ranks of marks, and the slots in order.
use Rattle.std.proofs.Common.{◌≡◌, ℕ, ◌+◌, ◌-◌, ◌*◌, ◌/◌, ◌%◌, ◌<◌, ◌≤◌, Bool, true, false, eqb, cond, Option, Some, None, List, [], ◌∷◌, ◌++◌, map, length, take, get_or, set, zero, suc, refl, sym, ap, ◌∙◌, subst, inl, inr, arith, is_some, slice_get, length-append, append_assoc}
use Rattle.std.specs.Option.{option_map, option_map_or}
use Rattle.std.specs.List.{position, AllByRecursion, IsDistinct}
use Rattle.std.proofs.lemmas.Bool.{cases_Bool, cases_lt, eq-eqb, or_parts, or_left, or_right, false≢true}
use Rattle.std.proofs.lemmas.List.{length-map, length-set, length-take, map-append, append-nil}
use Rattle.std.proofs.Math.Seq.{take-suc-set}
use Rattle.std.proofs.lemmas.Option.{slice_get_read, get_or_from_slice_get}
use Rattle.doc_tree.proofs.Lists.{is_some-position}
use Rattle.std.proofs.lemmas.Map.Steps.{length-le_from_distinct_below}
use Rattle.doc_tree.specs.Element.{Element, is_in, position_of, subtree_end_of, subtree_of}
use Rattle.doc_tree.specs.declared.node.Node.{Node}
use Rattle.doc_tree.specs.Marks.{Kept, Mark, Open, Close, code, opened, has, slots_of, marks_until, slots_in, rank_in, with_ranks, with_order, with_positions, document_of, element_at, depth_at, is_live, no_element, AreDifferent, AreRanks, IsAt, AreMarksOfTree, IsSlotOf, Leads}
use Rattle.doc_tree.proofs.Numbers.{has-self, at-set_same, at-set_other, different-before}
use Rattle.doc_tree.proofs.Links.{leads-split, leads-fresh, until-leads}
use Rattle.doc_tree.proofs.Tours.{even, odd, half, opened-append, different-opened, slots_of-codes}
use Rattle.doc_tree.proofs.Spans.{position-span, subtree-span, slots-span}
use Rattle.doc_tree.proofs.Sound.{opened-live, live-opened, elements-sound, slots-sound, codes-sound, count-opened, proper, span-of}

rank-at : (ranks : List ℕ) (i : ℕ) (xs : List Mark) (y : Mark) (ys : List Mark) → AreRanks ranks i (xs ++ y ∷ ys) → get_or ranks (code y) 0 ≡ i + length (opened xs)
rank-at ranks i [] (Open s) ys r = omega (arith, r.0.is)
rank-at ranks i [] (Close s) ys r = omega (arith, r.0.is)
rank-at ranks i (Open s ∷ xs) y ys r = omega (arith, rank-at ranks (i + 1) xs y ys r.1)
rank-at ranks i (Close s ∷ xs) y ys r = rank-at ranks i xs y ys r.1

-- writes of other marks leave a rank
ranks-kept : (ms : List ℕ) (i v k : ℕ) (ranks : List ℕ) → has i ms ≡ false → IsAt ranks i v → IsAt (with_ranks ms k ranks) i v
ranks-kept [] i v k ranks h at = at
ranks-kept (m ∷ ms) i v k ranks h at =
    let parts = or_parts (eqb i m) (has i ms) h in
    ranks-kept ms i v (cond (eqb (m % 2) 0) (k + 1) k) (set ranks m k) parts.1 (at-set_other ranks m i v k (λ same. false≢true (sym parts.0 ∙ eq-eqb i m same)) at)

pub length-with_ranks : (ms : List ℕ) (k : ℕ) (ranks : List ℕ) → length (with_ranks ms k ranks) ≡ length ranks
length-with_ranks [] k ranks = refl
length-with_ranks (m ∷ ms) k ranks = length-with_ranks ms (cond (eqb (m % 2) 0) (k + 1) k) (set ranks m k) ∙ length-set ranks m k

ranks-made : (ms : List Mark) (k : ℕ) (ranks : List ℕ) → AreDifferent (map code ms) → ((i : ℕ) → has i (map code ms) ≡ true → i < length ranks) → AreRanks (with_ranks (map code ms) k ranks) k ms
ranks-made [] k ranks d low = tt
ranks-made (Open s ∷ ms) k ranks d low =
    let o = 2 * s + 2 in
    let here : IsAt (with_ranks (map code ms) (k + 1) (set ranks o k)) o k = ranks-kept (map code ms) o k (k + 1) (set ranks o k) d.0 (at-set_same ranks o k (low o (has-self o (map code ms)))) in
    let rest = ranks-made ms (k + 1) (set ranks o k) d.1 (λ i h. omega (arith, length-set ranks o k, low i (or_right (eqb i o) _ h))) in
    let step : k + 1 ≡ cond (eqb (o % 2) 0) (k + 1) k = sym (ap (λ (b : Bool). cond b (k + 1) k) (even s)) in
    subst (λ (j : ℕ). AreRanks (with_ranks (map code ms) j (set ranks o k)) k (Open s ∷ ms)) step (here, rest)
ranks-made (Close s ∷ ms) k ranks d low =
    let o = 2 * s + 3 in
    let here : IsAt (with_ranks (map code ms) k (set ranks o k)) o k = ranks-kept (map code ms) o k k (set ranks o k) d.0 (at-set_same ranks o k (low o (has-self o (map code ms)))) in
    let rest = ranks-made ms k (set ranks o k) d.1 (λ i h. omega (arith, length-set ranks o k, low i (or_right (eqb i o) _ h))) in
    let step : k ≡ cond (eqb (o % 2) 0) (k + 1) k = sym (ap (λ (b : Bool). cond b (k + 1) k) (odd s)) in
    subst (λ (j : ℕ). AreRanks (with_ranks (map code ms) j (set ranks o k)) k (Close s ∷ ms)) step (here, rest)

pub length-with_order : (ms : List ℕ) (k : ℕ) (order : List ℕ) → length (with_order ms k order) ≡ length order
length-with_order [] k order = refl
length-with_order (m ∷ ms) k order =
    elim (cases_Bool (eqb (m % 2) 0)) [
      | inl opens ↦ rw opens (length-with_order ms (k + 1) (set order k (m / 2 - 1)) ∙ length-set order k (m / 2 - 1))
      | inr closes ↦ rw closes (length-with_order ms k order)
    ]

order-made : (ms : List Mark) (k n : ℕ) (order : List ℕ) → k + length (opened ms) ≤ length order → n ≡ k + length (opened ms) → take n (with_order (map code ms) k order) ≡ take k order ++ opened ms
order-made [] k n order low is =
    let same : n ≡ k = omega arith in
    ap (λ (m : ℕ). take m order) same ∙ sym (append-nil (take k order))
order-made (Open s ∷ ms) k n order low is =
    let rest = order-made ms (k + 1) n (set order k s) (omega (arith, length-set order k s)) (omega arith) in
    let one : k + 1 ≡ suc k = omega arith in
    let next : take (k + 1) (set order k s) ≡ take k order ++ s ∷ [] = ap (λ (m : ℕ). take m (set order k s)) one ∙ take-suc-set order k s (omega arith) in
    rw (even s, half s) (rest ∙ (ap (λ (xs : List ℕ). xs ++ opened ms) next ∙ append_assoc (take k order) (s ∷ []) (opened ms)))
order-made (Close s ∷ ms) k n order low is = rw (odd s) (order-made ms k n order low is)

get-taken : (xs : List ℕ) (n i : ℕ) → i < n → i < length xs → slice_get (take n xs) i ≡ Some (get_or xs i 0)
get-taken [] n i h low = absurd (omega arith)
get-taken (x ∷ xs) zero i h low = absurd (omega arith)
get-taken (x ∷ xs) (suc n) zero h low = refl
get-taken (x ∷ xs) (suc n) (suc i) h low = get-taken xs n i (omega arith) (omega arith)

get-there : (xs : List ℕ) (i v : ℕ) → slice_get xs i ≡ Some v → has v xs ≡ true
get-there [] i v is = absurd (let e : None ≡ Some v = is in cc)
get-there (x ∷ xs) zero v is = or_left _ _ (eq-eqb v x (let e : Some x ≡ Some v = is in cc))
get-there (x ∷ xs) (suc i) v is = or_right _ _ (get-there xs i v is)

none-equal : (x : ℕ) (xs : List ℕ) → has x xs ≡ false → AllByRecursion (λ y. eqb x y ≡ false) xs
none-equal x [] h = tt
none-equal x (y ∷ xs) h =
    let parts = or_parts (eqb x y) (has x xs) h in
    (parts.0, none-equal x xs parts.1)

distinct : (xs : List ℕ) → AreDifferent xs → IsDistinct eqb xs
unfolding IsDistinct
distinct [] d = tt
distinct (x ∷ xs) d = (none-equal x xs d.0, distinct xs d.1)

module _ (k : Kept) (sound : AreMarksOfTree k) where
  abbrev el : ℕ → Element
  el = element_at k.slots

  abbrev dep : ℕ → ℕ
  dep = depth_at k.slots

  -- how many elements are opened before a mark
  pub rank-sound : (xs : List Mark) (y : Mark) (ys : List Mark) → sound.marks ≡ xs ++ y ∷ ys → rank_in k (code y) ≡ length (opened xs)
  rank-sound xs y ys is =
      let codes : map code sound.marks ≡ map code xs ++ code y ∷ map code ys = ap (map code) is ∙ map-append code xs (y ∷ ys) in
      let linked = leads-split k.next k.previous 0 (map code xs) (code y) (map code ys) 1 (subst (λ (zs : List ℕ). Leads k.next k.previous 0 zs 1) codes sound.tour.linked) in
      let once = different-before (map code xs) (code y) (map code ys) (subst AreDifferent codes sound.tour.different) in
      let walk : length (slots_of (marks_until k.next (code y) (2 * k.len) (get_or k.next 0 0))) ≡ length (opened xs) =
      ap (λ (zs : List ℕ). length (slots_of zs)) (until-leads k.next k.previous 0 (map code xs) (code y) (2 * k.len) linked.0 once (omega (arith, length-map xs code, ap length is, length-append xs (y ∷ ys), sound.tour.many))) ∙ ap length (slots_of-codes xs) in
      elim (cases_Bool k.fresh) [
        | inl fresh ↦ rw fresh (rank-at k.ranks 0 xs y ys (subst (AreRanks k.ranks 0) is (sound.tour.counted fresh).ranks) ∙ omega arith)
        | inr stale ↦ rw stale walk
      ]

  pub rank-small : (xs ys : List Mark) → sound.marks ≡ xs ++ ys → length (opened xs) ≤ k.len
  rank-small xs ys is = omega (arith, count-opened k sound, ap (λ (ms : List Mark). length (opened ms)) is, ap length (opened-append xs ys), length-append (opened xs) (opened ys))

  opening-split : (s : ℕ) (live : is_live k.slots s ≡ true) → sound.marks ≡ (span-of k sound s live).before ++ Open s ∷ ((span-of k sound s live).inner ++ Close s ∷ (span-of k sound s live).after)
  opening-split s live = (span-of k sound s live).is ∙ append_assoc (span-of k sound s live).before (Open s ∷ (span-of k sound s live).inner) (Close s ∷ (span-of k sound s live).after)

  pub position-sound : (n s : ℕ) → IsSlotOf k n s → position_of n (document_of k) ≡ Some (rank_in k (2 * s + 2))
  position-sound n s of =
      let sp = span-of k sound s of.live in
      let rank = rank-sound sp.before (Open s) (sp.inner ++ Close s ∷ sp.after) (opening-split s of.live) in
      ap (λ (m : ℕ). position_of m (document_of k)) (sym of.number) ∙ (ap (position (λ (e : Element). eqb e.number (el s).number)) (elements-sound k sound)
      ∙ (position-span el dep sound.marks s (proper k sound) (live-opened k sound s of.live) sp ∙ ap (λ (i : ℕ). Some i) (sym rank)))

  pub position-small : (s : ℕ) → is_live k.slots s ≡ true → rank_in k (2 * s + 2) < k.len
  position-small s live =
      let sp = span-of k sound s live in
      let rank = rank-sound sp.before (Open s) (sp.inner ++ Close s ∷ sp.after) (opening-split s live) in
      omega (arith, rank, count-opened k sound, ap length (slots-span el dep sound.marks s (proper k sound) (live-opened k sound s live) sp), length-append (opened sp.before) (s ∷ (opened sp.inner ++ opened sp.after)))

  pub end-small : (s : ℕ) → is_live k.slots s ≡ true → rank_in k (2 * s + 3) ≤ k.len
  end-small s live =
      let sp = span-of k sound s live in
      omega (arith, rank-sound (sp.before ++ Open s ∷ sp.inner) (Close s) sp.after sp.is, rank-small (sp.before ++ Open s ∷ sp.inner) (Close s ∷ sp.after) sp.is)

  pub end-sound : (n s : ℕ) → IsSlotOf k n s → subtree_end_of n (document_of k) ≡ Some (rank_in k (2 * s + 3))
  end-sound n s of =
      let sp = span-of k sound s of.live in
      let rank = rank-sound (sp.before ++ Open s ∷ sp.inner) (Close s) sp.after sp.is in
      let opens = rank-sound sp.before (Open s) (sp.inner ++ Close s ∷ sp.after) (opening-split s of.live) in
      let size : length (subtree_of (document_of k).elements n) ≡ 1 + length (opened sp.inner) =
      ap (λ (m : ℕ). length (subtree_of (document_of k).elements m)) (sym of.number) ∙ (ap (λ (es : List Element). length (subtree_of es (el s).number)) (elements-sound k sound)
      ∙ (ap length (subtree-span el dep sound.marks s (proper k sound) (live-opened k sound s of.live) sp) ∙ (length-map (s ∷ opened sp.inner) el ∙ omega arith))) in
      ap (λ (o : Option ℕ). option_map (λ at. at + length (subtree_of (document_of k).elements n)) o) (position-sound n s of)
      ∙ ap (λ (i : ℕ). Some i) (omega (arith, size, rank, opens, ap length (opened-append sp.before (Open s ∷ sp.inner)), length-append (opened sp.before) (s ∷ opened sp.inner)))

  pub length-slots : length (slots_in k) ≡ k.len
  length-slots = ap length (slots-sound k sound) ∙ count-opened k sound

  pub slot-in-order : (place : ℕ) → k.fresh ≡ true → place < k.len → slice_get (slots_in k) place ≡ Some (get_or k.order place 0)
  slot-in-order place fresh low =
      ap (λ (xs : List ℕ). slice_get xs place) (slots-sound k sound ∙ sym (sound.tour.counted fresh).order) ∙ get-taken k.order k.len place low (omega (arith, order-long fresh))
    where
      order-long : k.fresh ≡ true → k.len ≤ length k.order
      order-long fresh = omega (arith, count-opened k sound, ap length (sound.tour.counted fresh).order, length-take k.len k.order)

  pub slot-live : (place s : ℕ) → slice_get (slots_in k) place ≡ Some s → is_live k.slots s ≡ true
  slot-live place s is = opened-live k sound s (ap (has s) (sym (slots-sound k sound)) ∙ get-there (slots_in k) place s is)

  -- there are slots enough
  pub room : length (opened sound.marks) ≤ length k.order
  room =
      omega (arith, sound.sized.order, length-le_from_distinct_below (opened sound.marks) (length k.keys) (distinct (opened sound.marks) (different-opened sound.marks sound.tour.different)) (λ q h. (sound.fit q (opened-live k sound q h)).key.within))

  low-code : (i : ℕ) → has i (map code sound.marks) ≡ true → i < length k.ranks
  low-code i h =
      elim (cases_lt i (length k.ranks)) [
        | inl low ↦ low
        | inr high ↦ absurd (false≢true (sym (leads-fresh k.next k.previous 0 (map code sound.marks) 1 i sound.tour.linked (omega (arith, sound.sized.previous, sound.sized.ranks))) ∙ h))
      ]

  -- what is kept with positions counted is sound
  pub counted-sound : AreMarksOfTree (with_positions k)
  counted-sound = record {
    marks = sound.marks;
    tour = record {
      linked = sound.tour.linked;
      many = sound.tour.many;
      nests = sound.tour.nests;
      different = sound.tour.different;
      rooted = sound.tour.rooted;
      live = sound.tour.live;
      counted = λ _. record {
        ranks = subst (λ (ms : List ℕ). AreRanks (with_ranks ms 0 k.ranks) 0 sound.marks) (sym (codes-sound k sound)) (ranks-made sound.marks 0 k.ranks sound.tour.different (λ i h. low-code i h));
        order = ap (λ (ms : List ℕ). take k.len (with_order ms 0 k.order)) (codes-sound k sound) ∙ order-made sound.marks 0 k.len k.order (omega (arith, room)) (omega (arith, count-opened k sound));
      };
    };
    sized = record {
      few = sound.sized.few;
      slots = sound.sized.slots;
      next = sound.sized.next;
      previous = sound.sized.previous;
      ranks = length-with_ranks (marks_until k.next 1 (2 * k.len) (get_or k.next 0 0)) 0 k.ranks ∙ sound.sized.ranks;
      order = length-with_order (marks_until k.next 1 (2 * k.len) (get_or k.next 0 0)) 0 k.order ∙ sound.sized.order;
      links = sound.sized.links;
      back_links = sound.sized.back_links;
    };
    fit = λ s live. (let fit = sound.fit s live in record { key = fit.key; depth = fit.depth; bounded = fit.bounded });
    different = sound.different;
    limit = sound.limit;
  }

  pub document-counted : document_of (with_positions k) ≡ document_of k
  document-counted = refl

  pub len-room : k.len ≤ length k.order
  len-room = omega (arith, room, count-opened k sound)

  pub slot-within : (s : ℕ) → is_live k.slots s ≡ true → s < length k.slots
  slot-within s live = omega (arith, (sound.fit s live).key.within, sound.sized.slots)

-- where no element is, there is no place of it
pub not-placed : (k : Kept) (n : ℕ) → is_in n (document_of k).elements ≡ false → position_of n (document_of k) ≡ None
not-placed k n none =
    let test = (λ (e : Element). eqb e.number n) in
    none-some (position test (document_of k).elements) (is_some-position test (document_of k).elements ∙ none)
  where
    none-some : (o : Option ℕ) → is_some o ≡ false → o ≡ None
    none-some None h = refl
    none-some (Some x) h = absurd (false≢true (sym h))

-- the element of a slot that has one
pub live-element : (k : Kept) (s : ℕ) → is_live k.slots s ≡ true → option_map {T = Node} (λ x. x.element) (get_or k.slots s None) ≡ Some (element_at k.slots s)
live-element k s live = by-node (get_or k.slots s None) live
  where
    by-node : (o : Option Node) → is_some o ≡ true → option_map {T = Node} (λ x. x.element) o ≡ Some (option_map_or (λ x. x.element) o no_element)
    by-node None h = absurd (false≢true h)
    by-node (Some x) h = refl

-- what was read of the order
pub read-order : (order : List ℕ) (i v : ℕ) → i < length order → v ≡ get_or order i v → get_or order i 0 ≡ v
read-order order i v low is = get_or_from_slice_get order i v 0 (slice_get_read order (length order) i v refl low is)
