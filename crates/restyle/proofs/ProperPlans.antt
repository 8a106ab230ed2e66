-- The plan of a document is proper.
use Rattle.std.proofs.Common.{◌≡◌, ℕ, zero, suc, ◌+◌, ◌<◌, ◌≤◌, refl, ap, sym, ◌∙◌, subst, inl, inr, arith, eqb, Bool, true, false, not, ◌&&◌, ◌||◌, Option, Some, None, List, [], ◌∷◌, ◌++◌, length, map, filter, append_assoc, length-append}
use Rattle.std.specs.Prelude.{if◌then◌else◌, nat_lt, nat_le, slice_get, option_map, unwrap_or, IsTrue}
use Rattle.std.specs.List.{list_any, position, position_or_len}
use Rattle.std.specs.Option.{option_and_then, option_map_or}
use Rattle.std.proofs.lemmas.Bool.{cases_Bool, eq-eqb, eqb-true, ne_eqb, or_parts, or_from, or_left, or_right, and_from, lt-ltb, false≢true}
use Rattle.std.proofs.lemmas.Bool.Decides.{nat_tests}
use Rattle.std.proofs.lemmas.List.Elements.{filter-append}
use Rattle.std.proofs.lemmas.List.Folds.{list_any-append}
use Rattle.std.proofs.lemmas.Option.{slice_get-map}
use Rattle.doc_tree.specs.Element.{Document, Element, inclusive_ancestors, is_in, is_inclusive_descendant, position_of, subtree_of}
use Rattle.doc_tree.specs.Shape.{IsTree}
use Rattle.pass_core.specs.Plans.{differ, end_is_right, is_below, is_proper, parent_place, parents_stand_before, subtrees_end}
use Rattle.pass_core.specs.declared.plan.Place.{Place}
use Rattle.restyle.specs.TreePlans.{element_place, places_of}

-- what stands before an element and after it
pub record Split (es : List Element) (n : ℕ) : Type 0 where
  pub before : List Element
  pub item : Element
  pub after : List Element
  pub is : es ≡ before ++ item ∷ after
  pub number : item.number ≡ n

pub split_at : (n : ℕ) (es : List Element) → is_in n es ≡ true → Split es n
split_at n [] there = absurd (false≢true there)
split_at n (e ∷ es) there =
    elim (cases_Bool (eqb e.number n)) [
      | inl same ↦ record { before = []; item = e; after = es; is = refl; number = eqb-true e.number n same }
      | inr other ↦
          let rest = split_at n es (rw other at there) in
          record { before = e ∷ rest.before; item = rest.item; after = rest.after; is = ap (λ (xs : List Element). e ∷ xs) rest.is; number = rest.number }
    ]

le_test : (m n : ℕ) → m ≤ n → nat_le m n ≡ true
le_test m n h = grind (arith, nat_tests)

slice_get-split : (before : List Element) (e : Element) (after : List Element) → slice_get (before ++ e ∷ after) (length before) ≡ Some e
slice_get-split [] e after = refl
slice_get-split (b ∷ before) e after = slice_get-split before e after

list_any-map : {X Y : Type 0} (p : Y → Bool) (f : X → Y) (xs : List X) → list_any p (map f xs) ≡ list_any (λ x. p (f x)) xs
list_any-map p f [] = refl
list_any-map p f (x ∷ xs) = ap (λ b. p (f x) || b) (list_any-map p f xs)

-- the position of the first element that passes
first_at : {X : Type 0} (p : X → Bool) (front : List X) (item : X) (back : List X) → list_any p front ≡ false → p item ≡ true → position_or_len p (front ++ item ∷ back) ≡ length front
first_at p [] item back none passes = rw passes refl
first_at p (x ∷ front) item back none passes =
    let parts = or_parts (p x) (list_any p front) none in
    let rest = first_at p front item back parts.1 passes in
    rw parts.0 (omega arith)

pub position-split : {X : Type 0} (p : X → Bool) (front : List X) (item : X) (back : List X) → list_any p front ≡ false → p item ≡ true → position p (front ++ item ∷ back) ≡ Some (length front)
position-split p front item back none passes =
    rw (first_at p front item back none passes, lt-ltb (length front) (length (front ++ item ∷ back)) (omega (arith, length-append front (item ∷ back)))) refl

some_same : {X : Type 0} (a b : X) → Some a ≡ Some b → a ≡ b
some_same a b h = cc

-- what holds of every tree
pub record TreeLaws : Type 0 where
  pub ancestors : (d : Document) (before after : List Element) (e : Element) → IsTree d → d.elements ≡ before ++ e ∷ after
      → inclusive_ancestors d.elements e.number ≡ e ∷ option_map_or (inclusive_ancestors d.elements) e.parent []
  pub differ : (d : Document) (before after : List Element) (e : Element) → IsTree d → d.elements ≡ before ++ e ∷ after → is_in e.number (before ++ after) ≡ false
  pub parent : (d : Document) (before after : List Element) (e : Element) (p : ℕ) → IsTree d → d.elements ≡ before ++ e ∷ after → e.parent ≡ Some p
      → IsTrue (is_in p before)
  pub together : (d : Document) (before after : List Element) (e : Element) (a : ℕ) → IsTree d → d.elements ≡ before ++ e ∷ after → IsTrue (is_in a before)
      → is_inclusive_descendant d.elements a e.number ≡ false → list_any (λ later. is_inclusive_descendant d.elements a later.number) after ≡ false

module _ (d : Document) (tree : IsTree d) (laws : TreeLaws) where
  abbrev places : List Place
  places = places_of d

  module _ (before after : List Element) (e : Element) (is : d.elements ≡ before ++ e ∷ after) where
    pub absent : (is_in e.number before ≡ false) × (is_in e.number after ≡ false)
    absent = or_parts _ _ (sym (list_any-append (λ (x : Element). eqb x.number e.number) before after) ∙ laws.differ d before after e tree is)

    stands_at : position_of e.number d ≡ Some (length before)
    stands_at =
        ap (position (λ (x : Element). eqb x.number e.number)) is
        ∙ position-split (λ (x : Element). eqb x.number e.number) before e after absent.0 (eq-eqb e.number e.number refl)

    pub place_there : slice_get places (length before) ≡ Some (element_place d e)
    place_there =
        slice_get-map (element_place d) d.elements (length before)
        ∙ ap (λ (es : List Element). option_map (element_place d) (slice_get es (length before))) is ∙ ap (option_map (element_place d)) (slice_get-split before e after)

    pub next_split : d.elements ≡ (before ++ e ∷ []) ++ after
    next_split = is ∙ sym (append_assoc before (e ∷ []) after)

    length_next : length (before ++ e ∷ []) ≡ length before + 1
    length_next = length-append before (e ∷ [])

  -- where the parent of an element stands
  pub record ParentBefore (before : List Element) (p : ℕ) : Type 0 where
    pub front : List Element
    pub item : Element
    pub rest : List Element
    pub is : d.elements ≡ front ++ item ∷ rest
    pub number : item.number ≡ p
    pub less : length front < length before
    pub position : position_of p d ≡ Some (length front)

  pub parent_before : (before after : List Element) (e : Element) (p : ℕ) → d.elements ≡ before ++ e ∷ after → e.parent ≡ Some p → ParentBefore before p
  parent_before before after e p is parent =
      let s = split_at p before (laws.parent d before after e p tree is parent) in
      let whole : d.elements ≡ s.before ++ s.item ∷ (s.after ++ e ∷ after) =
      is ∙ ap (λ (xs : List Element). xs ++ e ∷ after) s.is ∙ append_assoc s.before (s.item ∷ s.after) (e ∷ after) in
      record {
        front = s.before;
        item = s.item;
        rest = s.after ++ e ∷ after;
        is = whole;
        number = s.number;
        less = omega (arith, ap (λ (xs : List Element). length xs) s.is, length-append s.before (s.item ∷ s.after));
        position = ap (λ n. position_of n d) (sym s.number) ∙ stands_at s.before (s.after ++ e ∷ after) s.item whole;
      }

  -- ---- elements differ

  differ_from : (before rest : List Element) → d.elements ≡ before ++ rest → differ (map (element_place d) rest) ≡ true
  differ_from before [] is = refl
  differ_from before (e ∷ rest) is =
      let none : list_any (λ (q : Place). eqb q.element e.number) (map (element_place d) rest) ≡ false =
      list_any-map (λ (q : Place). eqb q.element e.number) (element_place d) rest ∙ (absent before rest e is).1 in
      ap (λ b. not b && differ (map (element_place d) rest)) none ∙ differ_from (before ++ e ∷ []) rest (next_split before rest e is)

  -- ---- parents stand before

  parent_less : (before after : List Element) (e : Element) (o : Option ℕ) → d.elements ≡ before ++ e ∷ after → e.parent ≡ o
      → option_map_or (λ i. nat_lt i (length before)) (option_and_then (λ p. position_of p d) o) true ≡ true
  parent_less before after e None is parent = refl
  parent_less before after e (Some p) is parent =
      let above = parent_before before after e p is parent in
      ap (λ o. option_map_or (λ i. nat_lt i (length before)) o true) above.position ∙ lt-ltb (length above.front) (length before) above.less

  parents_from : (before rest : List Element) → d.elements ≡ before ++ rest → parents_stand_before (length before) (map (element_place d) rest) ≡ true
  parents_from before [] is = refl
  parents_from before (e ∷ rest) is =
      and_from _ _ (parent_less before rest e e.parent is refl)
      (ap (λ n. parents_stand_before n (map (element_place d) rest)) (sym (length_next before rest e is)) ∙ parents_from (before ++ e ∷ []) rest (next_split before rest e is))

  -- ---- places below a place

  module _ (above later : List Element) (a : Element) (is_a : d.elements ≡ above ++ a ∷ later) where
    abbrev below : Element → Bool
    below e = is_inclusive_descendant d.elements a.number e.number

    same_place : (before after : List Element) (e : Element) → d.elements ≡ before ++ e ∷ after → eqb (length above) (length before) ≡ eqb e.number a.number
    same_place before after e is =
        elim (cases_Bool (eqb e.number a.number)) [
          | inl same ↦
              (let at : Some (length above) ≡ Some (length before) =
              sym (stands_at above later a is_a) ∙ ap (λ n. position_of n d) (sym (eqb-true e.number a.number same)) ∙ stands_at before after e is in
              eq-eqb (length above) (length before) (some_same (length above) (length before) at) ∙ sym same)
          | inr other ↦
              (elim (cases_Bool (eqb (length above) (length before))) [
                | inl same ↦
                    (let at : Some a ≡ Some e =
                    sym (slice_get-split above a later) ∙ ap (λ (es : List Element). slice_get es (length above)) (sym is_a ∙ is)
                    ∙ ap (slice_get (before ++ e ∷ after)) (eqb-true (length above) (length before) same) ∙ slice_get-split before e after in
                    let one : a ≡ e = some_same a e at in
                    absurd (false≢true (sym other ∙ eq-eqb e.number a.number (ap (λ (x : Element). x.number) (sym one)))))
                | inr differs ↦ differs ∙ sym other
              ])
        ]

    own_or_above : (before after : List Element) (e : Element) → d.elements ≡ before ++ e ∷ after
        → below e ≡ (eqb e.number a.number || is_in a.number (option_map_or (inclusive_ancestors d.elements) e.parent []))
    own_or_above before after e is = ap (is_in a.number) (laws.ancestors d before after e tree is)

    -- with so many parents looked at, a place is below exactly where its element is an inclusive descendant
    abbrev IsRight : ℕ → Type 0
    IsRight fuel = (before after : List Element) (e : Element) → d.elements ≡ before ++ e ∷ after → length before ≤ fuel
        → is_below places fuel (length above) (length before) ≡ below e

    below_above : (fuel : ℕ) → IsRight fuel → (before after : List Element) (e : Element) (o : Option ℕ) → d.elements ≡ before ++ e ∷ after → length before ≤ suc fuel → e.parent ≡ o
        → option_map_or (is_below places fuel (length above)) (option_and_then (λ p. position_of p d) o) false ≡ is_in a.number (option_map_or (inclusive_ancestors d.elements) o [])
    below_above fuel right before after e None is short parent = refl
    below_above fuel right before after e (Some p) is short parent =
        let q = parent_before before after e p is parent in
        ap (λ o. option_map_or (is_below places fuel (length above)) o false) q.position
        ∙ right q.front q.rest q.item q.is (omega (arith, q.less, short))
        ∙ ap (λ n. is_inclusive_descendant d.elements a.number n) q.number

    below_is : (fuel : ℕ) → IsRight fuel
    below_is zero before after e is short =
        same_place before after e is ∙ sym (own_or_above before after e is ∙ ap (λ b. eqb e.number a.number || b) (no_parent e.parent refl) ∙ or_false (eqb e.number a.number))
      where
        no_parent : (o : Option ℕ) → e.parent ≡ o → is_in a.number (option_map_or (inclusive_ancestors d.elements) o []) ≡ false
        no_parent None parent = refl
        no_parent (Some p) parent = absurd (let q = parent_before before after e p is parent in omega (arith, q.less, short))

        or_false : (b : Bool) → (b || false) ≡ b
        or_false true = refl
        or_false false = refl
    below_is (suc fuel) before after e is short =
        ap (λ b. b || option_map_or (is_below places fuel (length above)) (parent_place places (length before)) false) (same_place before after e is)
        ∙ ap (λ o. eqb e.number a.number || option_map_or (is_below places fuel (length above)) o false) parent_at
        ∙ ap (λ b. eqb e.number a.number || b) (below_above fuel (below_is fuel) before after e e.parent is short refl) ∙ sym (own_or_above before after e is)
      where
        parent_at : parent_place places (length before) ≡ option_and_then (λ p. position_of p d) e.parent
        parent_at = ap (option_and_then (λ (p : Place). p.parent)) (place_there before after e is)

    -- ---- subtrees end where they should

    below_at : (before after : List Element) (e : Element) → d.elements ≡ before ++ e ∷ after → is_below places (length before) (length above) (length before) ≡ below e
    below_at before after e is = below_is (length before) before after e is (omega arith)

    -- a place that stands before isn't below, however many parents are looked at
    abbrev IsEarlier : ℕ → Type 0
    IsEarlier fuel = (before after : List Element) (e : Element) → d.elements ≡ before ++ e ∷ after → length before < length above
        → is_below places fuel (length above) (length before) ≡ false

    earlier_above : (fuel : ℕ) → IsEarlier fuel → (before after : List Element) (e : Element) (o : Option ℕ) → d.elements ≡ before ++ e ∷ after → length before < length above → e.parent ≡ o
        → option_map_or (is_below places fuel (length above)) (option_and_then (λ p. position_of p d) o) false ≡ false
    earlier_above fuel right before after e None is less parent = refl
    earlier_above fuel right before after e (Some p) is less parent =
        let q = parent_before before after e p is parent in
        ap (λ o. option_map_or (is_below places fuel (length above)) o false) q.position ∙ right q.front q.rest q.item q.is (omega (arith, q.less, less))

    earlier : (fuel : ℕ) → IsEarlier fuel
    earlier zero before after e is less = ne_eqb (length above) (length before) (λ h. omega (arith, h, less))
    earlier (suc fuel) before after e is less =
        ap (λ b. b || option_map_or (is_below places fuel (length above)) (parent_place places (length before)) false)
        (ne_eqb (length above) (length before) (λ h. omega (arith, h, less)))
        ∙ ap (λ o. option_map_or (is_below places fuel (length above)) o false) (ap (option_and_then (λ (p : Place). p.parent)) (place_there before after e is))
        ∙ earlier_above fuel (earlier fuel) before after e e.parent is less refl

    -- an element that stands before isn't below
    none_before : (before after : List Element) (e : Element) (more : List Element) → d.elements ≡ before ++ e ∷ after → above ≡ before ++ e ∷ more → below e ≡ false
    none_before before after e more is standing = sym (below_at before after e is) ∙ earlier (length before) before after e is short
      where
        short : length before < length above
        short = omega (arith, ap (λ (xs : List Element). length xs) standing, length-append before (e ∷ more))

    none_above : (front rest : List Element) → above ≡ front ++ rest → filter below rest ≡ []
    none_above front [] standing = refl
    none_above front (e ∷ rest) standing =
        let whole : d.elements ≡ front ++ e ∷ (rest ++ a ∷ later) = is_a ∙ ap (λ (xs : List Element). xs ++ a ∷ later) standing ∙ append_assoc front (e ∷ rest) (a ∷ later) in
        let out = none_before front (rest ++ a ∷ later) e rest whole standing in
        rw out (none_above (front ++ e ∷ []) rest (standing ∙ sym (append_assoc front (e ∷ []) rest)))

    abbrev size : ℕ
    size = length (subtree_of d.elements a.number)

    size_is : size ≡ length (filter below (a ∷ later))
    size_is =
        ap (λ (es : List Element). length (filter below es)) is_a
        ∙ ap length (filter-append below above (a ∷ later)) ∙ ap (λ (xs : List Element). length (xs ++ filter below (a ∷ later))) (none_above [] above refl)

    itself : below a ≡ true
    itself = own_or_above above later a is_a ∙ ap (λ b. b || is_in a.number (option_map_or (inclusive_ancestors d.elements) a.parent [])) (eq-eqb a.number a.number refl)

    -- once the subtree has ended, no later place is below
    out_from : (before rest : List Element) (end : ℕ) → d.elements ≡ before ++ rest → list_any below rest ≡ false → end ≤ length before
        → end_is_right places (length above) end (length before) (map (element_place d) rest) ≡ true
    out_from before [] end is none past = le_test end (length before) past
    out_from before (e ∷ rest) end is none past =
        let parts = or_parts (below e) (list_any below rest) none in
        step (is_below places (length before) (length above) (length before)) (below_at before rest e is ∙ parts.0)
        (ap (λ n. end_is_right places (length above) end n (map (element_place d) rest)) (sym (length_next before rest e is))
        ∙ out_from (before ++ e ∷ []) rest end (next_split before rest e is) parts.1 (omega (arith, length_next before rest e is, past)))
      where
        step : (b : Bool) → b ≡ false → end_is_right places (length above) end (length before + 1) (map (element_place d) rest) ≡ true
            → ((if b then nat_lt (length before) end else nat_le end (length before)) && end_is_right places (length above) end (length before + 1) (map (element_place d) rest)) ≡ true
        step b out rest_right = rw out (and_from _ _ (le_test end (length before) past) rest_right)

    -- up to there each is, and as many are left as there are below
    in_from : (inside rest : List Element) → d.elements ≡ above ++ ((a ∷ inside) ++ rest)
        → end_is_right places (length above) (length (above ++ a ∷ inside) + length (filter below rest)) (length (above ++ a ∷ inside)) (map (element_place d) rest) ≡ true
    in_from inside [] is = le_test (length (above ++ a ∷ inside) + 0) (length (above ++ a ∷ inside)) (omega arith)
    in_from inside (e ∷ rest) is = step (below e) refl (in_from (inside ++ e ∷ []) rest)
      where
        before : List Element
        before = above ++ a ∷ inside

        whole : d.elements ≡ before ++ e ∷ rest
        whole = is ∙ sym (append_assoc above (a ∷ inside) (e ∷ rest))

        there : is_in a.number before ≡ true
        there = list_any-append (λ (x : Element). eqb x.number a.number) above (a ∷ inside) ∙ or_right _ _ (or_left _ _ (eq-eqb a.number a.number refl))

        test : Bool
        test = is_below places (length before) (length above) (length before)

        none_left : (xs : List Element) → list_any below xs ≡ false → filter below xs ≡ []
        none_left [] none = refl
        none_left (x ∷ xs) none = let parts = or_parts (below x) (list_any below xs) none in rw parts.0 (none_left xs parts.1)

        ends_alike : (j k end last : ℕ) → j ≡ k → end ≡ last → end_is_right places (length above) last k (map (element_place d) rest) ≡ true
            → end_is_right places (length above) end j (map (element_place d) rest) ≡ true
        ends_alike j k end last same ends right = subst (λ n. end_is_right places (length above) n j (map (element_place d) rest) ≡ true) (sym ends) (subst (λ n. end_is_right places (length above) last n (map (element_place d) rest) ≡ true) (sym same) right)

        inside_step : (b : Bool) → b ≡ true → (end : ℕ) → length before < end → end_is_right places (length above) end (length before + 1) (map (element_place d) rest) ≡ true
            → ((if b then nat_lt (length before) end else nat_le end (length before)) && end_is_right places (length above) end (length before + 1) (map (element_place d) rest)) ≡ true
        inside_step b is_b end less rest_right = rw is_b (and_from _ _ (lt-ltb (length before) end less) rest_right)

        step : (b : Bool) → below e ≡ b
            → (d.elements ≡ above ++ ((a ∷ (inside ++ e ∷ [])) ++ rest)
            → end_is_right places (length above) (length (above ++ a ∷ (inside ++ e ∷ [])) + length (filter below rest)) (length (above ++ a ∷ (inside ++ e ∷ []))) (map (element_place d) rest) ≡ true)
            → end_is_right places (length above) (length before + length (filter below (e ∷ rest))) (length before) (map (element_place d) (e ∷ rest)) ≡ true
        step true within more =
            let left : length (filter below (e ∷ rest)) ≡ suc (length (filter below rest)) = rw within refl in
            let longer : above ++ a ∷ (inside ++ e ∷ []) ≡ before ++ e ∷ [] = sym (append_assoc above (a ∷ inside) (e ∷ [])) in
            let next : end_is_right places (length above) (length (before ++ e ∷ []) + length (filter below rest)) (length (before ++ e ∷ [])) (map (element_place d) rest) ≡ true =
            subst (λ (xs : List Element). end_is_right places (length above) (length xs + length (filter below rest)) (length xs) (map (element_place d) rest) ≡ true) longer
            (more (whole ∙ sym (append_assoc before (e ∷ []) rest) ∙ ap (λ (xs : List Element). xs ++ rest) (sym longer) ∙ append_assoc above (a ∷ (inside ++ e ∷ [])) rest)) in
            inside_step test (below_at before rest e whole ∙ within) (length before + length (filter below (e ∷ rest)))
            (omega (arith, left))
            (ends_alike (length before + 1) (length (before ++ e ∷ [])) _ _ (sym (length_next before rest e whole)) (omega (arith, left, length_next before rest e whole)) next)
        step false out more =
            let none = laws.together d before rest e a.number tree whole there out in
            let nothing : filter below (e ∷ rest) ≡ [] = rw out (none_left rest none) in
            subst (λ (xs : List Element). end_is_right places (length above) (length before + length xs) (length before) (map (element_place d) (e ∷ rest)) ≡ true) (sym nothing)
            (out_from before (e ∷ rest) (length before + 0) whole (or_from _ _ out none) (omega arith))

    end_is : (element_place d a).end ≡ length above + size
    end_is = ap (λ o. unwrap_or (option_map (λ at. at + size) o) 0) (stands_at above later a is_a)

    own_right : end_is_right places (length above) (element_place d a).end (length above) (map (element_place d) (a ∷ later)) ≡ true
    own_right =
        let counted : size ≡ suc (length (filter below later)) = size_is ∙ (rw itself refl) in
        let next = in_from [] later is_a in
        first (is_below places (length above) (length above) (length above)) (below_at above later a is_a ∙ itself) (element_place d a).end
        (omega (arith, end_is, counted))
        (subst (λ n. end_is_right places (length above) n (length above + 1) (map (element_place d) later) ≡ true)
        (let e : length (above ++ a ∷ []) + length (filter below later) ≡ (element_place d a).end = omega (arith, end_is, counted, length-append above (a ∷ [])) in e)
        (subst (λ n. end_is_right places (length above) (length (above ++ a ∷ []) + length (filter below later)) n (map (element_place d) later) ≡ true) (length-append above (a ∷ [])) next))
      where
        first : (b : Bool) → b ≡ true → (end : ℕ) → length above < end → end_is_right places (length above) end (length above + 1) (map (element_place d) later) ≡ true
            → ((if b then nat_lt (length above) end else nat_le end (length above)) && end_is_right places (length above) end (length above + 1) (map (element_place d) later)) ≡ true
        first b is_b end less rest_right = rw is_b (and_from _ _ (lt-ltb (length above) end less) rest_right)

  subtrees_from : (before rest : List Element) → d.elements ≡ before ++ rest → subtrees_end places (length before) (map (element_place d) rest) ≡ true
  subtrees_from before [] is = refl
  subtrees_from before (e ∷ rest) is =
      and_from _ _ (own_right before rest e is)
      (ap (λ n. subtrees_end places n (map (element_place d) rest)) (sym (length_next before rest e is)) ∙ subtrees_from (before ++ e ∷ []) rest (next_split before rest e is))

-- the plan of a tree is proper
pub whole_is_proper : (d : Document) → IsTree d → TreeLaws → is_proper (places_of d) ≡ true
whole_is_proper d tree laws =
    and_from _ _ (differ_from d tree laws [] d.elements refl)
    (and_from _ _ (parents_from d tree laws [] d.elements refl) (subtrees_from d tree laws [] d.elements refl))
