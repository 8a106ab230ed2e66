-- How far a pass by levels has come.
use Rattle.std.proofs.Common.{◌≡◌, ℕ, zero, suc, ◌+◌, ◌<◌, ◌≤◌, eqb, eq-eqb, ne_eqb, refl, ap, sym, subst, ◌∙◌, arith, List, ◌∷◌, [], length, map, get_or, set, All, Bool, true, false, not, is_none, ◌||◌, Option, None, Some, ⊎_elim}
use Rattle.std.specs.Prelude.{slice_get, nat_lt, option_map, if◌then◌else◌, IfSome}
use Rattle.std.specs.Option.{option_and_then}
use Rattle.std.specs.List.{list_any, AllZip}
use Rattle.std.specs.declared.vec.Vec.{Vec}
use Rattle.std.proofs.lemmas.Bool.{cases_eq, cases_lt, eqb-false, eqb-true}
use Rattle.std.proofs.lemmas.List.{get_or-set_same, length-map, length-set}
use Rattle.std.proofs.lemmas.List.Elements.{All-head, All-tail}
use Rattle.std.proofs.lemmas.List.Folds.{list_any_at, list_any_none}
use Rattle.std.proofs.lemmas.Option.{get_or_from_slice_get, slice_get-get_or, slice_get-map, slice_get_within}
use Rattle.pass_core.specs.Work.{asked, Meaning, down_of, entry_after}
use Rattle.pass_core.specs.Plans.{differ, is_proper, planned_place}
use Rattle.pass_core.specs.Passes.{are_distinct, value_for, with_value, IsPassOutcome, IsResult}
use Rattle.pass_core.specs.Passes as passes
use Rattle.pass_core.specs.declared.plan.Place.{Place}
use Rattle.pass_core.specs.declared.step.Step.{Step}
use Rattle.pass_core.specs.declared.step.Step.TheVariants.{Updated, Kept}
use Rattle.pass_core.proofs.Indexes.{distinct_with_value, stands_at}
use Rattle.pass_core.proofs.ListsByElement.{map-with_value, value_for-with_value_other, value_for-with_value_same}
use Rattle.pass_core.proofs.Orders.{results_agree}
use Rattle.pass_core.proofs.Planned.{both_true, planned_place-element, planned_place-first, planned_place-slice_get, some_none}
use Rattle.work_split.specs.declared.seat.Seat.{Seat}
use Rattle.work_split.specs.Levels.{is_leaf_at, level_at, seat_index, AreLevels, AreSlots, IsInner, IsSeat}
use Rattle.work_split.specs.Steps.{handed, put, put_all, put_down, reached, IsStepOf, LevelDone, IsSeatWithin, Reached}
use Rattle.work_split.proofs.LevelLists.{level_at-past}
use Rattle.work_split.proofs.Putting.{put-slots}
use Rattle.work_split.proofs.Seating.{any_there, clash, parent_before, parent_is_no_leaf, parents_in}

-- ---- places by their indexes

-- places with one element are one place
index_is : (ps : List Place) (i j : ℕ) (p q : Place) → differ ps ≡ true → slice_get ps i ≡ Some p → slice_get ps j ≡ Some q → p.element ≡ q.element → i ≡ j
index_is [] i j p q differs at there same = absurd (cc)
index_is (r ∷ ps) zero zero p q differs at there same = refl
index_is (r ∷ ps) zero (suc j) p q differs at there same =
    let r_is : r ≡ p = cc in
    let parts = both_true (not (list_any (λ s. eqb s.element r.element) ps)) (differ ps) differs in
    absurd (clash (list_any (λ s. eqb s.element r.element) ps) parts.0 (any_there ps j r.element q there (sym same ∙ ap (λ (s : Place). s.element) (sym r_is))))
index_is (r ∷ ps) (suc i) zero p q differs at there same =
    let r_is : r ≡ q = cc in
    let parts = both_true (not (list_any (λ s. eqb s.element r.element) ps)) (differ ps) differs in
    absurd (clash (list_any (λ s. eqb s.element r.element) ps) parts.0 (any_there ps i r.element p at (same ∙ ap (λ (s : Place). s.element) (sym r_is))))
index_is (r ∷ ps) (suc i) (suc j) p q differs at there same =
    let parts = both_true (not (list_any (λ s. eqb s.element r.element) ps)) (differ ps) differs in
    ap suc (index_is ps i j p q parts.1 at there same)

pub record At (ps : List Place) (p : Place) : Type 0 where
  pub index : ℕ
  pub is : slice_get ps index ≡ Some p

-- the place of an element stands somewhere
index_of_planned : (ps : List Place) (e : ℕ) (p : Place) → planned_place ps e ≡ Some p → At ps p
index_of_planned [] e p is = absurd (cc)
index_of_planned (q ∷ ps) e p is = at_first (eqb q.element e) refl (index_of_planned ps e p) where
  at_first : (b : Bool) → eqb q.element e ≡ b → (planned_place ps e ≡ Some p → At ps p) → At (q ∷ ps) p
  at_first true same rest = record { index = 0; is = sym (planned_place-first q ps e true same) ∙ is }
  at_first false same rest = let there = rest (sym (planned_place-first q ps e false same) ∙ is) in record { index = suc there.index; is = there.is }

-- ---- lists that are written

set_here : {X : Type 0} (xs : List X) (i : ℕ) (x : X) → i < length xs → slice_get (set xs i x) i ≡ Some x
set_here xs i x within =
    slice_get-get_or (set xs i x) i x (let same = length-set xs i x in omega (arith, same, within)) ∙ ap Some (get_or-set_same xs i x x within)

set_elsewhere : {X : Type 0} (xs : List X) (i j : ℕ) (x : X) → (i ≡ j → ⊥) → slice_get (set xs i x) j ≡ slice_get xs j
set_elsewhere [] i j x other = refl
set_elsewhere (y ∷ xs) zero zero x other = absurd (other refl)
set_elsewhere (y ∷ xs) zero (suc j) x other = refl
set_elsewhere (y ∷ xs) (suc i) zero x other = refl
set_elsewhere (y ∷ xs) (suc i) (suc j) x other = set_elsewhere xs i j x (λ same. other (ap suc same))

-- what is handed down is written in the slot
put_down-here : {D : Type 0} (downs : List D) (slot : Option ℕ) (k : ℕ) (d : D) → slot ≡ Some k → put_down downs slot (if is_none slot then None else Some d) ≡ set downs k d
put_down-here downs None k d is = absurd (cc)
put_down-here downs (Some i) k d is = let same : i ≡ k = cc in ap (λ n. set downs n d) same

put_down-elsewhere : {D : Type 0} (downs : List D) (slot : Option ℕ) (down : Option D) (k : ℕ) → (slot ≡ Some k → ⊥) → slice_get (put_down downs slot down) k ≡ slice_get downs k
put_down-elsewhere downs None down k other = refl
put_down-elsewhere downs (Some i) None k other = refl
put_down-elsewhere downs (Some i) (Some d) k other = set_elsewhere downs i k d (λ same. other (ap Some same))

-- ---- standings

-- the place at index i is done: its entry is that of its result, and so is what it hands down, unless it is a leaf
pub record DoneAt {E D : Type 0} (m : Meaning E D) (places : List Place) (opening : List (ℕ × E)) (slot : ℕ → ℕ) (r : Reached E D) (i : ℕ) (p : Place) : Type 0 where
  pub step : Step E D
  pub result : IsResult m places opening p step
  pub down : is_leaf_at p i ≡ false → slice_get r.downs (slot i) ≡ Some (down_of step)
  pub entry : value_for r.entries p.element ≡ option_map (entry_after step) (value_for opening p.element)

-- these places are done, and the other entries are as they were
pub record Standing {E D : Type 0} (m : Meaning E D) (places : List Place) (opening : List (ℕ × E)) (inner : ℕ) (slot : ℕ → ℕ) (done : ℕ → Bool) (r : Reached E D) : Type 0 where
  pub elements : map (λ x. x.0) r.entries ≡ map (λ x. x.0) opening
  pub distinct : are_distinct r.entries ≡ true
  pub count : length r.downs ≡ inner
  pub done_is : (i : ℕ) (p : Place) → slice_get places i ≡ Some p → done i ≡ true → DoneAt m places opening slot r i p
  pub rest : (i : ℕ) (p : Place) → slice_get places i ≡ Some p → done i ≡ false → value_for r.entries p.element ≡ value_for opening p.element
  pub others : (e : ℕ) → planned_place places e ≡ None → value_for r.entries e ≡ value_for opening e

-- the same places
same_standing : {E D : Type 0} (m : Meaning E D) (places : List Place) (opening : List (ℕ × E)) (inner : ℕ) (slot : ℕ → ℕ) (done now : ℕ → Bool) (r : Reached E D)
    → ((i : ℕ) → i < length places → done i ≡ now i) → Standing m places opening inner slot done r → Standing m places opening inner slot now r
same_standing m places opening inner slot done now r same s = record {
  elements = s.elements;
  distinct = s.distinct;
  count = s.count;
  done_is = λ i p at is. s.done_is i p at (same i (slice_get_within places i p at) ∙ is);
  rest = λ i p at is. s.rest i p at (same i (slice_get_within places i p at) ∙ is);
  others = s.others;
}

-- an entry that is read
pub record Row {E : Type 0} (entries : List (ℕ × E)) (row e : ℕ) : Type 0 where
  pub pair : ℕ × E
  pub at : slice_get entries row ≡ Some pair
  pub value : value_for entries e ≡ Some pair.1
  pub writes : (v : E) → with_value entries e v ≡ set entries row (e, v)

row_there : {E : Type 0} (entries : List (ℕ × E)) (row e : ℕ) → are_distinct entries ≡ true → slice_get (map (λ x. x.0) entries) row ≡ Some e → Row entries row e
row_there {E} entries row e distinct is = go (slice_get entries row) refl (sym (slice_get-map (λ (x : ℕ × E). x.0) entries row) ∙ is) where
  go : (o : Option (ℕ × E)) → slice_get entries row ≡ o → option_map (λ x. x.0) o ≡ Some e → Row entries row e
  go None none same = absurd (cc)
  go (Some x) at same =
      let e_is : x.0 ≡ e = cc in
      let read = get_or_from_slice_get entries row x x at in
      let there = stands_at entries row e x distinct (slice_get_within entries row x at) (ap (λ (y : ℕ × E). y.0) read ∙ e_is) in
      record { pair = x; at = at; value = there.value ∙ ap (λ (y : ℕ × E). Some y.1) read; writes = there.writes }

module _ {E D : Type 0} (m : Meaning E D) (places : List Place) (opening : List (ℕ × E)) (differs : differ places ≡ true) (inner : ℕ) (slot : ℕ → ℕ)
    (slots : AreSlots places inner slot) where
  abbrev elements_of : List ℕ
  elements_of = map (λ x. x.0) opening

  -- ---- one outcome is put

  module _ (done : ℕ → Bool) (r : Reached E D) (st : Standing m places opening inner slot done r) (s : Seat) (step : Step E D) (seat : IsSeat places elements_of slot s)
      (result : IsResult m places opening s.place step) (x : E) (opened : value_for opening s.place.element ≡ Some x) where
    row : Row r.entries s.row s.place.element
    row = row_there r.entries s.row s.place.element st.distinct (ap (λ l. slice_get l s.row) st.elements ∙ seat.row)

    abbrev entries_after : Step E D → List (ℕ × E)
    entries_after (Updated new d) = with_value r.entries s.place.element new
    entries_after (Kept d) = r.entries

    entries_are : (leaf : Bool) (t : Step E D) → (put s (asked leaf t) r).entries ≡ entries_after t
    entries_are leaf (Updated new d) = sym (row.writes new)
    entries_are leaf (Kept d) = refl

    elements_after : (t : Step E D) → map (λ y. y.0) (entries_after t) ≡ map (λ y. y.0) r.entries
    elements_after (Updated new d) = map-with_value r.entries s.place.element new
    elements_after (Kept d) = refl

    distinct_after : (t : Step E D) → are_distinct (entries_after t) ≡ are_distinct r.entries
    distinct_after (Updated new d) = distinct_with_value r.entries s.place.element new
    distinct_after (Kept d) = refl

    value_other : (t : Step E D) (n : ℕ) → (s.place.element ≡ n → ⊥) → value_for (entries_after t) n ≡ value_for r.entries n
    value_other (Updated new d) n other = value_for-with_value_other r.entries s.place.element n new other
    value_other (Kept d) n other = refl

    -- before, the entry was the opening one or that of this result
    kept_value : (d : D) (b : Bool) → done (seat_index places s) ≡ b → IsResult m places opening s.place (Kept d) → value_for r.entries s.place.element ≡ Some x
    kept_value d true is kept =
        let there = st.done_is (seat_index places s) s.place seat.place is in
        let same : there.step ≡ Kept d = results_agree there.result kept in
        there.entry ∙ ap (λ t. option_map (entry_after t) (value_for opening s.place.element)) same ∙ ap (option_map (entry_after (Kept d))) opened
    kept_value d false is kept = st.rest (seat_index places s) s.place seat.place is ∙ opened

    value_here : (t : Step E D) → IsResult m places opening s.place t → value_for (entries_after t) s.place.element ≡ option_map (entry_after t) (value_for opening s.place.element)
    value_here (Updated new d) is =
        value_for-with_value_same r.entries s.place.element new row.pair.1 row.value ∙ sym (ap (option_map (entry_after (Updated new d))) opened)
    value_here (Kept d) is = kept_value d (done (seat_index places s)) refl is ∙ sym (ap (option_map (entry_after (Kept d))) opened)

    abbrev leaf : Bool
    leaf = is_none s.slot

    downs_are : (t : Step E D) (k : ℕ) → s.slot ≡ Some k → (put s (asked leaf t) r).downs ≡ set r.downs k (down_of t)
    downs_are (Updated new d) k is = put_down-here r.downs s.slot k d is
    downs_are (Kept d) k is = put_down-here r.downs s.slot k d is

    downs_elsewhere : (t : Step E D) (k : ℕ) → (s.slot ≡ Some k → ⊥) → slice_get (put s (asked leaf t) r).downs k ≡ slice_get r.downs k
    downs_elsewhere (Updated new d) k other = put_down-elsewhere r.downs s.slot (if leaf then None else Some d) k other
    downs_elsewhere (Kept d) k other = put_down-elsewhere r.downs s.slot (if leaf then None else Some d) k other

    by_kind : (b : Bool) → is_leaf_at s.place (seat_index places s) ≡ b → s.slot ≡ (if b then None else Some (slot (seat_index places s)))
    by_kind b is = seat.slot_is ∙ ap (λ c. if c then None else Some (slot (seat_index places s))) is

    -- the slot of another inner place is another
    slot_unlike : (i : ℕ) (p : Place) → IsInner places i p → eqb (seat_index places s) i ≡ false → s.slot ≡ Some (slot i) → ⊥
    slot_unlike i p given other same = go (is_leaf_at s.place (seat_index places s)) refl where
      go : (b : Bool) → is_leaf_at s.place (seat_index places s) ≡ b → ⊥
      go true is = let e : None ≡ Some (slot i) = sym (by_kind true is) ∙ same in cc
      go false is =
          let e : Some (slot (seat_index places s)) ≡ Some (slot i) = sym (by_kind false is) ∙ same in
          let one : slot (seat_index places s) ≡ slot i = cc in
          eqb-false (seat_index places s) i other (slots.apart (seat_index places s) i s.place p (seat.place, is) given one)

    abbrev after : Reached E D
    after = put s (asked leaf step) r

    unlike : (i : ℕ) (p : Place) → slice_get places i ≡ Some p → eqb (seat_index places s) i ≡ false → s.place.element ≡ p.element → ⊥
    unlike i p at other same = eqb-false (seat_index places s) i other (index_is places (seat_index places s) i s.place p differs seat.place at same)

    done_before : (i : ℕ) (p : Place) → slice_get places i ≡ Some p → eqb (seat_index places s) i ≡ false → done i ≡ true → DoneAt m places opening slot after i p
    done_before i p at other is =
        let there = st.done_is i p at is in
        record {
          step = there.step;
          result = there.result;
          down = λ given. downs_elsewhere step (slot i) (slot_unlike i p (at, given) other) ∙ there.down given;
          entry = ap (λ l. value_for l p.element) (entries_are leaf step) ∙ value_other step p.element (unlike i p at other) ∙ there.entry;
        }

    done_now : (i : ℕ) (p : Place) → slice_get places i ≡ Some p → seat_index places s ≡ i → DoneAt m places opening slot after i p
    done_now i p at same =
        let places_same : Some s.place ≡ Some p = sym seat.place ∙ ap (slice_get places) same ∙ at in
        let p_is : s.place ≡ p = cc in
        record {
          step = step;
          result = subst (λ q. IsResult m places opening q step) p_is result;
          down = λ given.
              let here : is_leaf_at s.place (seat_index places s) ≡ false = ap (is_leaf_at s.place) same ∙ ap (λ q. is_leaf_at q i) p_is ∙ given in
              let within : slot (seat_index places s) < length r.downs = let count = st.count in let less = slots.within (seat_index places s) s.place (seat.place, here) in omega (arith, count, less) in
              ap (λ n. slice_get after.downs (slot n)) (sym same) ∙ ap (λ l. slice_get l (slot (seat_index places s))) (downs_are step (slot (seat_index places s)) (by_kind false here))
              ∙ set_here r.downs (slot (seat_index places s)) (down_of step) within;
          entry =
              ap (λ (q : Place). value_for after.entries q.element) (sym p_is) ∙ ap (λ l. value_for l s.place.element) (entries_are leaf step) ∙ value_here step result
              ∙ ap (λ (q : Place). option_map (entry_after step) (value_for opening q.element)) p_is;
        }

    by_index : (i : ℕ) (p : Place) (b : Bool) → slice_get places i ≡ Some p → eqb (seat_index places s) i ≡ b → (done i || b) ≡ true → DoneAt m places opening slot after i p
    by_index i p true at same is = done_now i p at (eqb-true (seat_index places s) i same)
    by_index i p false at other is = done_before i p at other (or_false (done i) is) where
      or_false : (b : Bool) → (b || false) ≡ true → b ≡ true
      or_false true h = refl
      or_false false h = h

    still_rest : (i : ℕ) (p : Place) (b : Bool) → slice_get places i ≡ Some p → eqb (seat_index places s) i ≡ b → (done i || b) ≡ false → value_for after.entries p.element ≡ value_for opening p.element
    still_rest i p true at same is = absurd (or_true (done i) is) where
      or_true : (b : Bool) → (b || true) ≡ false → ⊥
      or_true true h = cc
      or_true false h = cc
    still_rest i p false at other is =
        ap (λ l. value_for l p.element) (entries_are leaf step) ∙ value_other step p.element (unlike i p at other) ∙ st.rest i p at (or_false (done i) is)
      where
        or_false : (b : Bool) → (b || false) ≡ false → b ≡ false
        or_false true h = h
        or_false false h = refl

    not_planned : (n : ℕ) → planned_place places n ≡ None → s.place.element ≡ n → ⊥
    not_planned n none same =
        some_none (planned_place places n) s.place (ap (planned_place places) (sym same) ∙ planned_place-slice_get places (seat_index places s) s.place differs seat.place) none

    put_standing : Standing m places opening inner slot (λ i. done i || eqb (seat_index places s) i) after
    put_standing = record {
      elements = ap (map (λ y. y.0)) (entries_are leaf step) ∙ elements_after step ∙ st.elements;
      distinct = ap are_distinct (entries_are leaf step) ∙ distinct_after step ∙ st.distinct;
      count = put-slots s (asked leaf step) r ∙ st.count;
      done_is = λ i p at is. by_index i p (eqb (seat_index places s) i) at refl is;
      rest = λ i p at is. still_rest i p (eqb (seat_index places s) i) at refl is;
      others = λ n none. ap (λ l. value_for l n) (entries_are leaf step) ∙ value_other step n (not_planned n none) ∙ st.others n none;
    }

  -- ---- the outcomes of a level are put

  -- the step is the result of the seat's place as it is asked for, and the element has an entry
  pub record Fit (s : Seat) (step : Step E (Option D)) : Type 0 where
    pub seat : IsSeat places elements_of slot s
    pub outcome : Step E D
    pub step_is : step ≡ asked (is_none s.slot) outcome
    pub result : IsResult m places opening s.place outcome
    pub entry : E
    pub opened : value_for opening s.place.element ≡ Some entry

  or_assoc : (a b c : Bool) → ((a || b) || c) ≡ (a || (b || c))
  or_assoc true b c = refl
  or_assoc false b c = refl

  or_nothing : (a : Bool) → a ≡ (a || false)
  or_nothing true = refl
  or_nothing false = refl

  puts_standing : (seats : List Seat) (steps : List (Step E (Option D))) (done : ℕ → Bool) (r : Reached E D) → AllZip Fit seats steps → Standing m places opening inner slot done r
      → Standing m places opening inner slot (λ i. done i || list_any (λ s. eqb (seat_index places s) i) seats) (put_all seats steps r)
  puts_standing [] [] done r fit st = same_standing m places opening inner slot done (λ i. done i || false) r (λ i within. or_nothing (done i)) st
  puts_standing [] (step ∷ steps) done r fit st = absurd fit
  puts_standing (s ∷ seats) [] done r fit st = absurd fit
  puts_standing (s ∷ seats) (step ∷ steps) done r fit st =
      let one : Standing m places opening inner slot (λ i. done i || eqb (seat_index places s) i) (put s step r) =
      subst (λ t. Standing m places opening inner slot (λ i. done i || eqb (seat_index places s) i) (put s t r)) (sym fit.0.step_is)
      (put_standing done r st s fit.0.outcome fit.0.seat fit.0.result fit.0.entry fit.0.opened) in
      same_standing m places opening inner slot (λ i. (done i || eqb (seat_index places s) i) || list_any (λ t. eqb (seat_index places t) i) seats) (λ i. done i || list_any (λ t. eqb (seat_index places t) i) (s ∷ seats))
      (put_all seats steps (put s step r)) (λ i within. or_assoc (done i) (eqb (seat_index places s) i) (list_any (λ t. eqb (seat_index places t) i) seats))
      (puts_standing seats steps (λ i. done i || eqb (seat_index places s) i) (put s step r) fit.1 one)

-- ---- levels

lt_true : (a b : ℕ) → a < b → nat_lt a b ≡ true
lt_true a b less = grind arith

lt_false : (a b : ℕ) → b ≤ a → nat_lt a b ≡ false
lt_false a b more = grind arith

module _ {E D A : Type 0} (m : Meaning E D) (places : List Place) (opening : List (ℕ × E)) (differs : differ places ≡ true) (inner : ℕ) (levels : List (Vec Seat A))
    (are : AreLevels places (map (λ x. x.0) opening) inner levels) where
  abbrev elements : List ℕ
  elements = map (λ x. x.0) opening

  abbrev Stands : (ℕ → Bool) → Reached E D → Type 0
  Stands = Standing m places opening inner are.slot

  abbrev Fits : Seat → Step E (Option D) → Type 0
  Fits = Fit m places opening differs inner are.slot are.slots

  -- the places of the first levels are done
  abbrev done_above : ℕ → ℕ → Bool
  done_above n i = nat_lt (are.depth i) n

  module _ (n : ℕ) (r : Reached E D) (st : Stands (done_above n) r) (proper : is_proper places ≡ true) where
    -- what is handed down to a place, from which its result comes
    record Given (s : Seat) (y : E) : Type 0 where
      down : D
      down_is : handed m.top r.downs s.above ≡ Some down
      result : IsResult m places opening s.place (m.outcome s.place.element y down)

    -- what is handed down to a place of this level
    given_to : (s : Seat) (y : E) (o : Option ℕ) → IsSeat places elements are.slot s → are.depth (seat_index places s) ≡ n → value_for opening s.place.element ≡ Some y → s.place.parent ≡ o → Given s y
    given_to s y None seat deep opened parent =
        record { down = m.top; down_is = ap (handed m.top r.downs) (seat.above_is ∙ ap (option_map are.slot) parent); result = passes.at_top s.place y parent opened }
    given_to s y (Some j) seat deep opened parent =
        let above = parent_before places (seat_index places s) j s.place (parents_in places proper) seat.place parent in
        let within = slice_get_within places (seat_index places s) s.place seat.place in
        let q = get_or places j s.place in
        let at : slice_get places j ≡ Some q = slice_get-get_or places j s.place (omega (arith, above, within)) in
        let deeper = are.below (seat_index places s) j s.place seat.place parent in
        let there = st.done_is j q at (lt_true (are.depth j) n (omega (arith, deeper, deep))) in
        record {
          down = down_of there.step;
          down_is = ap (handed m.top r.downs) (seat.above_is ∙ ap (option_map are.slot) parent) ∙ there.down (parent_is_no_leaf places (seat_index places s) j s.place q proper seat.place parent at);
          result = passes.below s.place q j y there.step parent at there.result opened;
        }

    seat_fit : (s : Seat) (step : Step E (Option D)) → IsSeat places elements are.slot s → are.depth (seat_index places s) ≡ n → IsStepOf m r s step → Fits s step
    seat_fit s step seat deep is =
        let row = row_there r.entries s.row s.place.element st.distinct (ap (λ l. slice_get l s.row) st.elements ∙ seat.row) in
        let y = row.pair.1 in
        let leaf = is_none s.slot in
        let opened : value_for opening s.place.element ≡ Some y =
        sym (st.rest (seat_index places s) s.place seat.place (lt_false (are.depth (seat_index places s)) n (omega (arith, deep)))) ∙ row.value in
        let given = given_to s y s.place.parent seat deep opened refl in
        let outcome = m.outcome s.place.element y given.down in
        let same : Some (asked leaf outcome) ≡ Some step =
        sym (ap (option_and_then (λ x. option_map (λ d. asked leaf (m.outcome s.place.element x.1 d)) (handed m.top r.downs s.above))) row.at
        ∙ ap (option_map (λ d. asked leaf (m.outcome s.place.element y d))) given.down_is) ∙ is in
        let step_is : step ≡ asked leaf outcome = cc in
        record { seat = seat; outcome = outcome; step_is = step_is; result = given.result; entry = y; opened = opened }

    level_fit : (seats : List Seat) (steps : List (Step E (Option D))) → All (λ s. IsSeat places elements are.slot s × (are.depth (seat_index places s) ≡ n)) seats → AllZip (IsStepOf m r) seats steps
        → AllZip Fits seats steps
    level_fit [] [] all zipped = tt
    level_fit [] (step ∷ steps) all zipped = absurd zipped
    level_fit (s ∷ seats) [] all zipped = absurd zipped
    level_fit (s ∷ seats) (step ∷ steps) all zipped =
        let first = All-head (λ t. IsSeat places elements are.slot t × (are.depth (seat_index places t) ≡ n)) s seats all in
        (seat_fit s step first.0 first.1 zipped.0, level_fit seats steps (All-tail (λ t. IsSeat places elements are.slot t × (are.depth (seat_index places t) ≡ n)) s seats all) zipped.1)

    -- the places of this level, too
    one_more : (i : ℕ) → i < length places → (nat_lt (are.depth i) n || list_any (λ s. eqb (seat_index places s) i) (level_at levels n)) ≡ nat_lt (are.depth i) (n + 1)
    one_more i within = ⊎_elim
        (λ above. rw (lt_true (are.depth i) n above) (sym (lt_true (are.depth i) (n + 1) (omega (arith, above)))))
        (λ rest. ⊎_elim
        (λ here.
        let any = are.each i within in
        let found : list_any (λ s. eqb (seat_index places s) i) (level_at levels n) ≡ true =
        ap (λ e. list_any (λ s. eqb (seat_index places s) i) (level_at levels e)) (sym here)
        ∙ list_any_at (λ s. eqb (seat_index places s) i) (level_at levels (are.depth i)) any.0 any.1 any.2 (eq-eqb _ i (ap (seat_index places) any.3 ∙ any.4)) in
        rw (lt_false (are.depth i) n rest, found) (sym (lt_true (are.depth i) (n + 1) (omega (arith, here)))))
        (λ other.
        let none : list_any (λ s. eqb (seat_index places s) i) (level_at levels n) ≡ false =
        list_any_none (λ s. eqb (seat_index places s) i) (level_at levels n)
        (λ k d less. ne_eqb _ i (λ same. other (ap are.depth (sym same) ∙ (are.seats n k d less).1))) in
        rw (lt_false (are.depth i) n rest, none) (sym (lt_false (are.depth i) (n + 1) (omega (arith, rest, other)))))
        (cases_eq (are.depth i) n))
        (cases_lt (are.depth i) n)

    pub level_standing : (now : Reached E D) → LevelDone m (level_at levels n) r now → Stands (done_above (n + 1)) now
    level_standing now done =
        subst (Stands (done_above (n + 1))) (sym done.now_is)
        (same_standing m places opening inner are.slot (λ i. done_above n i || list_any (λ s. eqb (seat_index places s) i) (level_at levels n)) (done_above (n + 1)) (put_all (level_at levels n) done.steps r)
        one_more (puts_standing m places opening differs inner are.slot are.slots (level_at levels n) done.steps (done_above n) r (level_fit (level_at levels n) done.steps (are.seats n) done.outcomes) st))

  -- nothing is done
  pub opening_standing : (downs : List D) → are_distinct opening ≡ true → length downs ≡ inner → Stands (done_above 0) (reached opening downs)
  opening_standing downs distinct count = record {
    elements = refl;
    distinct = distinct;
    count = count;
    done_is = λ i p at is. absurd (not_both (nat_lt (are.depth i) 0) is (lt_false (are.depth i) 0 (omega arith)));
    rest = λ i p at is. refl;
    others = λ e none. refl;
  }
    where
      not_both : (b : Bool) → b ≡ true → b ≡ false → ⊥
      not_both true a e = cc
      not_both false a e = cc

  -- everything is done
  pub whole_standing : (n : ℕ) (r : Reached E D) → length levels ≤ n → Stands (done_above n) r → IsPassOutcome m places opening r.entries
  whole_standing n r all st = record {
    elements = st.elements;
    planned = λ e p is.
        let there = index_of_planned places e p is in
        let any = are.each there.index (slice_get_within places there.index p there.is) in
        let done = st.done_is there.index p there.is (lt_true (are.depth there.index) n (below (are.depth there.index) any.0 any.2)) in
        let element = planned_place-element places e p is in (
          done.step,
          done.result,
          ap (value_for r.entries) (sym element) ∙ done.entry ∙ ap (λ k. option_map (entry_after done.step) (value_for opening k)) element,
        );
    others = st.others;
  }
    where
      below : (d k : ℕ) → k < length (level_at levels d) → d < n
      below d k less = ⊎_elim (λ within. omega (arith, within, all))
          (λ past. let none = ap length (level_at-past levels d past) in absurd (omega (arith, less, none))) (cases_lt d (length levels))

  -- the seats of a level lie within the entries and the slots
  pub level_within : (n : ℕ) (done : ℕ → Bool) (r : Reached E D) → is_proper places ≡ true → Stands done r
      → All (IsSeatWithin (length r.entries) (length r.downs)) (level_at levels n)
  level_within n done r proper st = λ k d less.
      let s = get_or (level_at levels n) k d in
      let seat = (are.seats n k d less).0 in
      let rows = sym (length-map r.entries (λ (x : ℕ × E). x.0)) ∙ ap length st.elements in
      let row = slice_get_within elements s.row s.place.element seat.row in
      let count = st.count in
      let within = slice_get_within places (seat_index places s) s.place seat.place in
      record {
        row = omega (arith, rows, row);
        slot = slot_within s seat (is_leaf_at s.place (seat_index places s)) refl count;
        above = subst (λ o. IfSome o (λ i. i < length r.downs)) (sym seat.above_is) (above_within s seat s.place.parent refl within count);
      }
    where
      slot_within : (s : Seat) → IsSeat places elements are.slot s → (b : Bool) → is_leaf_at s.place (seat_index places s) ≡ b → length r.downs ≡ inner → IfSome s.slot (λ i. i < length r.downs)
      slot_within s seat true is count =
          subst (λ o. IfSome o (λ i. i < length r.downs)) (sym (seat.slot_is ∙ ap (λ b. if b then None else Some (are.slot (seat_index places s))) is)) tt
      slot_within s seat false is count =
          let less = are.slots.within (seat_index places s) s.place (seat.place, is) in
          subst (λ o. IfSome o (λ i. i < length r.downs)) (sym (seat.slot_is ∙ ap (λ b. if b then None else Some (are.slot (seat_index places s))) is)) (omega (arith, less, count))

      above_within : (s : Seat) → IsSeat places elements are.slot s → (o : Option ℕ) → s.place.parent ≡ o → seat_index places s < length places → length r.downs ≡ inner
          → IfSome (option_map are.slot o) (λ i. i < length r.downs)
      above_within s seat None is within count = tt
      above_within s seat (Some j) is within count =
          let above = parent_before places (seat_index places s) j s.place (parents_in places proper) seat.place is in
          let at : slice_get places j ≡ Some (get_or places j s.place) = slice_get-get_or places j s.place (omega (arith, above, within)) in
          let less = are.slots.within j (get_or places j s.place) (at, parent_is_no_leaf places (seat_index places s) j s.place (get_or places j s.place) proper seat.place is at) in
          omega (arith, less, count)

-- so many levels are done
pub record LevelsDone {E D A : Type 0} (m : Meaning E D) (places : List Place) (opening : List (ℕ × E)) (levels : List (Vec Seat A)) (n : ℕ) (r : Reached E D) : Type 0 where
  pub inner : ℕ
  pub are : AreLevels places (map (λ x. x.0) opening) inner levels
  pub standing : Standing m places opening inner are.slot (λ i. nat_lt (are.depth i) n) r
