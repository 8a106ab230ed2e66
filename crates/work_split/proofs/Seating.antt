-- Places that have their seats.
use Rattle.std.proofs.Common.{◌≡◌, ℕ, zero, suc, ◌+◌, ◌<◌, ◌≤◌, eqb, eq-eqb, ne_eqb, refl, ap, sym, subst, ◌∙◌, arith, List, ◌∷◌, [], ◌++◌, length, length-append, get_or, All, Any, Bool, false, true, not, ◌&&◌, Option, None, Some, ◌⊎◌, inl, inr, ⊎_elim}
use Rattle.std.specs.Prelude.{slice_get, nat_lt, option_map, if◌then◌else◌, IfSome}
use Rattle.std.specs.Option.{option_map_or}
use Rattle.std.specs.List.{list_any}
use Rattle.std.specs.declared.vec.Vec.{Vec}
use Rattle.std.proofs.lemmas.Bool.{cases_eq}
use Rattle.std.proofs.Math.ListN.{get_or-append}
use Rattle.std.proofs.lemmas.List.Elements.{All-push, All-weaker}
use Rattle.std.proofs.lemmas.List.Folds.{list_any_at}
use Rattle.std.proofs.lemmas.List.Quantifiers.{Any-push}
use Rattle.std.proofs.lemmas.Option.{get_or_from_slice_get, slice_get-get_or, slice_get_within}
use Rattle.pass_core.specs.Plans.{differ, is_proper, parents_stand_before, subtrees_end}
use Rattle.pass_core.specs.declared.plan.Place.{Place}
use Rattle.pass_core.proofs.Leaves.{children_before_end}
use Rattle.pass_core.proofs.Planned.{both_true}
use Rattle.work_split.specs.declared.seat.Seat.{Seat}
use Rattle.work_split.specs.Levels.{is_leaf_at, level_at, place_index, seat_index, AreLevels, IsSeat}
use Rattle.work_split.proofs.Slots.{all_slotted, get_or-last, Slotted}

-- ---- places by their indexes

pub clash : (b : Bool) → not b ≡ true → b ≡ true → ⊥
clash true a e = cc
clash false a e = cc

pub any_there : (ps : List Place) (j e : ℕ) (q : Place) → slice_get ps j ≡ Some q → q.element ≡ e → list_any (λ r. eqb r.element e) ps ≡ true
any_there ps j e q at is =
    list_any_at (λ r. eqb r.element e) ps j q (slice_get_within ps j q at) (eq-eqb _ e (ap (λ (r : Place). r.element) (get_or_from_slice_get ps j q q at) ∙ is))

-- a place stands at the index of its element
pub place_index-is : (ps : List Place) (i : ℕ) (p : Place) → differ ps ≡ true → slice_get ps i ≡ Some p → place_index ps p.element ≡ i
place_index-is [] i p differs at = absurd (cc)
place_index-is (q ∷ ps) zero p differs at =
    let q_is : q ≡ p = cc in
    ap (λ b. if b then 0 else place_index ps p.element + 1) (eq-eqb q.element p.element (ap (λ (r : Place). r.element) q_is))
place_index-is (q ∷ ps) (suc i) p differs at =
    let parts = both_true (not (list_any (λ r. eqb r.element q.element) ps)) (differ ps) differs in
    let other : eqb q.element p.element ≡ false =
    ne_eqb q.element p.element (λ same. clash (list_any (λ r. eqb r.element q.element) ps) parts.0 (any_there ps i q.element p at (sym same))) in
    let first = ap (λ b. if b then 0 else place_index ps p.element + 1) other in
    let rest = place_index-is ps i p parts.1 at in
    let more : place_index ps p.element + 1 ≡ suc i = omega (arith, rest) in
    first ∙ more

-- ---- parents

pub parents_in : (places : List Place) → is_proper places ≡ true → parents_stand_before 0 places ≡ true
parents_in places proper = (both_true (parents_stand_before 0 places) (subtrees_end places 0 places) (both_true (differ places) (parents_stand_before 0 places && subtrees_end places 0 places) proper).1).0

parent_before_by : (places : List Place) (n i m : ℕ) (d : Place) → m ≡ n + i → parents_stand_before n places ≡ true → i < length places → IfSome (get_or places i d).parent (λ j. j < m)
parent_before_by [] n i m d is before within = absurd (omega (arith, within))
parent_before_by (p ∷ ps) n zero m d is before within = go p.parent (both_true (option_map_or (λ j. nat_lt j n) p.parent true) (parents_stand_before (n + 1) ps) before).0 where
  go : (o : Option ℕ) → option_map_or (λ j. nat_lt j n) o true ≡ true → IfSome o (λ j. j < m)
  go None less = tt
  go (Some j) less = grind arith
parent_before_by (p ∷ ps) n (suc i) m d is before within =
    parent_before_by ps (n + 1) i m d (omega (arith, is)) (both_true (option_map_or (λ j. nat_lt j n) p.parent true) (parents_stand_before (n + 1) ps) before).1 (omega (arith, within))

-- a parent stands before its children
pub parent_before : (places : List Place) (i j : ℕ) (p : Place) → parents_stand_before 0 places ≡ true → slice_get places i ≡ Some p → p.parent ≡ Some j → j < i
parent_before places i j p before at parent =
    subst (λ o. IfSome o (λ k. k < i)) (ap (λ (q : Place). q.parent) (get_or_from_slice_get places i p p at) ∙ parent)
    (parent_before_by places 0 i i p (omega arith) before (slice_get_within places i p at))

-- no place has a leaf for its parent
pub parent_is_no_leaf : (places : List Place) (i j : ℕ) (p q : Place) → is_proper places ≡ true → slice_get places i ≡ Some p → p.parent ≡ Some j → slice_get places j ≡ Some q
    → is_leaf_at q j ≡ false
parent_is_no_leaf places i j p q proper at parent there =
    let above = parent_before places i j p (parents_in places proper) at parent in
    let child : (get_or places i p).parent ≡ Some j = ap (λ (r : Place). r.parent) (get_or_from_slice_get places i p p at) ∙ parent in
    let within = children_before_end places j i p proper above (slice_get_within places i p at) child in
    let end_is = ap (λ (r : Place). r.end) (get_or_from_slice_get places j q p there) in
    ne_eqb q.end (j + 1) (λ same. omega (arith, above, within, end_is, same))

Any-append_left : {X : Type 0} (P : X → Type 0) (xs ys : List X) → Any P xs → Any P (xs ++ ys)
Any-append_left P xs ys h =
    let longer = length-append xs ys in
    let within = h.2 in
    (h.0, h.1, omega (arith, longer, within), get_or-append xs ys h.1 h.0 h.2 ∙ h.3, h.4)

-- ---- the first places

-- the first places have their seats, and these are the depths and the slots
pub record Seated {A : Type 0} (places : List Place) (elements : List ℕ) (levels : List (Vec Seat A)) (depths slots : List ℕ) (at : ℕ) : Type 0 where
  pub count : length depths ≡ at
  pub seats : (e : ℕ) → All (λ s. IsSeat places elements (λ i. get_or slots i 0) s × (seat_index places s < at) × (get_or depths (seat_index places s) 0 ≡ e)) (level_at levels e)
  pub each : (i : ℕ) → i < at → Any (λ s. seat_index places s ≡ i) (level_at levels (get_or depths i 0))
  pub below : (i j : ℕ) (p : Place) → i < at → slice_get places i ≡ Some p → p.parent ≡ Some j → get_or depths j 0 < get_or depths i 0
  pub within : (i : ℕ) → i < at → get_or depths i 0 < length levels
  pub small : (i : ℕ) → i < at → get_or depths i 0 ≤ i

pub nothing_seated : {A : Type 0} (places : List Place) (elements : List ℕ) → Seated {A = A} places elements [] [] [] 0
nothing_seated places elements = record {
  count = refl;
  seats = λ e k d less. absurd (omega (arith, less));
  each = λ i less. absurd (omega (arith, less));
  below = λ i j p less. absurd (omega (arith, less));
  within = λ i less. absurd (omega (arith, less));
  small = λ i less. absurd (omega (arith, less));
}

module _ {A : Type 0} (places : List Place) (elements : List ℕ) (levels : List (Vec Seat A)) (depths slots : List ℕ) (at : ℕ) (d : Place)
    (seated : Seated places elements levels depths slots at) (before : parents_stand_before 0 places ≡ true) (room : at < length places) where
  abbrev place : Place
  place = get_or places at d

  place_is : slice_get places at ≡ Some place
  place_is = slice_get-get_or places at d room

  pub parent_known : IfSome place.parent (λ j. j < length depths)
  parent_known = go place.parent refl where
    go : (o : Option ℕ) → place.parent ≡ o → IfSome o (λ j. j < length depths)
    go None is = tt
    go (Some j) is = let less = parent_before places at j place before place_is is in let count = seated.count in omega (arith, less, count)

  -- the place that comes next stands at the index of its element
  pub index_now : differ places ≡ true → place_index places place.element ≡ at
  index_now differs = place_index-is places at place differs place_is

  -- the seat of the place that comes next
  pub seat_made : (slots' : List ℕ) (row inner : ℕ) (slot above : Option ℕ) → place_index places place.element ≡ at → slice_get elements row ≡ Some place.element
      → slot ≡ (if is_leaf_at place at then None else Some inner) → above ≡ option_map (λ i. get_or slots i 0) place.parent → get_or slots' at 0 ≡ inner
      → ((i : ℕ) → i < at → get_or slots' i 0 ≡ get_or slots i 0)
      → IsSeat places elements (λ i. get_or slots' i 0) (record { place = place; row = row; slot = slot; above = above })
  seat_made slots' row inner slot above index row_is slot_is above_is now kept = record {
    place = ap (slice_get places) index ∙ place_is;
    row = row_is;
    slot_is =
        slot_is ∙ ap (λ n. if is_leaf_at place at then None else Some n) (sym now)
        ∙ ap (λ k. if is_leaf_at place k then None else Some (get_or slots' k 0)) (sym index);
    above_is = above_is ∙ above_same place.parent refl;
  }
    where
      above_same : (o : Option ℕ) → place.parent ≡ o → option_map (λ i. get_or slots i 0) o ≡ option_map (λ i. get_or slots' i 0) o
      above_same None is = refl
      above_same (Some j) is = ap Some (sym (kept j (parent_before places at j place before place_is is)))

  module _ (depth : ℕ) (depth_is : depth ≡ option_map_or (λ i. get_or depths i 0 + 1) place.parent 0) where
    record Deep : Type 0 where
      room_is : depth ≤ length levels
      small_is : depth ≤ at
      parent_is : (j : ℕ) → place.parent ≡ Some j → get_or depths j 0 < depth

    deep : Deep
    deep = go place.parent refl depth_is where
      go : (o : Option ℕ) → place.parent ≡ o → depth ≡ option_map_or (λ i. get_or depths i 0 + 1) o 0 → Deep
      go None is zero_is = record {
        room_is = omega (arith, zero_is);
        small_is = omega (arith, zero_is);
        parent_is = λ j other. absurd (let e : None ≡ Some j = sym is ∙ other in cc);
      }
      go (Some k) is more =
          let less = parent_before places at k place before place_is is in
          let within = seated.within k less in
          let small = seated.small k less in
          record {
            room_is = omega (arith, more, within);
            small_is = omega (arith, more, small, less);
            parent_is = λ j other.
                let e : Some k ≡ Some j = sym is ∙ other in
                let same : k ≡ j = cc in
                subst (λ i. get_or depths i 0 < depth) same (omega (arith, more));
          }

    pub room_for : depth ≤ length levels
    room_for = deep.room_is

    module _ (seat : Seat) (levels' : List (Vec Seat A)) (depths' slots' : List ℕ) (at_is : seat_index places seat ≡ at)
        (seat_is : IsSeat places elements (λ i. get_or slots' i 0) seat) (here : level_at levels' depth ≡ level_at levels depth ++ seat ∷ [])
        (others : (e : ℕ) → (e ≡ depth → ⊥) → level_at levels' e ≡ level_at levels e) (count' : (depth < length levels') × (length levels ≤ length levels'))
        (depths_is : depths' ≡ depths ++ depth ∷ []) (slots_kept : (i : ℕ) → i < at → get_or slots' i 0 ≡ get_or slots i 0) where
      earlier : (i : ℕ) → i < at → get_or depths' i 0 ≡ get_or depths i 0
      earlier i less = let count = seated.count in ap (λ l. get_or l i 0) depths_is ∙ get_or-append depths (depth ∷ []) 0 i (omega (arith, less, count))

      last : get_or depths' at 0 ≡ depth
      last = ap (λ l. get_or l at 0) depths_is ∙ ap (λ n. get_or (depths ++ depth ∷ []) n 0) (sym seated.count) ∙ get_or-last depths depth

      -- a seat of a place that came before
      seat_kept : (s : Seat) → seat_index places s < at → IsSeat places elements (λ i. get_or slots i 0) s → IsSeat places elements (λ i. get_or slots' i 0) s
      seat_kept s less old = record {
        place = old.place;
        row = old.row;
        slot_is = old.slot_is ∙ ap (λ n. if is_leaf_at s.place (seat_index places s) then None else Some n) (sym (slots_kept (seat_index places s) less));
        above_is = old.above_is ∙ above_same s.place.parent refl;
      }
        where
          above_same : (o : Option ℕ) → s.place.parent ≡ o → option_map (λ i. get_or slots i 0) o ≡ option_map (λ i. get_or slots' i 0) o
          above_same None is = refl
          above_same (Some j) is = let above = parent_before places (seat_index places s) j s.place before old.place is in ap Some (sym (slots_kept j (omega (arith, above, less))))

      abbrev IsIn : ℕ → Seat → Type 0
      IsIn e s = IsSeat places elements (λ i. get_or slots' i 0) s × (seat_index places s < at + 1) × (get_or depths' (seat_index places s) 0 ≡ e)

      still : (e : ℕ) → All (IsIn e) (level_at levels e)
      still e = All-weaker (λ s. IsSeat places elements (λ i. get_or slots i 0) s × (seat_index places s < at) × (get_or depths (seat_index places s) 0 ≡ e)) (IsIn e)
          (λ s h. let less = h.1 in (seat_kept s h.1 h.0, omega (arith, less), earlier (seat_index places s) h.1 ∙ h.2)) (level_at levels e) (seated.seats e)

      seats' : (e : ℕ) → All (IsIn e) (level_at levels' e)
      seats' e = ⊎_elim
          (λ same. subst (All (IsIn e)) (sym (ap (level_at levels') same ∙ here))
          (All-push (IsIn e) (level_at levels depth) seat (subst (λ n. All (IsIn e) (level_at levels n)) same (still e))
          (seat_is, omega (arith, at_is), ap (λ n. get_or depths' n 0) at_is ∙ last ∙ sym same)))
          (λ other. subst (All (IsIn e)) (sym (others e other)) (still e)) (cases_eq e depth)

      kept : (P : Seat → Type 0) (e : ℕ) → Any P (level_at levels e) → Any P (level_at levels' e)
      kept P e h = ⊎_elim
          (λ same. subst (Any P) (sym (ap (level_at levels') same ∙ here)) (Any-append_left P (level_at levels depth) (seat ∷ []) (subst (λ n. Any P (level_at levels n)) same h)))
          (λ other. subst (Any P) (sym (others e other)) h) (cases_eq e depth)

      -- the place is one of the first, or the last
      which : (i : ℕ) → i < at + 1 → (i < at) ⊎ (i ≡ at)
      which i less = ⊎_elim (λ e. inr e) (λ ne. inl (omega (arith, less, ne))) (cases_eq i at)

      pub next_seated : Seated places elements levels' depths' slots' (at + 1)
      next_seated = record {
        count = let count = seated.count in ap length depths_is ∙ length-append depths (depth ∷ []) ∙ omega (arith, count);
        seats = seats';
        each = λ i less. ⊎_elim
            (λ first. subst (λ e. Any (λ s. seat_index places s ≡ i) (level_at levels' e)) (sym (earlier i first)) (kept (λ s. seat_index places s ≡ i) (get_or depths i 0) (seated.each i first)))
            (λ is. subst (λ l. Any (λ s. seat_index places s ≡ i) l) (sym (ap (λ n. level_at levels' (get_or depths' n 0)) is ∙ ap (level_at levels') last ∙ here))
            (Any-push (λ s. seat_index places s ≡ i) (level_at levels depth) seat (at_is ∙ sym is))) (which i less);
        below = λ i j p less at_is parent. ⊎_elim
            (λ first.
            let above = parent_before places i j p before at_is parent in
            let old = seated.below i j p first at_is parent in
            let mine = earlier i first in
            let yours = earlier j (omega (arith, above, first)) in
            omega (arith, old, mine, yours))
            (λ is.
            let above = parent_before places i j p before at_is parent in
            let same : Some p ≡ Some place = sym at_is ∙ ap (slice_get places) is ∙ place_is in
            let p_is : p ≡ place = cc in
            let old = deep.parent_is j (ap (λ (q : Place). q.parent) (sym p_is) ∙ parent) in
            let mine = ap (λ n. get_or depths' n 0) is ∙ last in
            let yours = earlier j (omega (arith, above, is)) in
            omega (arith, old, mine, yours)) (which i less);
        within = λ i less. ⊎_elim
            (λ first. let old = seated.within i first in let mine = earlier i first in let more = count'.1 in omega (arith, old, mine, more))
            (λ is. let mine = ap (λ n. get_or depths' n 0) is ∙ last in let new = count'.0 in omega (arith, mine, new)) (which i less);
        small = λ i less. ⊎_elim (λ first. let old = seated.small i first in let mine = earlier i first in omega (arith, old, mine))
            (λ is. let mine = ap (λ n. get_or depths' n 0) is ∙ last in let new = deep.small_is in omega (arith, mine, new, is)) (which i less);
      }

-- ---- all places

pub all_seated : {A : Type 0} (places : List Place) (elements : List ℕ) (levels : List (Vec Seat A)) (depths slots : List ℕ) (inner at : ℕ) → Seated places elements levels depths slots at
    → Slotted places slots inner at → length places ≤ at → AreLevels places elements inner levels
all_seated places elements levels depths slots inner at seated slotted all = record {
  depth = λ i. get_or depths i 0;
  slot = λ i. get_or slots i 0;
  slots = all_slotted places slots inner at slotted all;
  seats = λ e. All-weaker (λ s. IsSeat places elements (λ i. get_or slots i 0) s × (seat_index places s < at) × (get_or depths (seat_index places s) 0 ≡ e))
      (λ s. IsSeat places elements (λ i. get_or slots i 0) s × (get_or depths (seat_index places s) 0 ≡ e))
      (λ s h. (h.0, h.2)) (level_at levels e) (seated.seats e);
  each = λ i less. seated.each i (omega (arith, less, all));
  below = λ i j p is parent. let less = slice_get_within places i p is in seated.below i j p (omega (arith, less, all)) is parent;
}
