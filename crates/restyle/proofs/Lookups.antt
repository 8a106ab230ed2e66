-- Entries found by the index of their numbers.
use Rattle.std.proofs.Common.{◌≡◌, ◌≢◌, ℕ, zero, suc, ◌<◌, ◌≤◌, refl, ap, sym, ◌∙◌, inl, inr, arith, eqb, Bool, true, false, Option, Some, None, List, [], ◌∷◌, get_or, length, map}
use Rattle.std.specs.Prelude.{if◌then◌else◌, nat_eq, nat_lt, option_map, slice_get}
use Rattle.std.specs.List.{position, position_or_len, slice_set}
use Rattle.std.specs.Option.{option_and_then}
use Rattle.std.proofs.lemmas.Bool.{cases_Bool, cases_lt, eq-eqb, eqb-true, false≢true, lt-ltb, ne_eqb}
use Rattle.std.proofs.lemmas.List.{length-map}
use Rattle.std.proofs.lemmas.Bool.Decides.{nat_tests}
use Rattle.std.proofs.lemmas.Option.{slice_get_past}
use Rattle.pass_core.specs.Passes.{value_for}
use Rattle.style_data.specs.Entries.{EntryParts}
use Rattle.restyle.specs.Entries.{IsAligned, LeavesOthers, entry_left}
use Rattle.restyle.specs.declared.entries.Taken.{Taken}

-- the index of a number in a list, or its length
abbrev pub index_in : List ℕ → ℕ → ℕ
index_in ns n = position_or_len (nat_eq n) ns

pub same_way : (m n : ℕ) → eqb m n ≡ eqb n m
same_way m n =
    elim (cases_Bool (eqb m n)) [
      | inl same ↦ same ∙ sym (eq-eqb n m (sym (eqb-true m n same)))
      | inr differ ↦ differ ∙ sym (ne_eqb n m (λ (is : n ≡ m). false≢true (sym differ ∙ eq-eqb m n (sym is))))
    ]

index_next : (m n : ℕ) (ns : List ℕ) → eqb m n ≡ false → index_in (m ∷ ns) n ≡ suc (index_in ns n)
index_next m n ns differ = rw (sym (same_way m n) ∙ differ) (omega arith)

pub value_by_index : {X : Type 0} (entries : List (ℕ × X)) (n : ℕ) → value_for entries n ≡ option_map (λ x. x.1) (slice_get entries (index_in (map (λ x. x.0) entries) n))
value_by_index [] n = refl
value_by_index {X} (x ∷ entries) n =
    elim (cases_Bool (eqb x.0 n)) [
      | inl same ↦ rw (same, sym (same_way x.0 n) ∙ same) refl
      | inr differ ↦
          let tail : value_for (x ∷ entries) n ≡ value_for entries n = rw differ refl in
          tail ∙ value_by_index entries n
          ∙ ap (λ k. option_map (λ (e : ℕ × X). e.1) (slice_get (x ∷ entries) k)) (sym (index_next x.0 n (map (λ (e : ℕ × X). e.0) entries) differ))
    ]

-- where the index is found, it is that, and within
pub found_at : (ns : List ℕ) (n i : ℕ) → position (nat_eq n) ns ≡ Some i → (index_in ns n ≡ i) × (i < length ns)
found_at ns n i is =
    elim (cases_lt (index_in ns n) (length ns)) [
      | inl within ↦
          let some : Some (index_in ns n) ≡ Some i = rw (lt-ltb (index_in ns n) (length ns) within) at is in
          let same : index_in ns n ≡ i = cc in
          (same, omega (arith, within, same))
      | inr past ↦ absurd (none (nat_lt (index_in ns n) (length ns)) (not_below (index_in ns n) (length ns) past) is)
    ]
  where
    not_below : (a b : ℕ) → b ≤ a → nat_lt a b ≡ false
    not_below a b past = grind (arith, nat_tests)

    none : (b : Bool) → b ≡ false → (if b then Some (index_in ns n) else None) ≡ Some i → ⊥
    none true e h = cc
    none false e h = cc

pub past_all : (ns : List ℕ) (n : ℕ) → position (nat_eq n) ns ≡ None → length ns ≤ index_in ns n
past_all ns n is =
    elim (cases_lt (index_in ns n) (length ns)) [
      | inl within ↦
          let some : Some (index_in ns n) ≡ None = rw (lt-ltb (index_in ns n) (length ns) within) at is in
          absurd (cc)
      | inr past ↦ past
    ]

-- what stands at the index of a number
pub found_value : {X : Type 0} (entries : List (ℕ × X)) (ns : List ℕ) (n i : ℕ) (y : ℕ × X) → ns ≡ map (λ e. e.0) entries → position (nat_eq n) ns ≡ Some i
    → slice_get entries i ≡ Some y → value_for entries n ≡ Some y.1
found_value entries ns n i y numbers is stands =
    let there = found_at ns n i is in
    value_by_index entries n ∙ ap (λ (ms : List ℕ). option_map (λ e. e.1) (slice_get entries (index_in ms n))) (sym numbers)
    ∙ ap (λ k. option_map (λ e. e.1) (slice_get entries k)) there.0 ∙ ap (option_map (λ e. e.1)) stands

pub absent_value : {X : Type 0} (entries : List (ℕ × X)) (ns : List ℕ) (n : ℕ) → ns ≡ map (λ e. e.0) entries → position (nat_eq n) ns ≡ None → value_for entries n ≡ None
absent_value entries ns n numbers none =
    let past = past_all ns n none in
    value_by_index entries n ∙ ap (λ (ms : List ℕ). option_map (λ e. e.1) (slice_get entries (index_in ms n))) (sym numbers)
    ∙ ap (option_map (λ e. e.1)) (slice_get_past entries (index_in ns n) (omega (arith, past, ap length numbers, length-map entries (λ e. e.0))))

-- ---- entries that are taken out

get_set_other : {X : Type 0} (xs : List X) (i k : ℕ) (y : X) → k ≢ i → slice_get (slice_set xs i y) k ≡ slice_get xs k
get_set_other [] i k y other = refl
get_set_other (x ∷ xs) zero zero y other = absurd (other refl)
get_set_other (x ∷ xs) zero (suc k) y other = refl
get_set_other (x ∷ xs) (suc i) zero y other = refl
get_set_other (x ∷ xs) (suc i) (suc k) y other = get_set_other xs i k y (λ (same : k ≡ i). other (ap (λ n. suc n) same))

-- the number that stands at its index
at_index : (ns : List ℕ) (n : ℕ) → index_in ns n < length ns → get_or ns (index_in ns n) 0 ≡ n
at_index [] n within = absurd (omega (arith, within))
at_index (m ∷ ns) n within =
    elim (cases_Bool (eqb m n)) [
      | inl same ↦ let first : index_in (m ∷ ns) n ≡ 0 = rw (sym (same_way m n) ∙ same) refl in ap (λ k. get_or (m ∷ ns) k 0) first ∙ eqb-true m n same
      | inr differ ↦
          let next = index_next m n ns differ in
          ap (λ k. get_or (m ∷ ns) k 0) next ∙ at_index ns n (omega (arith, next, within))
    ]

pub other_index : (ns : List ℕ) (m n : ℕ) → m ≢ n → index_in ns n < length ns → index_in ns m ≢ index_in ns n
other_index ns m n differ within same = differ (sym (at_index ns m (omega (arith, within, same))) ∙ ap (λ k. get_or ns k 0) same ∙ at_index ns n within)

module _ (taken : Taken) (n i : ℕ) (is : position (nat_eq n) taken.numbers.keys ≡ Some i) where
  pub left_there : entry_left taken n ≡ option_and_then (λ entry. entry) (slice_get taken.left.items i)
  left_there = ap (λ k. option_and_then (λ entry. entry) (slice_get taken.left.items k)) (found_at taken.numbers.keys n i is).0

pub none_left : (taken : Taken) (n : ℕ) → IsAligned taken → position (nat_eq n) taken.numbers.keys ≡ None → entry_left taken n ≡ None
none_left taken n aligned none =
    let past = past_all taken.numbers.keys n none in
    ap (option_and_then (λ entry. entry)) (slice_get_past taken.left.items (index_in taken.numbers.keys n) (omega (arith, past, aligned)))

pub others_left : (before after : Taken) (n i : ℕ) → position (nat_eq n) before.numbers.keys ≡ Some i → after.numbers.keys ≡ before.numbers.keys
    → after.left.items ≡ slice_set before.left.items i None → LeavesOthers before n after
others_left before after n i is keys items m differ =
    let there = found_at before.numbers.keys n i is in
    let other : index_in before.numbers.keys m ≢ i = λ (same : index_in before.numbers.keys m ≡ i).
    other_index before.numbers.keys m n differ (omega (arith, there.0, there.1)) (same ∙ sym there.0) in
    ap (λ (ks : List ℕ). option_and_then (λ entry. entry) (slice_get after.left.items (index_in ks m))) keys
    ∙ ap (λ (xs : List (Option EntryParts)). option_and_then (λ entry. entry) (slice_get xs (index_in before.numbers.keys m))) items
    ∙ ap (option_and_then (λ entry. entry)) (get_set_other before.left.items i (index_in before.numbers.keys m) None other)
