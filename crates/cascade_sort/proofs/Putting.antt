-- A winner that is put stands in its slot, and changes no other.
use Rattle.std.proofs.Common.{◌≡◌, ◌≢◌, inl, inr, ℕ, ◌+◌, ◌<◌, Bool, true, false, length, refl, ap, sym, ◌∙◌, subst, arith, get_or-set_same, get_or-set_other, length-set}
use Rattle.std.specs.Prelude.{Option, Some}
use Rattle.std.proofs.lemmas.Bool.{cases_eq}
use Rattle.computed_style.specs.Winners.{Declarations, ListWinners, list_winner_of, list_winners_of, no_list_winners, no_winners, place_of, winners_of, with_declaration, with_list_declaration, with_list_winner, with_winner}
use Rattle.computed_style.specs.declared.winners.Winners.{Winners}
use Rattle.computed_style.proofs.Tables.{number_small, place_small, same_list, same_property}
use Rattle.shorthand_text.specs.declared.longhand.Longhand.{Longhand}
use Rattle.shorthand_text.specs.declared.longhand.Longhand.TheVariants as given
use Rattle.value_types.specs.Properties.{number_of}
use Rattle.value_types.specs.declared.declared.Declared.{Declared}
use Rattle.value_types.specs.declared.list_value.ListName.{ListName}
use Rattle.value_types.specs.declared.list_value.ListValue.{ListValue}
use Rattle.value_types.specs.declared.property.PropertyId.{PropertyId}
use Rattle.cascade_sort.specs.Finding.{with_longhand}
use Rattle.cascade_sort.specs.Winning.{given_list, given_property, longhand_number, slot, winner_of}

-- ---- slots

pub slot_same : (b c : Bool) (m n : ℕ) → m < 36 → n < 36 → slot b m ≡ slot c n → (b ≡ c) × (m ≡ n)
slot_same true true m n small other is = (refl, omega (arith, is))
slot_same true false m n small other is = absurd (omega (arith, is, other))
slot_same false true m n small other is = absurd (omega (arith, is, small))
slot_same false false m n small other is = (refl, is)

pub slot_small : (b : Bool) (n : ℕ) → n < 36 → slot b n < 72
slot_small true n small = omega (arith, small)
slot_small false n small = omega (arith, small)

pub longhand_small : (l : Longhand) → longhand_number l < 36
longhand_small (given.Property p d) = omega (arith, number_small p)
longhand_small (given.List name v) = omega (arith, place_small name)

-- ---- tables of whole length

pub record IsWhole (d : Declarations) : Type 0 where
  pub count : length d.properties ≡ 24
  pub list_count : length d.lists ≡ 12

pub with_longhand-whole : (d : Declarations) (important : Bool) (l : Longhand) → IsWhole d → IsWhole (with_longhand d important l)
with_longhand-whole d important (given.Property p v) whole = record {
  count = length-set d.properties (number_of p) (with_winner (winners_of d p) important v) ∙ whole.count;
  list_count = whole.list_count;
}
with_longhand-whole d important (given.List name v) whole = record {
  count = whole.count;
  list_count = length-set d.lists (place_of name) (with_list_winner (list_winners_of d name) important v) ∙ whole.list_count;
}

-- ---- a property

winner_in_row : Winners → Bool → Option Declared
winner_in_row w true = w.important
winner_in_row w false = w.normal

winner_is : (d : Declarations) (p : PropertyId) (important : Bool) → winner_of d p important ≡ winner_in_row (winners_of d p) important
unfolding winner_in_row
winner_is d p true = refl
winner_is d p false = refl

put_row : (w : Winners) (b c : Bool) (v : Declared) → b ≡ c → winner_in_row (with_winner w b v) c ≡ Some v
unfolding winner_in_row
put_row w true true v is = refl
put_row w true false v is = absurd (cc)
put_row w false true v is = absurd (cc)
put_row w false false v is = refl

other_row : (w : Winners) (b c : Bool) (v : Declared) → b ≢ c → winner_in_row (with_winner w b v) c ≡ winner_in_row w c
unfolding winner_in_row
other_row w true true v other = absurd (other refl)
other_row w true false v other = refl
other_row w false true v other = refl
other_row w false false v other = absurd (other refl)

row_here : (d : Declarations) (p : PropertyId) (important : Bool) (v : Declared) → IsWhole d
    → winners_of (with_declaration d p important v) p ≡ with_winner (winners_of d p) important v
row_here d p important v whole =
    get_or-set_same d.properties (number_of p) (with_winner (winners_of d p) important v) no_winners (subst (λ (n : ℕ). number_of p < n) (sym whole.count) (number_small p))

row_elsewhere : (d : Declarations) (p q : PropertyId) (important : Bool) (v : Declared) → number_of p ≢ number_of q
    → winners_of (with_declaration d q important v) p ≡ winners_of d p
row_elsewhere d p q important v other =
    get_or-set_other d.properties (number_of q) (number_of p) (with_winner (winners_of d q) important v) no_winners other

pub property_put : (d : Declarations) (p : PropertyId) (b c : Bool) (l : Longhand) → IsWhole d → slot b (longhand_number l) ≡ slot c (number_of p)
    → winner_of (with_longhand d b l) p c ≡ given_property l
property_put d p b c (given.Property q v) whole is =
    let (same, at) = slot_same b c (number_of q) (number_of p) (longhand_small (given.Property q v)) (omega (arith, number_small p)) is in
    let row : winners_of (with_declaration d q b v) p ≡ with_winner (winners_of d q) b v =
    subst (λ (r : PropertyId). winners_of (with_declaration d q b v) r ≡ with_winner (winners_of d q) b v) (same_property q p at) (row_here d q b v whole) in
    winner_is (with_declaration d q b v) p c ∙ ap (λ w. winner_in_row w c) row ∙ put_row (winners_of d q) b c v same
property_put d p b c (given.List name v) whole is =
    let (same, at) = slot_same b c (place_of name + 24) (number_of p) (longhand_small (given.List name v)) (omega (arith, number_small p)) is in
    absurd (omega (arith, at, number_small p))

pub property_kept : (d : Declarations) (p : PropertyId) (b c : Bool) (l : Longhand) → IsWhole d → slot b (longhand_number l) ≢ slot c (number_of p)
    → winner_of (with_longhand d b l) p c ≡ winner_of d p c
property_kept d p b c (given.Property q v) whole other =
    elim (cases_eq (number_of p) (number_of q)) [
      | inl at ↦ (
          let row : winners_of (with_declaration d q b v) p ≡ with_winner (winners_of d p) b v =
          subst (λ (r : PropertyId). winners_of (with_declaration d r b v) p ≡ with_winner (winners_of d p) b v) (same_property p q at) (row_here d p b v whole) in
          winner_is (with_declaration d q b v) p c ∙ ap (λ w. winner_in_row w c) row
          ∙ other_row (winners_of d p) b c v (λ same. other (ap (λ x. slot x (number_of q)) same ∙ ap (slot c) (sym at)))
          ∙ sym (winner_is d p c))
      | inr elsewhere ↦ winner_is (with_declaration d q b v) p c ∙ ap (λ w. winner_in_row w c) (row_elsewhere d p q b v elsewhere) ∙ sym (winner_is d p c)
    ]
property_kept d p true true (given.List name v) whole other = refl
property_kept d p true false (given.List name v) whole other = refl
property_kept d p false true (given.List name v) whole other = refl
property_kept d p false false (given.List name v) whole other = refl

-- ---- a timing list

winner_in_list_row : ListWinners → Bool → Option ListValue
winner_in_list_row w true = w.important
winner_in_list_row w false = w.normal

list_winner_is : (d : Declarations) (name : ListName) (important : Bool) → list_winner_of d name important ≡ winner_in_list_row (list_winners_of d name) important
unfolding winner_in_list_row
list_winner_is d name true = refl
list_winner_is d name false = refl

put_list_row : (w : ListWinners) (b c : Bool) (v : ListValue) → b ≡ c → winner_in_list_row (with_list_winner w b v) c ≡ Some v
unfolding winner_in_list_row
put_list_row w true true v is = refl
put_list_row w true false v is = absurd (cc)
put_list_row w false true v is = absurd (cc)
put_list_row w false false v is = refl

other_list_row : (w : ListWinners) (b c : Bool) (v : ListValue) → b ≢ c → winner_in_list_row (with_list_winner w b v) c ≡ winner_in_list_row w c
unfolding winner_in_list_row
other_list_row w true true v other = absurd (other refl)
other_list_row w true false v other = refl
other_list_row w false true v other = refl
other_list_row w false false v other = absurd (other refl)

list_row_here : (d : Declarations) (name : ListName) (important : Bool) (v : ListValue) → IsWhole d
    → list_winners_of (with_list_declaration d name important v) name ≡ with_list_winner (list_winners_of d name) important v
list_row_here d name important v whole =
    get_or-set_same d.lists (place_of name) (with_list_winner (list_winners_of d name) important v) no_list_winners
    (subst (λ (n : ℕ). place_of name < n) (sym whole.list_count) (place_small name))

list_row_elsewhere : (d : Declarations) (name other : ListName) (important : Bool) (v : ListValue) → place_of name ≢ place_of other
    → list_winners_of (with_list_declaration d other important v) name ≡ list_winners_of d name
list_row_elsewhere d name other important v apart =
    get_or-set_other d.lists (place_of other) (place_of name) (with_list_winner (list_winners_of d other) important v) no_list_winners apart

pub list_put : (d : Declarations) (name : ListName) (b c : Bool) (l : Longhand) → IsWhole d → slot b (longhand_number l) ≡ slot c (place_of name + 24)
    → list_winner_of (with_longhand d b l) name c ≡ given_list l
list_put d name b c (given.List q v) whole is =
    let (same, further) = slot_same b c (place_of q + 24) (place_of name + 24) (longhand_small (given.List q v)) (omega (arith, place_small name)) is in
    let at : place_of q ≡ place_of name = omega (arith, further) in
    let row : list_winners_of (with_list_declaration d q b v) name ≡ with_list_winner (list_winners_of d q) b v =
    subst (λ (r : ListName). list_winners_of (with_list_declaration d q b v) r ≡ with_list_winner (list_winners_of d q) b v) (same_list q name at) (list_row_here d q b v whole) in
    list_winner_is (with_list_declaration d q b v) name c ∙ ap (λ w. winner_in_list_row w c) row ∙ put_list_row (list_winners_of d q) b c v same
list_put d name b c (given.Property p v) whole is =
    let (same, at) = slot_same b c (number_of p) (place_of name + 24) (longhand_small (given.Property p v)) (omega (arith, place_small name)) is in
    absurd (omega (arith, at, number_small p))

pub list_kept : (d : Declarations) (name : ListName) (b c : Bool) (l : Longhand) → IsWhole d → slot b (longhand_number l) ≢ slot c (place_of name + 24)
    → list_winner_of (with_longhand d b l) name c ≡ list_winner_of d name c
list_kept d name b c (given.List q v) whole other =
    elim (cases_eq (place_of name) (place_of q)) [
      | inl at ↦ (
          let row : list_winners_of (with_list_declaration d q b v) name ≡ with_list_winner (list_winners_of d name) b v =
          subst (λ (r : ListName). list_winners_of (with_list_declaration d r b v) name ≡ with_list_winner (list_winners_of d name) b v) (same_list name q at) (list_row_here d name b v whole) in
          list_winner_is (with_list_declaration d q b v) name c ∙ ap (λ w. winner_in_list_row w c) row
          ∙ other_list_row (list_winners_of d name) b c v (λ same. other (ap (λ x. slot x (place_of q + 24)) same ∙ ap (λ k. slot c (k + 24)) (sym at)))
          ∙ sym (list_winner_is d name c))
      | inr elsewhere ↦ list_winner_is (with_list_declaration d q b v) name c ∙ ap (λ w. winner_in_list_row w c) (list_row_elsewhere d name q b v elsewhere) ∙ sym (list_winner_is d name c)
    ]
list_kept d name true true (given.Property p v) whole other = refl
list_kept d name true false (given.Property p v) whole other = refl
list_kept d name false true (given.Property p v) whole other = refl
list_kept d name false false (given.Property p v) whole other = refl
