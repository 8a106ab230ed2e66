-- Values by the numbers of their properties.
use Rattle.std.proofs.Common.{◌≡◌, ℕ, ◌+◌, ◌<◌, ◌≤◌, refl, sym, ◌∙◌, ap, subst, inl, inr, arith}
use Rattle.std.specs.Prelude.{◌≢◌, false, List, [], ◌∷◌, map, set, length, slice_index_or, is_some, IfNone, Option, None, Some}
use Rattle.std.proofs.lemmas.Bool.{cases_eq, cases_lt, false≢true}
use Rattle.std.proofs.lemmas.List.{get_or-set_other, get_or-set_same, length-set}
use borrow.Author.Count.{below_more}
use Rattle.value_types.specs.Properties.{all_properties, number_of}
use Rattle.value_types.specs.Table.{initial_value}
use Rattle.value_types.specs.Validity.{IsValid}
use Rattle.value_types.specs.declared.property.PropertyId.{PropertyId}
use Rattle.value_types.specs.declared.value.Value.{Value}
use Rattle.value_types.specs.declared.value.Value.TheVariants.{Auto}
use Rattle.mini_cascade.specs.Sources.{AreInitial, computed_values}
use Rattle.computed_style.specs.ComputedStyles.{StyleSources, computed_value}
use Rattle.computed_style.specs.Styles.{AreValid, initial_values, values_with}
use Rattle.computed_style.proofs.ByIndex.{every_property, number-property_at, property_at, same_by_index}
use Rattle.computed_style.proofs.EveryProperty.{at_property}
use Rattle.computed_style.proofs.Tables.{number_small}

-- values that are a table's at each number
pub table_of : (f : PropertyId → Value) (values : List Value) → length values ≡ 24 → ((k : ℕ) → k < 24 → slice_index_or values k Auto ≡ f (property_at k))
    → values ≡ map f all_properties
table_of f values count each =
    same_by_index values (map f all_properties) Auto count
    (λ k less.
    let small : k < 24 = rw (← count) less in
    each k small ∙ sym (subst (λ (n : ℕ). slice_index_or (map f all_properties) n Auto ≡ f (property_at k)) (number-property_at k small) (at_property f Auto (property_at k))))

pub valid_of : (values : List Value) → length values ≡ 24 → ((k : ℕ) → k < 24 → IsValid (property_at k) (slice_index_or values k Auto)) → AreValid values
valid_of values count each = record {
  count = count;
  each = λ p. every_property (λ q. IsValid q (slice_index_or values (number_of p) Auto)) p (each (number_of p) (number_small p));
}

-- the computed value of a property, among those of all
pub computed_at : (x : StyleSources) (p : PropertyId) (i : ℕ) → number_of p ≡ i → computed_value x p ≡ slice_index_or (computed_values x) i Auto
unfolding computed_values
computed_at x p i number =
    sym (at_property (computed_value x) Auto p) ∙ ap (λ (n : ℕ). slice_index_or (map (computed_value x) all_properties) n Auto) number

pub computed_count : (x : StyleSources) → length (computed_values x) ≡ 24
unfolding computed_values
computed_count x = refl

-- ---- values of which few aren't initial

-- the value of this number is initial, and so are all up to the next
pub initial_one_more : (values : List Value) (from i : ℕ) (p : PropertyId) (v w : Value) → number_of p ≡ i → v ≡ slice_index_or values i Auto
    → w ≡ initial_value p → v ≡ w → AreInitial values from i → AreInitial values from (i + 1)
initial_one_more values from i p v w number is initial same below k low high =
    below_more (λ n. from ≤ n → slice_index_or values n Auto ≡ slice_index_or initial_values n Auto) i (λ n less more. below n more less)
    (λ more.
    sym is ∙ same ∙ initial
    ∙ sym (at_property initial_value Auto p)
    ∙ ap (λ (n : ℕ). slice_index_or initial_values n Auto) number)
    k high low

-- a property whose computed value is initial comes after others
pub computed_one_more : (x : StyleSources) (from i : ℕ) (p : PropertyId) → number_of p ≡ i → computed_value x p ≡ initial_value p
    → AreInitial (computed_values x) from i → AreInitial (computed_values x) from (i + 1)
computed_one_more x from i p number is below =
    initial_one_more (computed_values x) from i p (computed_value x p) (initial_value p) number (computed_at x p i number) refl is below

pub none_between : (values : List Value) (from : ℕ) → AreInitial values from from
none_between values from k low high = absurd (omega (arith, low, high))

pub none_then : {A P : Type 0} (o : Option A) → is_some o ≡ false → IfNone o P → P
none_then None none is = is
none_then (Some x) none is = absurd (false≢true (sym none))

-- a value that isn't of this number is as before
at_other : (values : List Value) (a : ℕ) (v : Value) (k : ℕ) (w : Value) → k ≢ a → w ≡ slice_index_or values k Auto → w ≡ slice_index_or (set values a v) k Auto
at_other values a v k w off is = is ∙ sym (get_or-set_other values a k v Auto off)

at_it : (values : List Value) (a : ℕ) (v : Value) (k : ℕ) (w : Value) → length values ≡ 24 → a < 24 → k ≡ a → w ≡ v → w ≡ slice_index_or (set values a v) k Auto
at_it values a v k w count small at is =
    is ∙ sym (get_or-set_same values a v Auto (rw count small)) ∙ ap (λ (n : ℕ). slice_index_or (set values a v) n Auto) (sym at)

-- what is initial but at one number
outside : (values : List Value) (from a to k : ℕ) → AreInitial values from a → AreInitial values (a + 1) to → from ≤ k → k < to → k ≢ a
    → slice_index_or values k Auto ≡ slice_index_or initial_values k Auto
outside values from a to k below above low high off = elim (cases_lt k a) [
  | inl less ↦ below k low less
  | inr more ↦ above k (omega (arith, off)) high
]

strictly : (b k : ℕ) → b ≤ k → k ≢ b → b + 1 ≤ k
strictly b k high off = omega (arith, off)

pub none_changed : (values : List Value) → length values ≡ 24 → AreInitial values 0 24 → initial_values ≡ values
none_changed values count same =
    sym (same_by_index values initial_values Auto count (λ k less. same k (omega arith) (omega (arith, count, less))))

pub one_changed : (values : List Value) (a b : ℕ) (g : PropertyId × Value) → length values ≡ 24 → a < 24 → b ≡ 24
    → number_of g.0 ≡ a → g.1 ≡ slice_index_or values a Auto → AreInitial values 0 a → AreInitial values (a + 1) b
    → values_with initial_values (g ∷ []) ≡ values
one_changed values a b g count small all number is below above =
    let changed : List Value = set initial_values (number_of g.0) g.1 in
    sym (same_by_index values changed Auto (count ∙ sym (length-set initial_values (number_of g.0) g.1))
    (λ k less. elim (cases_eq k (number_of g.0)) [
      | inl at ↦ at_it initial_values (number_of g.0) g.1 k (slice_index_or values k Auto) refl (omega (arith, number, small)) at (ap (λ (n : ℕ). slice_index_or values n Auto) (at ∙ number) ∙ sym is)
      | inr off ↦
          at_other initial_values (number_of g.0) g.1 k (slice_index_or values k Auto) off
          (outside values 0 a b k below above (omega arith) (omega (arith, count, all, less)) (λ e. off (e ∙ sym number)))
    ]))

pub two_changed : (values : List Value) (a b c : ℕ) (g h : PropertyId × Value) → length values ≡ 24 → a + 1 ≤ b → b < 24 → c ≡ 24
    → number_of g.0 ≡ a → g.1 ≡ slice_index_or values a Auto → number_of h.0 ≡ b → h.1 ≡ slice_index_or values b Auto
    → AreInitial values 0 a → AreInitial values (a + 1) b → AreInitial values (b + 1) c
    → values_with initial_values (g ∷ h ∷ []) ≡ values
two_changed values a b c g h count less small all number_a is_a number_b is_b below between above =
    let second : List Value = set initial_values (number_of h.0) h.1 in
    let both : List Value = set second (number_of g.0) g.1 in
    let size : length second ≡ 24 = length-set initial_values (number_of h.0) h.1 in
    sym (same_by_index values both Auto (count ∙ sym (length-set second (number_of g.0) g.1 ∙ size))
    (λ k within. elim (cases_eq k (number_of g.0)) [
      | inl at ↦ at_it second (number_of g.0) g.1 k (slice_index_or values k Auto) size (omega (arith, number_a, less, small)) at (ap (λ (n : ℕ). slice_index_or values n Auto) (at ∙ number_a) ∙ sym is_a)
      | inr off_a ↦
          at_other second (number_of g.0) g.1 k (slice_index_or values k Auto) off_a
          (elim (cases_eq k (number_of h.0)) [
            | inl at ↦ at_it initial_values (number_of h.0) h.1 k (slice_index_or values k Auto) refl (omega (arith, number_b, small)) at (ap (λ (n : ℕ). slice_index_or values n Auto) (at ∙ number_b) ∙ sym is_b)
            | inr off_b ↦
                at_other initial_values (number_of h.0) h.1 k (slice_index_or values k Auto) off_b
                (elim (cases_lt k b) [
                  | inl low ↦ outside values 0 a b k below between (omega arith) low (λ e. off_a (e ∙ sym number_a))
                  | inr high ↦ above k (strictly b k high (λ e. off_b (e ∙ sym number_b))) (omega (arith, count, all, within))
                ])
          ])
    ]))
