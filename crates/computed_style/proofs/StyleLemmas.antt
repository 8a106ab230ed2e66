-- Values that are given on top of others.
use Rattle.std.proofs.Common.{◌≡◌, ℕ, refl, sym, ◌∙◌, ap, inl, inr, arith, rules}
use Rattle.std.specs.Prelude.{◌≢◌, Bool, true, false, cond, nat_eq, List, [], ◌∷◌, ◌++◌, find, is_some, length, option_map, set, unwrap_or, Option, None, Some, IfSome}
use Rattle.std.proofs.lemmas.Bool.{cases_eq, false≢true}
use Rattle.std.proofs.lemmas.List.{get_or-set_other, get_or-set_same, length-set}
use Rattle.value_types.specs.Properties.{number_of}
use Rattle.value_types.specs.Validity.{IsValid}
use Rattle.value_types.specs.declared.property.PropertyId.{PropertyId}
use Rattle.value_types.specs.declared.value.Value.{Value}
use Rattle.value_types.specs.declared.value.Value.TheVariants.{Auto}
use Rattle.computed_style.specs.ByProperty.{kept_for}
use Rattle.value_types.specs.Table.{initial_value}
use Rattle.computed_style.specs.Styles.{AreGiven, AreValid, initial_values, value_at, values_with}
use Rattle.computed_style.proofs.EveryProperty.{at_property}
use Rattle.computed_style.proofs.Lookups.{found_has}
use Rattle.computed_style.proofs.Tables.{number_small}

pub length-values_with : (vs : List Value) (given : List (PropertyId × Value)) → length (values_with vs given) ≡ length vs
length-values_with vs [] = refl
length-values_with vs (g ∷ given) = length-set (values_with vs given) (number_of g.0) g.1 ∙ length-values_with vs given

like : (m n : ℕ) → m ≡ n → nat_eq m n ≡ true
like m n e = grind (arith, rules)

unlike : (m n : ℕ) → m ≢ n → nat_eq m n ≡ false
unlike m n e = grind (arith, rules)

kept_by : (g : PropertyId × Value) (given : List (PropertyId × Value)) (p : PropertyId) (b : Bool) → nat_eq (number_of g.0) (number_of p) ≡ b
    → kept_for p (g ∷ given) ≡ option_map (λ k. k.1) (cond b (Some g) (find (λ k. nat_eq (number_of k.0) (number_of p)) given))
kept_by g given p b e = ap (λ t. option_map (λ k. k.1) (cond t (Some g) (find (λ k. nat_eq (number_of k.0) (number_of p)) given))) e

-- the value of a property is that which is given to it, and else that below
pub value_at-values_with : (vs : List Value) (given : List (PropertyId × Value)) (p : PropertyId) → length vs ≡ 24
    → value_at (values_with vs given) p ≡ unwrap_or (kept_for p given) (value_at vs p)
value_at-values_with vs [] p count = refl
value_at-values_with vs (g ∷ given) p count = elim (cases_eq (number_of g.0) (number_of p)) [
  | inl at ↦
      rw (kept_by g given p true (like (number_of g.0) (number_of p) at), at)
      (get_or-set_same (values_with vs given) (number_of p) g.1 Auto (rw (length-values_with vs given, count) (number_small p)))
  | inr off ↦
      rw (kept_by g given p false (unlike (number_of g.0) (number_of p) off))
      (get_or-set_other (values_with vs given) (number_of g.0) (number_of p) g.1 Auto (λ e. off (sym e)) ∙ value_at-values_with vs given p count)
]

-- values given in two steps
pub values_with-append : (vs : List Value) (above below : List (PropertyId × Value)) → values_with vs (above ++ below) ≡ values_with (values_with vs below) above
values_with-append vs [] below = refl
values_with-append vs (g ∷ above) below = ap (λ values. set values (number_of g.0) g.1) (values_with-append vs above below)

pub unwrap_has : {A : Type 0} (P : A → Type 0) (o : Option A) (x : A) → IfSome o P → P x → P (unwrap_or o x)
unwrap_has P None x some none = none
unwrap_has P (Some y) x some none = some

-- valid values with valid ones given on top of them
pub AreValid-values_with : (vs : List Value) (given : List (PropertyId × Value)) → AreValid vs → AreGiven given → AreValid (values_with vs given)
AreValid-values_with vs given are valid = record {
  count = length-values_with vs given ∙ are.count;
  each = λ p. rw (value_at-values_with vs given p are.count) (unwrap_has (IsValid p) (kept_for p given) (value_at vs p) (found_has IsValid given p (kept_for p given) refl valid) (are.each p));
}

-- the initial values, with values on top that aren't of this property
pub initial_unless_given : (base : Option (List Value)) (given : List (PropertyId × Value)) (p : PropertyId) → is_some base ≡ false → kept_for p given ≡ None
    → value_at (values_with (unwrap_or base initial_values) given) p ≡ initial_value p
initial_unless_given None given p without none =
    value_at-values_with initial_values given p refl ∙ ap (λ o. unwrap_or o (value_at initial_values p)) none ∙ at_property initial_value Auto p
initial_unless_given (Some values) given p without none = absurd (false≢true (sym without))
