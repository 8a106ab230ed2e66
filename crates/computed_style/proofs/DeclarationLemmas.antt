-- Declarations as they are kept, read and put.
use Rattle.std.proofs.Common.{◌≡◌, Bor, ℕ, zero, suc, refl, sym, ◌∙◌, ap, subst, inl, inr, arith, rules}
use Rattle.std.specs.Prelude.{◌≢◌, nat_eq, Bool, List, ◌∷◌, [], All, true, false, cond, find, is_some, ◌||◌, map, option_map, Option, None, Some, IfSome, option_copied, length, insert, set, slice_index_or, Result, Ok, Err, OnErr, OnOk}
use Rattle.std.specs.Bool.{OnFalse, OnTrue}
use Rattle.std.proofs.lemmas.Bool.{cases_eq, or_left, or_right}
use Rattle.std.proofs.lemmas.List.{get_or-set_other, get_or-set_same, length-set}
use Rattle.value_types.specs.ListValues.{IsListValueFor, timing_lists}
use Rattle.value_types.specs.Properties.{all_properties, number_of}
use Rattle.value_types.specs.Validity.{IsDeclaredFor}
use Rattle.value_types.specs.declared.declared.Declared.{Declared}
use Rattle.value_types.specs.declared.list_value.ListName.{ListName}
use Rattle.value_types.specs.declared.list_value.ListValue.{ListValue}
use Rattle.value_types.specs.declared.property.PropertyId.{PropertyId}
use Rattle.computed_style.specs.ByProperty.{kept_for}
use Rattle.computed_style.specs.KeptDeclarations.{AreKept, ListDeclarations, PropertyDeclarations, TellsDeclared, declarations_in, list_winners_in, winners_in}
use Rattle.computed_style.specs.declared.winners.Winners.{Winners}
use Rattle.computed_style.specs.Winners.{AreDeclarations, declarations, is_declared, place_of, kept_for_list, list_winner_of, list_winners_of, no_declarations, no_list_winners, no_winners, winners_of, with_declaration, with_list_declaration}
use Rattle.computed_style.proofs.EveryProperty.{at_list, at_property, put_list, put_property}
use Rattle.computed_style.proofs.Lookups.{found_has}
use Rattle.computed_style.proofs.Tables.{number_small, same_list}

pub winners_of-declarations_in : (i n : PropertyDeclarations) (il nl : ListDeclarations) (p : PropertyId) → winners_of (declarations_in i n il nl) p ≡ winners_in i n p
unfolding declarations_in
winners_of-declarations_in i n il nl p = at_property (winners_in i n) no_winners p

pub list_winners_of-declarations_in : (i n : PropertyDeclarations) (il nl : ListDeclarations) (name : ListName)
    → list_winners_of (declarations_in i n il nl) name ≡ list_winners_in il nl name
unfolding declarations_in
list_winners_of-declarations_in i n il nl name = at_list (list_winners_in il nl) no_list_winners name

pub none_declared : declarations_in [] [] [] [] ≡ no_declarations
unfolding declarations_in
none_declared = refl

pub put_important : (i n : PropertyDeclarations) (il nl : ListDeclarations) (p : PropertyId) (v : Declared)
    → declarations_in ((p, v) ∷ i) n il nl ≡ with_declaration (declarations_in i n il nl) p true v
unfolding declarations_in
put_important i n il nl p v =
    rw (at_property (winners_in i n) no_winners p) (ap (λ t. declarations t (map (list_winners_in il nl) timing_lists)) (put_property (λ o q. record { important = o; normal = kept_for q n }) i v p))

pub put_normal : (i n : PropertyDeclarations) (il nl : ListDeclarations) (p : PropertyId) (v : Declared)
    → declarations_in i ((p, v) ∷ n) il nl ≡ with_declaration (declarations_in i n il nl) p false v
unfolding declarations_in
put_normal i n il nl p v =
    rw (at_property (winners_in i n) no_winners p) (ap (λ t. declarations t (map (list_winners_in il nl) timing_lists)) (put_property (λ o q. record { important = kept_for q i; normal = o }) n v p))

pub put_important_list : (i n : PropertyDeclarations) (il nl : ListDeclarations) (name : ListName) (v : ListValue)
    → declarations_in i n ((name, v) ∷ il) nl ≡ with_list_declaration (declarations_in i n il nl) name true v
unfolding declarations_in
put_important_list i n il nl name v =
    rw (at_list (list_winners_in il nl) no_list_winners name) (ap (λ t. declarations (map (winners_in i n) all_properties) t) (put_list (λ o q. record { important = o; normal = kept_for_list q nl }) il v name))

pub put_normal_list : (i n : PropertyDeclarations) (il nl : ListDeclarations) (name : ListName) (v : ListValue)
    → declarations_in i n il ((name, v) ∷ nl) ≡ with_list_declaration (declarations_in i n il nl) name false v
unfolding declarations_in
put_normal_list i n il nl name v =
    rw (at_list (list_winners_in il nl) no_list_winners name) (ap (λ t. declarations (map (winners_in i n) all_properties) t) (put_list (λ o q. record { important = kept_for_list q il; normal = o }) nl v name))

pub insert_first : {A : Type 0} (xs : List A) (x : A) → insert xs 0 x ≡ x ∷ xs
insert_first xs x = refl

pub empty_list : {A : Type 0} (xs : List A) → length xs ≡ 0 → xs ≡ []
empty_list [] e = refl
empty_list (x ∷ xs) e = absurd (omega arith)

same_number : (m n : ℕ) → nat_eq m n ≡ true → m ≡ n
same_number m n e = grind (arith, rules)

first_has : {A : Type 0} (P : ListName → A → Type 0) (x : ListName × A) (xs : List (ListName × A)) (name : ListName) (b : Bool)
    → nat_eq (place_of x.0) (place_of name) ≡ b → P x.0 x.1 → IfSome (kept_for_list name xs) (P name)
    → IfSome (option_map (λ k. k.1) (cond b (Some x) (find (λ k. nat_eq (place_of k.0) (place_of name)) xs))) (P name)
first_has {A} P x xs name true is has rest = subst (λ (n : ListName). P n x.1) (same_list x.0 name (same_number (place_of x.0) (place_of name) is)) has
first_has P x xs name false is has rest = rest

-- what is declared of a timing list has what each declaration has
pub kept_for_list-has : {A : Type 0} (P : ListName → A → Type 0) (xs : List (ListName × A)) (name : ListName) → All (λ d. P d.0 d.1) xs
    → IfSome (kept_for_list name xs) (P name)
kept_for_list-has P [] name all = tt
kept_for_list-has P (x ∷ xs) name all =
    first_has P x xs name (nat_eq (place_of x.0) (place_of name)) refl (all 0 x (omega arith))
    (kept_for_list-has P xs name (λ k d l. all (suc k) d (omega arith)))

pub OnOk-then : {T E P Q : Type 0} (r : Result T E) → (P → Q) → OnOk r P → OnOk r Q
OnOk-then (Ok x) f h = f h
OnOk-then (Err e) f h = tt

pub OnTrue-then : {P Q : Type 0} (b : Bool) → (P → Q) → OnTrue b P → OnTrue b Q
OnTrue-then true f h = f h
OnTrue-then false f h = tt

-- what holds of the value after a reference
pub IfSome-copied : {A : Type 0} (o : Option (Bor A)) (P : A → Type 0) → IfSome (option_copied o) P → IfSome o (λ b. P b.now)
IfSome-copied None P h = tt
IfSome-copied (Some b) P h = h

pub are_declarations : {declares : List Bool} (i n : PropertyDeclarations) (il nl : ListDeclarations) → AreKept declares i n il nl → AreDeclarations (declarations_in i n il nl)
unfolding declarations_in
are_declarations i n il nl kept = record {
  count = refl;
  list_count = refl;
  each = λ p. rw (winners_of-declarations_in i n il nl p) record {
    important = found_has IsDeclaredFor i p (kept_for p i) refl kept.important;
    normal = found_has IsDeclaredFor n p (kept_for p n) refl kept.normal;
  };
  each_list = λ name important. elim important as (λ b. IfSome (list_winner_of (declarations_in i n il nl) name b) (IsListValueFor name)) [
    | true ↦ rw (list_winners_of-declarations_in i n il nl name) (kept_for_list-has IsListValueFor il name kept.important_lists)
    | false ↦ rw (list_winners_of-declarations_in i n il nl name) (kept_for_list-has IsListValueFor nl name kept.normal_lists)
  ];
}

pub no_declarations_are : AreDeclarations no_declarations
no_declarations_are = record {
  count = refl;
  list_count = refl;
  each = λ p. rw (at_property (λ q. no_winners) no_winners p) record { important = tt; normal = tt };
  each_list = λ name important. elim important as (λ b. IfSome (list_winner_of no_declarations name b) (IsListValueFor name)) [
    | true ↦ rw (at_list (λ q. no_list_winners) no_list_winners name) tt
    | false ↦ rw (at_list (λ q. no_list_winners) no_list_winners name) tt
  ];
}

-- ---- which properties are declared

unlike : (m n : ℕ) → m ≢ n → nat_eq m n ≡ false
unlike m n off = grind (off, arith, rules)

like : (m n : ℕ) → m ≡ n → nat_eq m n ≡ true
like m n same = grind (same, arith, rules)

kept_other : {A : Type 0} (x : PropertyId × A) (xs : List (PropertyId × A)) (q : PropertyId) → number_of x.0 ≢ number_of q → kept_for q (x ∷ xs) ≡ kept_for q xs
kept_other x xs q off =
    ap (λ b. option_map (λ k. k.1) (cond b (Some x) (find (λ k. nat_eq (number_of k.0) (number_of q)) xs))) (unlike (number_of x.0) (number_of q) off)

-- the flags tell what is declared once this property is, in a list that has it first
tells_put : (declares : List Bool) (p q : PropertyId) (now was : Winners) → length declares ≡ 24 → (number_of q ≡ number_of p → is_declared now ≡ true)
    → (number_of q ≢ number_of p → now ≡ was) → slice_index_or declares (number_of q) false ≡ is_declared was
    → slice_index_or (set declares (number_of p) true) (number_of q) false ≡ is_declared now
tells_put declares p q now was count here other told = elim (cases_eq (number_of q) (number_of p)) [
  | inl same ↦
      ap (λ n. slice_index_or (set declares (number_of p) true) n false) same ∙ get_or-set_same declares (number_of p) true false (rw count (number_small p)) ∙ sym (here same)
  | inr off ↦
      get_or-set_other declares (number_of p) (number_of q) true false off ∙ told ∙ ap is_declared (sym (other off))
]

kept_same : {A : Type 0} (x : PropertyId × A) (xs : List (PropertyId × A)) (q : PropertyId) → number_of q ≡ number_of x.0 → kept_for q (x ∷ xs) ≡ Some x.1
kept_same x xs q same =
    ap (λ b. option_map (λ k. k.1) (cond b (Some x) (find (λ k. nat_eq (number_of k.0) (number_of q)) xs))) (like (number_of x.0) (number_of q) (sym same))

pub tells_important : (declares : List Bool) (i n : PropertyDeclarations) (p : PropertyId) (v : Declared) → length declares ≡ 24 → TellsDeclared declares i n
    → TellsDeclared (set declares (number_of p) true) ((p, v) ∷ i) n
tells_important declares i n p v count tells q =
    tells_put declares p q (winners_in ((p, v) ∷ i) n q) (winners_in i n q) count
    (λ same. or_left (is_some (kept_for q ((p, v) ∷ i))) (is_some (kept_for q n)) (ap is_some (kept_same (p, v) i q same)))
    (λ off. ap (λ o. record { important = o; normal = kept_for q n }) (kept_other (p, v) i q (λ e. off (sym e)))) (tells q)

pub tells_normal : (declares : List Bool) (i n : PropertyDeclarations) (p : PropertyId) (v : Declared) → length declares ≡ 24 → TellsDeclared declares i n
    → TellsDeclared (set declares (number_of p) true) i ((p, v) ∷ n)
tells_normal declares i n p v count tells q =
    tells_put declares p q (winners_in i ((p, v) ∷ n) q) (winners_in i n q) count
    (λ same. or_right (is_some (kept_for q i)) (is_some (kept_for q ((p, v) ∷ n))) (ap is_some (kept_same (p, v) n q same)))
    (λ off. ap (λ o. record { important = kept_for q i; normal = o }) (kept_other (p, v) n q (λ e. off (sym e)))) (tells q)

all_first : {A : Type 0} (P : A → Type 0) (x : A) (xs : List A) → P x → All P xs → All P (x ∷ xs)
all_first P x xs is all zero d l = is
all_first P x xs is all (suc k) d l = all k d (omega arith)

-- what is kept stays in order when a declaration is put
pub kept_important : (declares : List Bool) (i n : PropertyDeclarations) (il nl : ListDeclarations) (p : PropertyId) (v : Declared)
    → AreKept declares i n il nl → IsDeclaredFor p v → AreKept (set declares (number_of p) true) ((p, v) ∷ i) n il nl
kept_important declares i n il nl p v kept is = record {
  count = length-set declares (number_of p) true ∙ kept.count;
  tells = tells_important declares i n p v kept.count kept.tells;
  important = all_first (λ d. IsDeclaredFor d.0 d.1) (p, v) i is kept.important;
  normal = kept.normal;
  important_lists = kept.important_lists;
  normal_lists = kept.normal_lists;
}

pub kept_normal : (declares : List Bool) (i n : PropertyDeclarations) (il nl : ListDeclarations) (p : PropertyId) (v : Declared)
    → AreKept declares i n il nl → IsDeclaredFor p v → AreKept (set declares (number_of p) true) i ((p, v) ∷ n) il nl
kept_normal declares i n il nl p v kept is = record {
  count = length-set declares (number_of p) true ∙ kept.count;
  tells = tells_normal declares i n p v kept.count kept.tells;
  important = kept.important;
  normal = all_first (λ d. IsDeclaredFor d.0 d.1) (p, v) n is kept.normal;
  important_lists = kept.important_lists;
  normal_lists = kept.normal_lists;
}

-- whether a property is declared is told
pub told : (b : Bool) (declares : List Bool) (i n : PropertyDeclarations) (il nl : ListDeclarations) (p : PropertyId) → AreKept declares i n il nl
    → b ≡ slice_index_or declares (number_of p) false → b ≡ is_declared (winners_of (declarations_in i n il nl) p)
told b declares i n il nl p kept is = is ∙ kept.tells p ∙ ap is_declared (sym (winners_of-declarations_in i n il nl p))

both_none : (important normal : Option Declared) → (is_some important || is_some normal) ≡ false → record { important = important; normal = normal } ≡ no_winners
both_none None None none = refl
both_none (Some x) normal none = absurd (cc)
both_none None (Some x) none = absurd (cc)

-- a property that isn't declared has no winners
pub not_declared : (b : Bool) (w : Winners) → b ≡ is_declared w → OnFalse b (w ≡ no_winners)
not_declared true w is = tt
not_declared false w is = both_none w.important w.normal (sym is)
