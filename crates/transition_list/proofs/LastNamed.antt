-- The index of the last item that names a property.
use Rattle.std.proofs.Common.{◌≡◌, ℕ, zero, suc, ◌+◌, ◌<◌, refl, sym, ◌∙◌, ap, arith, inl, inr, subst}
use Rattle.std.specs.Prelude.{◌↔◌, Bool, true, false, List, [], ◌∷◌, ◌++◌, All, get_or, length, slice_get, take, if◌then◌else◌, Option, None, Some, IfSome, IsSomeAnd, IsTrue, option_map}
use Rattle.std.proofs.lemmas.Bool.{cases_lt, false≢true}
use Rattle.std.proofs.lemmas.List.{length-take-le, take_more}
use Rattle.transition_list.specs.declared.matched.MatchedItem.{MatchedItem}
use Rattle.value_types.specs.TransitionLists.{TransitionValues}
use Rattle.value_types.specs.declared.property.PropertyId.{PropertyId}
use Rattle.value_types.specs.declared.shorthand.PropertyItem.{PropertyItem}
use Rattle.transition_list.specs.Matching.{IsLastNamed, IsMatchOf, last_named, last_named_from, later, match_at, match_of, names}

from_0 : (k : ℕ) → 0 + k ≡ k
from_0 k = omega arith

-- ---- one more item

later_cases : (o : Option ℕ) (b : Bool) (n m : ℕ) (c : Bool) → later (if c then Some m else o) b n ≡ (if c then Some m else later o b n)
later_cases o b n m true = refl
later_cases o b n m false = refl

at_once : (b : Bool) (n : ℕ) → later None b n ≡ (if b then Some n else None)
at_once true n = refl
at_once false n = refl

pub with_one_more : (n : ℕ) (p : PropertyId) (xs : List PropertyItem) (x : PropertyItem)
    → last_named_from n p (xs ++ x ∷ []) ≡ (if names x p then Some (n + length xs) else last_named_from n p xs)
unfolding last_named_from
with_one_more n p [] x = at_once (names x p) n ∙ ap (λ m. if names x p then Some m else None) (omega arith)
with_one_more n p (y ∷ ys) x =
    ap (λ o. later o (names y p) n) (with_one_more (n + 1) p ys x)
    ∙ later_cases (last_named_from (n + 1) p ys) (names y p) n (n + 1 + length ys) (names x p)
    ∙ ap (λ m. if names x p then Some m else later (last_named_from (n + 1) p ys) (names y p) n) (omega arith)

-- ---- what the function finds

each_at : {A : Type 0} (P : A → Type 0) (xs : List A) (k : ℕ) → All P xs → IfSome (slice_get xs k) P
each_at P [] k all = tt
each_at P (x ∷ xs) zero all = all 0 x (omega arith)
each_at P (x ∷ xs) (suc k) all = each_at P xs k (λ j d l. all (suc j) d (omega arith))

one_and_all : {A : Type 0} (P : A → Type 0) (x : A) (xs : List A) → P x → All P xs → All P (x ∷ xs)
one_and_all P x xs p all zero d l = p
one_and_all P x xs p all (suc k) d l = all k d (omega arith)

-- what was found is the last, or nothing names the property
Finds : ℕ → PropertyId → List PropertyItem → Option ℕ → Type 0
Finds n p xs None = All (λ x. names x p ≡ false) xs
Finds n p xs (Some i) = (k : ℕ) × (i ≡ n + k) × IsLastNamed p xs k

of_rest : (n : ℕ) (p : PropertyId) (x : PropertyItem) (xs : List PropertyItem) (o : Option ℕ) (b : Bool) → names x p ≡ b
    → Finds (n + 1) p xs o → Finds n p (x ∷ xs) (later o b n)
unfolding Finds
of_rest n p x xs (Some i) b is (k, at, found) = (suc k, omega arith, record { names_it = found.names_it; last = beyond }) where
  beyond : (j : ℕ) → suc k < j → IfSome (slice_get (x ∷ xs) j) (λ y. names y p ≡ false)
  beyond zero less = absurd (omega arith)
  beyond (suc j) less = found.last j (omega arith)
of_rest n p x xs None true is none = (0, omega arith, record { names_it = is; last = beyond }) where
  beyond : (j : ℕ) → 0 < j → IfSome (slice_get (x ∷ xs) j) (λ y. names y p ≡ false)
  beyond zero less = absurd (omega arith)
  beyond (suc j) less = each_at (λ y. names y p ≡ false) xs j none
of_rest n p x xs None false is none = one_and_all (λ y. names y p ≡ false) x xs is none

finds : (n : ℕ) (p : PropertyId) (xs : List PropertyItem) → Finds n p xs (last_named_from n p xs)
unfolding Finds last_named_from
finds n p [] = λ k d l. absurd (omega arith)
finds n p (x ∷ xs) = of_rest n p x xs (last_named_from (n + 1) p xs) (names x p) refl (finds (n + 1) p xs)

-- ---- there is only one

clash : (p : PropertyId) (o : Option PropertyItem) → IsSomeAnd o (λ x. IsTrue (names x p)) → IfSome o (λ x. names x p ≡ false) → ⊥
clash p None some none = some
clash p (Some x) some none = false≢true (sym none ∙ some)

pub only_one : (p : PropertyId) (xs : List PropertyItem) (i j : ℕ) → IsLastNamed p xs i → IsLastNamed p xs j → i ≡ j
only_one p xs i j a b = elim (cases_lt i j) [
  | inl less ↦ absurd (clash p (slice_get xs j) b.names_it (a.last j less))
  | inr not_less ↦ elim (cases_lt j i) [
    | inl more ↦ absurd (clash p (slice_get xs i) a.names_it (b.last i more))
    | inr not_more ↦ omega arith
  ]
]

-- ---- the relation and the function

matches_found : (lists : TransitionValues) (p : PropertyId) (o : Option ℕ) → Finds 0 p lists.items o → IsMatchOf lists p (option_map (match_at lists) o)
unfolding Finds
matches_found lists p None none = none
matches_found lists p (Some i) (k, at, found) = (k, found, ap (match_at lists) (at ∙ from_0 k))

pub matches : (lists : TransitionValues) (p : PropertyId) → IsMatchOf lists p (match_of lists p)
matches lists p = matches_found lists p (last_named p lists.items) (finds 0 p lists.items)

same : (lists : TransitionValues) (p : PropertyId) (m : Option MatchedItem) (o : Option ℕ) → IsMatchOf lists p m → Finds 0 p lists.items o → m ≡ option_map (match_at lists) o
unfolding Finds
same lists p None None h none = refl
same lists p None (Some i) h (k, at, found) = absurd (clash p (slice_get lists.items k) found.names_it (each_at (λ y. names y p ≡ false) lists.items k h))
same lists p (Some m) None (i, last, is) none = absurd (clash p (slice_get lists.items i) last.names_it (each_at (λ y. names y p ≡ false) lists.items i none))
same lists p (Some m) (Some j) (i, last, is) (k, at, found) =
    ap Some (is ∙ ap (match_at lists) (only_one p lists.items i k last found ∙ sym (at ∙ from_0 k)))

pub one : (lists : TransitionValues) (p : PropertyId) (m : Option MatchedItem) → IsMatchOf lists p m ↔ (m ≡ match_of lists p)
one lists p m =
    (λ h. same lists p m (last_named p lists.items) h (finds 0 p lists.items), λ e. subst (IsMatchOf lists p) (sym e) (matches lists p))

pub named_last : (p : PropertyId) (items : List PropertyItem) (x : PropertyItem) → IsTrue (names x p) → last_named p (items ++ x ∷ []) ≡ Some (length items)
named_last p items x e = with_one_more 0 p items x ∙ ap (λ b. if b then Some (0 + length items) else last_named_from 0 p items) e ∙ ap Some (from_0 (length items))

-- the last that names the property among one item more
pub next : (p : PropertyId) (xs : List PropertyItem) (i : ℕ) (d : PropertyItem) → i < length xs
    → (if names (get_or xs i d) p then Some i else last_named p (take i xs)) ≡ last_named p (take (i + 1) xs)
next p xs i d within =
    let items : take (i + 1) xs ≡ take i xs ++ get_or xs i d ∷ [] = take_more xs i d within in
    let many : length (take i xs) ≡ i = length-take-le i xs (omega arith) in
    sym (ap (last_named p) items ∙ with_one_more 0 p (take i xs) (get_or xs i d)
    ∙ ap (λ m. if names (get_or xs i d) p then Some m else last_named p (take i xs)) (from_0 (length (take i xs)) ∙ many))
