-- Lists: their splits, and the first element that passes.
use Rattle.std.proofs.Common.{◌≡◌, ℕ, ◌+◌, ◌<◌, ◌||◌, Bool, true, false, not, cond, Some, None, List, [], ◌∷◌, ◌++◌, map, length, take, drop, get_or, zero, suc, refl, sym, ap, ◌∙◌, inl, inr, arith, is_some}
use Rattle.std.specs.Prelude.{nat_lt}
use Rattle.std.specs.List.{list_any, find, prefix_len, position, position_or_len}
use Rattle.std.proofs.lemmas.Bool.{cases_Bool, ltb-true, lt-ltb, or_parts, or_from}
use Rattle.std.proofs.lemmas.Bool.Decides.{nat_tests}
use Rattle.std.proofs.lemmas.List.{length-map, length-append}

pub list_any-map : {X Y : Type 0} (p : Y → Bool) (f : X → Y) (xs : List X) → list_any p (map f xs) ≡ list_any (λ x. p (f x)) xs
list_any-map p f [] = refl
list_any-map p f (x ∷ xs) = ap (λ (b : Bool). p (f x) || b) (list_any-map p f xs)

pub prefix_len-map : {X Y : Type 0} (p : Y → Bool) (f : X → Y) (xs : List X) → prefix_len p (map f xs) ≡ prefix_len (λ x. p (f x)) xs
prefix_len-map p f [] = refl
prefix_len-map p f (x ∷ xs) = ap (λ (n : ℕ). cond (p (f x)) (1 + n) 0) (prefix_len-map p f xs)

pub position-map : {X Y : Type 0} (p : Y → Bool) (f : X → Y) (xs : List X) → position p (map f xs) ≡ position (λ x. p (f x)) xs
position-map p f xs = rw (prefix_len-map (λ y. not (p y)) f xs, length-map xs f) refl

-- an element passes exactly where there is a first that does
passes_before_end : {X : Type 0} (p : X → Bool) (xs : List X) → nat_lt (position_or_len p xs) (length xs) ≡ list_any p xs
passes_before_end p [] = refl
passes_before_end p (x ∷ xs) =
    elim (cases_Bool (p x)) [
      | inl holds ↦ rw (holds) (lt-ltb 0 (length (x ∷ xs)) (omega arith))
      | inr other ↦ rw (other) (sym (same_test (position_or_len p xs) (length xs)) ∙ passes_before_end p xs)
    ]
  where
    same_test : (m n : ℕ) → nat_lt m n ≡ nat_lt (1 + m) (suc n)
    same_test m n = grind (arith, nat_tests)

pub is_some-position : {X : Type 0} (p : X → Bool) (xs : List X) → is_some (position p xs) ≡ list_any p xs
is_some-position p xs =
    elim (cases_Bool (nat_lt (position_or_len p xs) (length xs))) [
      | inl within ↦ rw within (sym within ∙ passes_before_end p xs)
      | inr past ↦ rw past (sym past ∙ passes_before_end p xs)
    ]

-- the list, split at its element at k, which passes
pub record SplitsAt {X : Type 0} (p : X → Bool) (xs : List X) (k : ℕ) : Type 0 where
  pub front : List X
  pub item : X
  pub back : List X
  pub is : xs ≡ front ++ item ∷ back
  pub at : length front ≡ k
  pub passes : p item ≡ true
  pub none_before : list_any p front ≡ false

splits_at : {X : Type 0} (p : X → Bool) (xs : List X) (k : ℕ) → k ≡ position_or_len p xs → k < length xs → SplitsAt p xs k
splits_at p [] k is within = absurd (omega arith)
splits_at p (x ∷ xs) k is within =
    elim (cases_Bool (p x)) [
      | inl holds ↦ record { front = []; item = x; back = xs; is = refl; at = sym (is ∙ rw holds refl); passes = holds; none_before = refl }
      | inr other ↦
          let one : k ≡ suc (position_or_len p xs) = is ∙ (rw other (omega arith)) in
          let rest = splits_at p xs (position_or_len p xs) refl (omega arith) in
          record { front = x ∷ rest.front; item = rest.item; back = rest.back; is = ap (λ ys. x ∷ ys) rest.is; at = ap (λ (n : ℕ). suc n) rest.at ∙ sym one; passes = rest.passes; none_before = or_from _ _ other rest.none_before }
    ]

-- the first element that passes splits the list
pub splits_at_position : {X : Type 0} (p : X → Bool) (xs : List X) (k : ℕ) → position p xs ≡ Some k → SplitsAt p xs k
splits_at_position p xs k is =
    elim (cases_Bool (nat_lt (position_or_len p xs) (length xs))) [
      | inl within ↦
          let e : Some (position_or_len p xs) ≡ Some k = rw within at is in
          let same : position_or_len p xs ≡ k = cc in
          splits_at p xs k (sym same) (omega (arith, ltb-true _ _ within))
      | inr past ↦ let e : None ≡ Some k = rw past at is in cc
    ]

-- two splits of a list at one length are the same
pub record SameParts {X : Type 0} (xs ys us vs : List X) : Type 0 where
  pub fronts : xs ≡ us
  pub backs : ys ≡ vs

pub same_parts : {X : Type 0} (xs ys us vs : List X) → length xs ≡ length us → xs ++ ys ≡ us ++ vs → SameParts xs ys us vs
same_parts [] ys [] vs n e = record { fronts = refl; backs = e }
same_parts [] ys (u ∷ us) vs n e = absurd (omega arith)
same_parts (x ∷ xs) ys [] vs n e = absurd (omega arith)
same_parts (x ∷ xs) ys (u ∷ us) vs n e =
    let rest = same_parts xs ys us vs (omega arith) (cc) in
    let fronts = rest.fronts in
    record { fronts = cc; backs = rest.backs }

-- past the first list a cut is one of the second
pub take_past : {X : Type 0} (xs ys : List X) (n k : ℕ) → n ≡ length xs + k → take n (xs ++ ys) ≡ xs ++ take k ys
take_past [] ys n k is = ap (λ (m : ℕ). take m ys) (omega arith)
take_past (x ∷ xs) ys zero k is = absurd (omega arith)
take_past (x ∷ xs) ys (suc n) k is = ap (λ zs. x ∷ zs) (take_past xs ys n k (omega arith))

pub drop_past : {X : Type 0} (xs ys : List X) (n k : ℕ) → n ≡ length xs + k → drop n (xs ++ ys) ≡ drop k ys
drop_past [] ys n k is = ap (λ (m : ℕ). drop m ys) (omega arith)
drop_past (x ∷ xs) ys zero k is = absurd (omega arith)
drop_past (x ∷ xs) ys (suc n) k is = drop_past xs ys n k (omega arith)

pub get_or_at : {X : Type 0} (xs ys : List X) (y d : X) (n : ℕ) → length xs ≡ n → get_or (xs ++ y ∷ ys) n d ≡ y
get_or_at [] ys y d zero is = refl
get_or_at [] ys y d (suc n) is = absurd (omega arith)
get_or_at (x ∷ xs) ys y d zero is = absurd (omega arith)
get_or_at (x ∷ xs) ys y d (suc n) is = get_or_at xs ys y d n (omega arith)

-- the first element that passes is found
pub find-split : {X : Type 0} (p : X → Bool) (front : List X) (item : X) (back : List X) → list_any p front ≡ false → p item ≡ true → find p (front ++ item ∷ back) ≡ Some item
find-split p [] item back none passes = rw passes refl
find-split p (x ∷ front) item back none passes =
    let parts = or_parts (p x) (list_any p front) none in
    rw (parts.0) (find-split p front item back parts.1 passes)

pub find-none : {X : Type 0} (p : X → Bool) (xs : List X) → list_any p xs ≡ false → find p xs ≡ None
find-none p [] none = refl
find-none p (x ∷ xs) none =
    let parts = or_parts (p x) (list_any p xs) none in
    rw (parts.0) (find-none p xs parts.1)

prefix-split : {X : Type 0} (p : X → Bool) (front : List X) (item : X) (back : List X) → list_any p front ≡ false → p item ≡ true → position_or_len p (front ++ item ∷ back) ≡ length front
prefix-split p [] item back none passes = rw passes refl
prefix-split p (x ∷ front) item back none passes =
    let parts = or_parts (p x) (list_any p front) none in
    let rest = prefix-split p front item back parts.1 passes in
    rw (parts.0) (omega arith)

-- the position of the first element that passes
pub position-split : {X : Type 0} (p : X → Bool) (front : List X) (item : X) (back : List X) → list_any p front ≡ false → p item ≡ true → position p (front ++ item ∷ back) ≡ Some (length front)
position-split p front item back none passes =
    rw (prefix-split p front item back none passes, lt-ltb (length front) (length (front ++ item ∷ back)) (omega (arith, length-append front (item ∷ back)))) refl
