-- Keys in lexicographic order, and the greatest items of a list.
use Rattle.std.proofs.Common.{◌≡◌, ◌≢◌, ◌⊎◌, inl, inr, ℕ, suc, ◌<◌, ◌==◌, Bool, true, false, ◌&&◌, ◌||◌, List, [], ◌∷◌, ◌++◌, length, refl, ap, sym, ◌∙◌, subst, arith, rules, cond}
use Rattle.std.specs.Prelude.{Contains, nat_lt, Option, None, Some}
use Rattle.std.proofs.lemmas.List.Elements.{All-cons, All-contains, All-nil, All-weaker}
use Rattle.cascade_sort.specs.Lexicographic.{IsGreatestBy, greater_by, greatest_by, is_at_most}

-- ---- one number, and the rest

abbrev pub test_of : ℕ → ℕ → Bool → Bool
test_of x y rest = nat_lt x y || (x == y && rest)

-- the first number is less, or the same and the rest passes
pub cases_of : (x y : ℕ) (rest : Bool) → test_of x y rest ≡ true → (x < y) ⊎ ((x ≡ y) × (rest ≡ true))
cases_of x y true is = grind (arith, rules)
cases_of x y false is = grind (arith, rules)

pub test_less : (x y : ℕ) (rest : Bool) → x < y → test_of x y rest ≡ true
test_less x y rest less = grind (arith, rules)

pub test_same : (x y : ℕ) (rest : Bool) → x ≡ y → rest ≡ true → test_of x y rest ≡ true
test_same x y rest same is = grind (arith, rules)

pub same_first : (x y : ℕ) (rest : Bool) → x ≡ y → test_of x y rest ≡ rest
same_first x y true same = test_same x y true same refl
same_first x y false same = grind (arith, rules)

pub apart_first : (x y : ℕ) (rest : Bool) → x ≢ y → test_of x y rest ≡ nat_lt x y
apart_first x y true apart = grind (arith, rules)
apart_first x y false apart = grind (arith, rules)

-- ---- the order

pub at_most_itself : (xs : List ℕ) → is_at_most xs xs ≡ true
at_most_itself [] = refl
at_most_itself (x ∷ xs) = test_same x x (is_at_most xs xs) refl (at_most_itself xs)

pub at_most_trans : (xs ys zs : List ℕ) → is_at_most xs ys ≡ true → is_at_most ys zs ≡ true → is_at_most xs zs ≡ true
at_most_trans [] ys zs p q = refl
at_most_trans (x ∷ xs) [] zs p q = absurd (cc)
at_most_trans (x ∷ xs) (y ∷ ys) [] p q = absurd (cc)
at_most_trans (x ∷ xs) (y ∷ ys) (z ∷ zs) p q =
    elim (cases_of x y (is_at_most xs ys) p) [
      | inl less ↦ elim (cases_of y z (is_at_most ys zs) q) [
        | inl more ↦ test_less x z (is_at_most xs zs) (omega arith)
        | inr (same, rest) ↦ test_less x z (is_at_most xs zs) (omega arith)
      ]
      | inr (same, rest) ↦ elim (cases_of y z (is_at_most ys zs) q) [
        | inl more ↦ test_less x z (is_at_most xs zs) (omega arith)
        | inr (also, others) ↦ test_same x z (is_at_most xs zs) (same ∙ also) (at_most_trans xs ys zs rest others)
      ]
    ]

-- of two lists of one length that are at most each other
pub at_most_both : (xs ys : List ℕ) → length xs ≡ length ys → is_at_most xs ys ≡ true → is_at_most ys xs ≡ true → xs ≡ ys
at_most_both [] [] count p q = refl
at_most_both [] (y ∷ ys) count p q = absurd (omega arith)
at_most_both (x ∷ xs) [] count p q = absurd (omega arith)
at_most_both (x ∷ xs) (y ∷ ys) count p q =
    elim (cases_of x y (is_at_most xs ys) p) [
      | inl less ↦ elim (cases_of y x (is_at_most ys xs) q) [
        | inl more ↦ absurd (omega arith)
        | inr (same, rest) ↦ absurd (omega arith)
      ]
      | inr (same, rest) ↦ elim (cases_of y x (is_at_most ys xs) q) [
        | inl more ↦ absurd (omega arith)
        | inr (also, others) ↦ (let tail : xs ≡ ys = at_most_both xs ys (omega arith) rest others in cc)
      ]
    ]

-- the same numbers after both change nothing
pub at_most_before : (xs ys zs : List ℕ) → length xs ≡ length ys → is_at_most xs ys ≡ true → is_at_most (xs ++ zs) (ys ++ zs) ≡ true
at_most_before [] [] zs count p = at_most_itself zs
at_most_before [] (y ∷ ys) zs count p = absurd (omega arith)
at_most_before (x ∷ xs) [] zs count p = absurd (omega arith)
at_most_before (x ∷ xs) (y ∷ ys) zs count p =
    elim (cases_of x y (is_at_most xs ys) p) [
      | inl less ↦ test_less x y (is_at_most (xs ++ zs) (ys ++ zs)) less
      | inr (same, rest) ↦ test_same x y (is_at_most (xs ++ zs) (ys ++ zs)) same (at_most_before xs ys zs (omega arith) rest)
    ]

pub compared : (x y : ℕ) → (x < y) ⊎ ((y < x) ⊎ (x ≡ y))
compared x y = grind (arith, rules)

-- of two lists one is at most the other
pub at_most_total : (xs ys : List ℕ) → is_at_most xs ys ≡ false → is_at_most ys xs ≡ true
at_most_total [] ys p = absurd (cc)
at_most_total (x ∷ xs) [] p = refl
at_most_total (x ∷ xs) (y ∷ ys) p =
    elim (compared x y) [
      | inl less ↦ absurd (let yes : test_of x y (is_at_most xs ys) ≡ true = test_less x y (is_at_most xs ys) less in cc)
      | inr more ↦ elim more [
        | inl less ↦ test_less y x (is_at_most ys xs) less
        | inr same ↦ test_same y x (is_at_most ys xs) (sym same) (at_most_total xs ys (rest_fails x y (is_at_most xs ys) same p))
      ]
    ]
  where
    rest_fails : (x y : ℕ) (rest : Bool) → x ≡ y → test_of x y rest ≡ false → rest ≡ false
    rest_fails x y true same p = absurd (let yes : test_of x y true ≡ true = test_same x y true same refl in cc)
    rest_fails x y false same p = refl

-- ---- the greatest items

-- the one is at most the other
abbrev pub IsBelow : {A : Type 0} → (A → List ℕ) → A → A → Type 0
IsBelow keys x y = is_at_most (keys x) (keys y) ≡ true

greater_than : {A : Type 0} (keys : A → List ℕ) (x y : A) (xs : List A) (b : Bool) → is_at_most (keys x) (keys y) ≡ b → IsGreatestBy keys xs y
    → IsGreatestBy keys (x ∷ xs) (cond b y x)
greater_than keys x y xs true is g =
    let (k, within, there) = g.among in
    record { among = (suc k, omega arith, there); most = All-cons (λ z. IsBelow keys z y) x xs is g.most }
greater_than keys x y xs false is g = record {
  among = (0, omega arith, refl);
  most = All-cons (λ z. IsBelow keys z x) x xs (at_most_itself (keys x))
      (All-weaker (λ z. IsBelow keys z y) (λ z. IsBelow keys z x) (λ z below. at_most_trans (keys z) (keys y) (keys x) below (at_most_total (keys x) (keys y) is)) xs g.most);
}

-- the one item is the greatest; there is none where the list is empty
abbrev pub TellsGreatest : {A : Type 0} → (A → List ℕ) → List A → Option A → Type 0
TellsGreatest keys xs None = xs ≡ []
TellsGreatest keys xs (Some x) = IsGreatestBy keys xs x

greatest_step : {A : Type 0} (keys : A → List ℕ) (x : A) (xs : List A) (o : Option A) → TellsGreatest keys xs o → IsGreatestBy keys (x ∷ xs) (greater_by keys x o)
greatest_step {A} keys x xs None empty =
    subst (λ (ys : List A). IsGreatestBy keys (x ∷ ys) x) (sym empty) record {
      among = (0, omega arith, refl);
      most = All-cons (λ z. IsBelow keys z x) x [] (at_most_itself (keys x)) (All-nil (λ z. IsBelow keys z x));
    }
greatest_step keys x xs (Some y) g = greater_than keys x y xs (is_at_most (keys x) (keys y)) refl g

pub greatest_tells : {A : Type 0} (keys : A → List ℕ) (xs : List A) → TellsGreatest keys xs (greatest_by keys xs)
greatest_tells keys [] = refl
greatest_tells keys (x ∷ xs) = greatest_step keys x xs (greatest_by keys xs) (greatest_tells keys xs)

-- of some items there is a greatest
pub some_greatest : {A : Type 0} (keys : A → List ℕ) (xs : List A) (y : A) → Contains xs y → (x : A) × (greatest_by keys xs ≡ Some x) × IsGreatestBy keys xs x
some_greatest keys [] y (k, within, there) = absurd (omega (arith, within))
some_greatest keys (x ∷ xs) y among = (greater_by keys x (greatest_by keys xs), refl, greatest_tells keys (x ∷ xs))

-- ---- one item of each key

-- items of the same keys are the same
abbrev pub AreTold : {A : Type 0} → (A → List ℕ) → List A → Type 0
AreTold {A} keys xs = (x y : A) → Contains xs x → Contains xs y → keys x ≡ keys y → x ≡ y

pub one_greatest : {A : Type 0} (keys : A → List ℕ) (count : ℕ) → ((x : A) → length (keys x) ≡ count) → (xs : List A) → AreTold keys xs → (x y : A)
    → IsGreatestBy keys xs x → IsGreatestBy keys xs y → x ≡ y
one_greatest keys count each xs told x y g h =
    told x y g.among h.among
    (at_most_both (keys x) (keys y) (each x ∙ sym (each y))
    (All-contains (λ z. IsBelow keys z y) xs x h.most g.among)
    (All-contains (λ z. IsBelow keys z x) xs y g.most h.among))

-- the greatest item is what the function gives
pub greatest_by_is : {A : Type 0} (keys : A → List ℕ) (count : ℕ) → ((x : A) → length (keys x) ≡ count) → (xs : List A) → AreTold keys xs → (x : A)
    → IsGreatestBy keys xs x → greatest_by keys xs ≡ Some x
greatest_by_is keys count each xs told x g =
    let (y, is, h) = some_greatest keys xs x g.among in
    is ∙ ap Some (one_greatest keys count each xs told y x h g)
