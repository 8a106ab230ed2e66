-- Lists of numbers in lexicographic order, and the greatest items of a list by such keys.
use Rattle.std.specs.Prelude.{ℕ, ◌==◌, nat_lt, ◌&&◌, ◌||◌, Bool, true, false, if◌then◌else◌, List, [], ◌∷◌, All, Contains, IsTrue, Option, None, Some}

-- the first numbers decide, and where they are the same the others
abbrev pub is_at_most : List ℕ → List ℕ → Bool
is_at_most [] ys = true
is_at_most (x ∷ xs) [] = false
is_at_most (x ∷ xs) (y ∷ ys) = nat_lt x y || (x == y && is_at_most xs ys)

-- the item is in the list, and the keys of every item are at most its keys
pub record IsGreatestBy {A : Type 0} (keys : A → List ℕ) (xs : List A) (x : A) : Type 0 where
  pub among : Contains xs x
  pub most : All (λ y. IsTrue (is_at_most (keys y) (keys x))) xs

-- the item, unless the other's keys are as great
abbrev pub greater_by : {A : Type 0} → (A → List ℕ) → A → Option A → A
greater_by keys x None = x
greater_by keys x (Some y) = if is_at_most (keys x) (keys y) then y else x

-- the last item of the greatest keys
abbrev pub greatest_by : {A : Type 0} → (A → List ℕ) → List A → Option A
greatest_by keys [] = None
greatest_by keys (x ∷ xs) = Some (greater_by keys x (greatest_by keys xs))
