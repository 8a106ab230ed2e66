-- What a list gives of its items.
use Rattle.std.proofs.Common.{◌≡◌, ℕ, zero, suc, refl, sym, ◌∙◌, ap, subst, arith}
use Rattle.std.specs.Prelude.{List, [], ◌∷◌, Option, None, Some, slice_get}
use Rattle.std.specs.List.{Contains, cons_option, filter_map}

-- where nothing is given of any item, nothing is
pub nothing_given : {X Y : Type 0} (h : X → Option Y) (xs : List X) → ((x : X) → h x ≡ None) → filter_map h xs ≡ []
nothing_given h [] none = refl
nothing_given h (x ∷ xs) none = ap (λ o. cons_option o (filter_map h xs)) (none x) ∙ nothing_given h xs none

-- what is given is given of an item
pub given_of : {X Y : Type 0} (h : X → Option Y) (xs : List X) (y : Y) → Contains (filter_map h xs) y → (x : X) × (h x ≡ Some y)
given_of h [] y (k, l, e) = absurd (omega (arith, l))
given_of {X} {Y} h (x ∷ xs) y there = go (h x) refl there (given_of h xs y) where
  go : (o : Option Y) → h x ≡ o → Contains (cons_option o (filter_map h xs)) y → (Contains (filter_map h xs) y → (x : X) × (h x ≡ Some y)) → (x : X) × (h x ≡ Some y)
  go None is there later = later there
  go (Some z) is (zero, l, e) later = (x, is ∙ ap Some e)
  go (Some z) is (suc k, l, e) later = later (k, omega (arith, l), e)

contained_after : {Y : Type 0} (o : Option Y) (ys : List Y) (y : Y) → Contains ys y → Contains (cons_option o ys) y
contained_after None ys y there = there
contained_after (Some z) ys y (k, l, e) = (suc k, omega (arith, l), e)

-- what is given of an item is there
pub is_given : {X Y : Type 0} (h : X → Option Y) (xs : List X) (i : ℕ) (x : X) (y : Y) → slice_get xs i ≡ Some x → h x ≡ Some y → Contains (filter_map h xs) y
is_given h [] i x y at gives = cc
is_given h (z ∷ xs) zero x y at gives =
    let same : z ≡ x = cc in
    subst (λ o. Contains (cons_option o (filter_map h xs)) y) (sym (ap h same ∙ gives)) (0, omega arith, refl)
is_given h (z ∷ xs) (suc i) x y at gives = contained_after (h z) (filter_map h xs) y (is_given h xs i x y at gives)
