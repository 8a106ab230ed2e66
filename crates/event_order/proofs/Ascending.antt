-- Events by strictly ascending keys.
use Rattle.std.proofs.Common.{◌≡◌, zero, suc, refl, sym, ◌∙◌, ap, subst, arith, get_or, false}
use Rattle.std.specs.Prelude.{◌⊎◌, List, [], ◌∷◌, AllPairs}
use Rattle.std.proofs.Common.{inl, inr}
use Rattle.std.specs.List.{Contains, IsDistinct}
use Rattle.std.specs.List.Sorted.{IsSortedBy}
use Rattle.std.specs.Ordering.{eq_by_cmp, is_eq, is_lt, ordering_reverse}
use Rattle.std.specs.declared.cmp.Ordering.{Ordering}
use Rattle.std.specs.declared.cmp.Ordering.TheVariants.{Less, Equal, Greater}
use Rattle.std.proofs.lemmas.Cmp.{tied_itself}
use Rattle.std.proofs.lemmas.List.Sorted.{ranks_by, sorted_far}
use Rattle.std.proofs.lemmas.Map.Keys.{apart_from_distinct}
use Rattle.style_data.specs.Events.{key_order}
use Rattle.style_data.specs.declared.event.Event.{Event}
use Rattle.event_order.proofs.KeyLemmas.{keys_total}

-- sorted events whose keys differ ascend strictly
pub ascends : (xs : List Event) → IsSortedBy (λ a b. is_lt (key_order a.key b.key)) xs → IsDistinct (λ a b. eq_by_cmp key_order a.key b.key) xs
    → AllPairs (λ a b. key_order a.key b.key ≡ Less) xs
ascends xs sorted distinct i j d less short =
    less_of (get_or xs i d) (get_or xs j d)
    (sorted_far (λ a b. is_lt (key_order a.key b.key)) (ranks_by keys_total (λ e. e.key)) xs sorted i j d (omega (arith, less)) short)
    (apart_from_distinct (λ a b. eq_by_cmp key_order a.key b.key) xs i j d distinct less short)
  where
    by_order : (o back : Ordering) → o ≡ ordering_reverse back → is_lt back ≡ false → is_eq o ≡ false → o ≡ Less
    by_order Less back e not_less apart = refl
    by_order Equal back e not_less apart = absurd (cc)
    by_order Greater Less e not_less apart = absurd (cc)
    by_order Greater Equal e not_less apart = absurd (cc)
    by_order Greater Greater e not_less apart = absurd (cc)

    less_of : (a b : Event) → is_lt (key_order b.key a.key) ≡ false → eq_by_cmp key_order a.key b.key ≡ false → key_order a.key b.key ≡ Less
    less_of a b not_less apart = by_order (key_order a.key b.key) (key_order b.key a.key) (keys_total.antisymm a.key b.key) not_less apart

-- ---- strictly ascending lists of the same events are the same

abbrev Ascends : List Event → Type 0
Ascends xs = AllPairs (λ a b. key_order a.key b.key ≡ Less) xs

tail_ascends : (x : Event) (xs : List Event) → Ascends (x ∷ xs) → Ascends xs
tail_ascends x xs all i j d less short = all (suc i) (suc j) d (omega (arith, less)) (omega (arith, short))

first_less : (x : Event) (xs : List Event) (e : Event) → Ascends (x ∷ xs) → Contains xs e → key_order x.key e.key ≡ Less
first_less x xs e all (k, l, is) = subst (λ (y : Event). key_order x.key y.key ≡ Less) is (all 0 (suc k) e (omega arith) (omega (arith, l)))

-- the first one, or one of the others
first_or_other : (x : Event) (xs : List Event) (e : Event) → Contains (x ∷ xs) e → (x ≡ e) ⊎ Contains xs e
first_or_other x xs e (zero, l, is) = inl is
first_or_other x xs e (suc k, l, is) = inr (k, omega (arith, l), is)

never_both : (x y : Event) → key_order x.key y.key ≡ Less → key_order y.key x.key ≡ Less → ⊥
never_both x y less back =
    let h : Less ≡ Greater = sym less ∙ keys_total.antisymm x.key y.key ∙ ap ordering_reverse back in cc

never_itself : (x : Event) → key_order x.key x.key ≡ Less → ⊥
never_itself x less = let h : Less ≡ Equal = sym less ∙ tied_itself keys_total x.key in cc

same_first : (x y : Event) (xs ys : List Event) → Ascends (x ∷ xs) → Ascends (y ∷ ys) → (x ≡ y) ⊎ Contains xs y → (y ≡ x) ⊎ Contains ys x → x ≡ y
same_first x y xs ys ax ay (inl same) other = same
same_first x y xs ys ax ay (inr later) (inl same) = sym same
same_first x y xs ys ax ay (inr later) (inr back) = absurd (never_both x y (first_less x xs y ax later) (first_less y ys x ay back))

-- what is in the rest of one is in the rest of the other
in_rest : (x y : Event) (xs ys : List Event) (e : Event) → Ascends (x ∷ xs) → x ≡ y → Contains xs e → (y ≡ e) ⊎ Contains ys e → Contains ys e
in_rest x y xs ys e ax same there (inl first) =
    absurd (never_itself x (subst (λ (z : Event). key_order x.key z.key ≡ Less) (sym (same ∙ first)) (first_less x xs e ax there)))
in_rest x y xs ys e ax same there (inr other) = other

contained_later : (x : Event) (xs : List Event) (e : Event) → Contains xs e → Contains (x ∷ xs) e
contained_later x xs e (k, l, is) = (suc k, omega (arith, l), is)

pub one_order : (xs ys : List Event) → AllPairs (λ a b. key_order a.key b.key ≡ Less) xs → AllPairs (λ a b. key_order a.key b.key ≡ Less) ys
    → ((e : Event) → Contains xs e → Contains ys e) → ((e : Event) → Contains ys e → Contains xs e) → xs ≡ ys
one_order [] [] ax ay there back = refl
one_order [] (y ∷ ys) ax ay there back = absurd (none (back y (0, omega arith, refl))) where
  none : Contains [] y → ⊥
  none (k, l, is) = omega (arith, l)
one_order (x ∷ xs) [] ax ay there back = absurd (none (there x (0, omega arith, refl))) where
  none : Contains [] x → ⊥
  none (k, l, is) = omega (arith, l)
one_order (x ∷ xs) (y ∷ ys) ax ay there back =
    let same : x ≡ y = same_first x y xs ys ax ay (first_or_other x xs y (back y (0, omega arith, refl))) (first_or_other y ys x (there x (0, omega arith, refl))) in
    let rest : xs ≡ ys =
    one_order xs ys (tail_ascends x xs ax) (tail_ascends y ys ay)
    (λ e has. in_rest x y xs ys e ax same has (first_or_other y ys e (there e (contained_later x xs e has))))
    (λ e has. in_rest y x ys xs e ay (sym same) has (first_or_other x xs e (back e (contained_later y ys e has)))) in
    ap (λ z. z ∷ xs) same ∙ ap (λ l. y ∷ l) rest
