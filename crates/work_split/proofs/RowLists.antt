-- Where elements stand in lists by elements.
use Rattle.std.proofs.Common.{◌≡◌, ℕ, zero, suc, ◌+◌, refl, ap, sym, subst, ◌∙◌, arith, List, ◌∷◌, [], map, take, drop, true, false, Option, None, Some}
use Rattle.std.specs.Prelude.{slice_get, IfSome, IsNone, IsSome}
use Rattle.std.specs.Option.{unwrap_or}
use Rattle.std.proofs.lemmas.List.{take-append-drop}
use Rattle.pass_core.specs.Passes.{value_for}
use Rattle.pass_core.proofs.ListsByElement.{value_for-append_none}

module _ {X : Type 0} (f : X → ℕ) (e : ℕ) where
  -- an index in what stands from an index on
  pub row_behind : (xs : List X) (from i j : ℕ) → j ≡ from + i → slice_get (map f (drop from xs)) i ≡ Some e → slice_get (map f xs) j ≡ Some e
  row_behind xs zero i j is h = let same : i ≡ j = omega (arith, is) in subst (λ k. slice_get (map f xs) k ≡ Some e) same h
  row_behind [] (suc from) i j is h = absurd (cc)
  row_behind (x ∷ xs) (suc from) i zero is h = absurd (omega (arith, is))
  row_behind (x ∷ xs) (suc from) i (suc j) is h = row_behind xs from i j (omega (arith, is)) h

  -- an index in what stands before an index
  pub row_before : (xs : List X) (n i : ℕ) → slice_get (map f (take n xs)) i ≡ Some e → slice_get (map f xs) i ≡ Some e
  row_before xs zero i h = absurd (cc)
  row_before [] (suc n) i h = h
  row_before (x ∷ xs) (suc n) zero h = h
  row_before (x ∷ xs) (suc n) (suc i) h = row_before xs n i h

-- an element that doesn't stand from an index on stands before it
pub row_wrapped : {X : Type 0} (xs : List (ℕ × X)) (from e r : ℕ) (o : Option ℕ) → IsSome (value_for xs e) → value_for (drop from xs) e ≡ None
    → IfSome o (λ i. slice_get (map (λ x. x.0) (take from xs)) i ≡ Some e) → (IsNone o → value_for (take from xs) e ≡ None) → r ≡ unwrap_or o 0
    → slice_get (map (λ x. x.0) xs) r ≡ Some e
row_wrapped xs from e r (Some i) there behind some none is = ap (slice_get (map (λ x. x.0) xs)) is ∙ row_before (λ x. x.0) e xs from i some
row_wrapped xs from e r None there behind some none is =
    let nowhere : value_for xs e ≡ None =
    ap (λ l. value_for l e) (sym (take-append-drop from xs)) ∙ value_for-append_none (take from xs) (drop from xs) e (none refl) ∙ behind in
    let none : false ≡ true = subst IsSome nowhere there in absurd (cc)
