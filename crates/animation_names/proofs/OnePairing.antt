-- One pairing.
use Rattle.std.proofs.Common.{◌≡◌, ◌∙◌, ℕ, zero, suc, ◌+◌, ◌<◌, ◌≤◌, refl, sym, ap, subst, arith, inl, inr}
use Rattle.std.specs.Prelude.{List, Option, None, Some}
use Rattle.std.proofs.lemmas.Bool.{cases_order}
use Rattle.animation_names.specs.Pairings.{StandsAfter, IsPairing}

module _ (new old : ℕ → Option (List ℕ)) where
  -- the later places agree
  abbrev Agree : (takes other : ℕ → Option ℕ) → ℕ → Type 0
  Agree takes other i = (k : ℕ) → i < k → takes k ≡ other k

  -- what one takes, the other doesn't pass over for one before it
  not_before : (takes other : ℕ → Option ℕ) → IsPairing new old takes → IsPairing new old other → (i j : ℕ) → Agree takes other i
      → other i ≡ Some j → StandsAfter (takes i) j → ⊥
  not_before takes other a b i j agree e after =
      let later = a.last i j (b.named i j e) after in
      b.once i later.0 j later.1 (sym (agree later.0 later.1) ∙ later.2) e

  agree_here : (takes other : ℕ → Option ℕ) → IsPairing new old takes → IsPairing new old other → (i : ℕ) → Agree takes other i → takes i ≡ other i
  agree_here takes other a b i agree = go (takes i) refl (other i) refl where
    back : Agree other takes i
    back k less = sym (agree k less)

    go : (m : Option ℕ) → takes i ≡ m → (n : Option ℕ) → other i ≡ n → m ≡ n
    go None e None f = refl
    go None e (Some j) f = absurd (not_before takes other a b i j agree f (subst (λ o. StandsAfter o j) (sym e) tt))
    go (Some j) e None f = absurd (not_before other takes b a i j back e (subst (λ o. StandsAfter o j) (sym f) tt))
    go (Some j) e (Some k) f = elim (cases_order j k) [
      | inl same ↦ ap Some same
      | inr unlike ↦ elim unlike [
        | inl less ↦ absurd (not_before takes other a b i k agree f (subst (λ o. StandsAfter o k) (sym e) less))
        | inr more ↦ absurd (not_before other takes b a i j back e (subst (λ o. StandsAfter o j) (sym f) more))
      ]
    ]

  -- past the last name no place takes any
  past : (takes : ℕ → Option ℕ) → IsPairing new old takes → (i : ℕ) → new i ≡ None → takes i ≡ None
  past takes a i none = go (takes i) refl where
    go : (o : Option ℕ) → takes i ≡ o → o ≡ None
    go None e = refl
    go (Some j) e = let h = a.named i j e in cc

  agree_from : (takes other : ℕ → Option ℕ) → IsPairing new old takes → IsPairing new old other → (n : ℕ) → ((i : ℕ) → n ≤ i → new i ≡ None)
      → (left : ℕ) (i : ℕ) → n ≤ i + left → takes i ≡ other i
  agree_from takes other a b n ends zero i reached =
      let none = ends i (omega arith) in past takes a i none ∙ sym (past other b i none)
  agree_from takes other a b n ends (suc left) i reached =
      agree_here takes other a b i (λ k less. agree_from takes other a b n ends left k (omega arith))

  pub one_pairing : (takes other : ℕ → Option ℕ) → IsPairing new old takes → IsPairing new old other → (n : ℕ) → ((i : ℕ) → n ≤ i → new i ≡ None)
      → (i : ℕ) → takes i ≡ other i
  one_pairing takes other a b n ends i = agree_from takes other a b n ends n i (omega arith)
