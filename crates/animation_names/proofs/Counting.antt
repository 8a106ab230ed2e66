-- As many animations are kept and cancelled as there were.
use Rattle.std.proofs.Common.{◌≡◌, ◌∙◌, ℕ, zero, suc, ◌+◌, ◌<◌, ◌≤◌, length, refl, sym, ap, arith, inl, inr}
use Rattle.std.specs.Prelude.{◌==◌, ◌⊎◌, Bool, true, false, cond, List, [], ◌∷◌, slice_get, Option, None, Some, option_map, if◌then◌else◌}
use Rattle.std.specs.Option.{option_map_or, option_to_list}
use Rattle.std.proofs.lemmas.Bool.{eqb-true, false≢true}
use Rattle.std.proofs.lemmas.Option.{slice_get_within}
use Rattle.std.proofs.lemmas.Bool.{cases_lt}
use Rattle.style_data.specs.declared.animation.AnimationState.{AnimationState}
use Rattle.animation_names.specs.Continuing.{cancelled_animation}
use Rattle.animation_names.specs.NameLists.{NamesUpdate, name_at, old_name_at}
use Rattle.animation_names.specs.Numbered.{given_below}
use Rattle.animation_names.specs.Pairings.{IsPairing}
use Rattle.animation_names.specs.Updates.{gone_after, gone_leaving, some_takes}
use Rattle.animation_names.proofs.Keeping.{gone-by, some_takes-found}
use Rattle.animation_names.proofs.NumberedLemmas.{length-step, passing-either, passing-none, passing-one, passing_below}

-- where an item isn't there, the list has ended
past : (xs : List AnimationState) (m : ℕ) → slice_get xs m ≡ None → length xs ≤ m
past [] m e = omega arith
past (x ∷ xs) zero e = cc
past (x ∷ xs) (suc m) e = omega (arith, past xs m e)

module _ (u : NamesUpdate) (takes : ℕ → Option ℕ) (p : IsPairing (name_at u) (old_name_at u) takes) where
  -- what is taken is one of the old animations
  old_one : (i j : ℕ) → takes i ≡ Some j → j < length u.old
  old_one i j e = go (slice_get u.old j) refl (p.named i j e).2 where
    go : {n : List ℕ} (o : Option AnimationState) → slice_get u.old j ≡ o → option_map (λ a. a.name) o ≡ Some n → j < length u.old
    go None f g = cc
    go (Some a) f g = slice_get_within u.old j a f

  abbrev taken_here : ℕ → ℕ → Bool
  taken_here n j = option_map_or (λ i. i == j) (takes n) false

  here-found : (n j : ℕ) → taken_here n j ≡ true → takes n ≡ Some j
  here-found n j e = go (takes n) refl e where
    go : (o : Option ℕ) → takes n ≡ o → option_map_or (λ i. i == j) o false ≡ true → takes n ≡ Some j
    go None f e = absurd (false≢true e)
    go (Some m) f e = f ∙ ap Some (eqb-true m j e)

  here-count : (n : ℕ) → passing_below (λ j. taken_here n j) (length u.old) ≡ length (option_to_list (takes n))
  here-count n = go (takes n) refl where
    go : (o : Option ℕ) → takes n ≡ o → passing_below (λ j. option_map_or (λ i. i == j) o false) (length u.old) ≡ length (option_to_list o)
    go None e = passing-none (length u.old)
    go (Some m) e = passing-one m (length u.old) (old_one n m e)

  taken-count : (n : ℕ) → length (given_below takes n) ≡ passing_below (λ j. some_takes takes n j) (length u.old)
  unfolding given_below
  taken-count zero = sym (passing-none (length u.old))
  taken-count (suc n) =
      let either = passing-either (λ j. some_takes takes (suc n) j) (λ j. taken_here n j) (λ j. some_takes takes n j) (λ j. refl)
      (λ j e f. let r = some_takes-found takes n j f in p.once r.0 n j r.1 (here-found n j e) r.2) (length u.old) in
      omega (arith, either, taken-count n, here-count n, length-step takes n)

  gone-count : (m : ℕ) → m ≤ length u.old → length (given_below (gone_leaving u takes) m) + passing_below (λ j. some_takes takes (length u.lists.names) j) m ≡ m
  unfolding given_below passing_below
  gone-count zero within = refl
  gone-count (suc m) within =
      let so_far = gone-count m (omega arith) in
      let one = one_of (some_takes takes (length u.lists.names) m) (slice_get u.old m) refl in
      omega (arith, so_far, one, length-step (gone_leaving u takes) m) where
        one_of : (b : Bool) (o : Option AnimationState) → slice_get u.old m ≡ o
            → length (option_to_list (if b then None else option_map (cancelled_animation u.time) o)) + cond b 1 0 ≡ 1
        one_of true o e = refl
        one_of false (Some a) e = refl
        one_of false None e = absurd (nowhere (cases_lt m (length u.old))) where
          nowhere : (m < length u.old) ⊎ (length u.old ≤ m) → ⊥
          nowhere (inl less) = let x : length u.old ≤ m = past u.old m e in omega arith
          nowhere (inr more) = omega arith

  pub all_counted : length (given_below takes (length u.lists.names)) + length (gone_after u) ≡ length u.old
  all_counted =
      omega (arith, taken-count (length u.lists.names), gone-count (length u.old) (omega arith), ap length (gone-by u takes p))
