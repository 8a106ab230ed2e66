-- The update of one property after another.
use Rattle.std.proofs.Common.{◌≡◌, ℕ, ◌+◌, ◌<◌, ◌≤◌, ◌++◌, refl, sym, ◌∙◌, ap, subst, arith, take, get_or, length, append-nil}
use Rattle.std.specs.Prelude.{List, [], ◌∷◌, Option, None, Some, All, option_map, option_to_list}
use Rattle.std.specs.List.{cons_option, filter_map}
use Rattle.std.proofs.lemmas.List.{take_more}
use Rattle.std.proofs.lemmas.List.Elements.{All-push, filter_map-append}
use Rattle.computed_style.proofs.ByIndex.{number-property_at, property_at}
use Rattle.style_data.specs.TransitionSets.{ComesLast, TransitionSet, kept_with, no_transitions, with_last}
use Rattle.style_data.specs.declared.gone.Gone.{Gone}
use Rattle.value_types.specs.Properties.{all_properties, number_of}
use Rattle.value_types.specs.declared.property.PropertyId.{PropertyId}
use Rattle.value_types.specs.declared.property.PropertyId.TheVariants.{BackgroundColor}
use Rattle.transition_update.specs.Updates.{StyleChange, decision_for}

-- what one item gives
one_gives : {Y : Type 0} (o : Option Y) → cons_option o [] ≡ option_to_list o
one_gives None = refl
one_gives (Some y) = refl

-- what the items up to the next one give
gives_more : {X Y : Type 0} (h : X → Option Y) (xs : List X) (i : ℕ) (d : X) → i < length xs
    → filter_map h (take (i + 1) xs) ≡ filter_map h (take i xs) ++ option_to_list (h (get_or xs i d))
gives_more h xs i d less =
    ap (filter_map h) (take_more xs i d less) ∙ filter_map-append h (take i xs) (get_or xs i d ∷ [])
    ∙ ap (λ l. filter_map h (take i xs) ++ l) (one_gives (h (get_or xs i d)))

-- a list with this after it, where there is one
last_is : {A : Type 0} (p : PropertyId) (o : Option A) (kept : List (PropertyId × A)) → with_last p o kept ≡ kept ++ option_to_list (option_map (λ a. (p, a)) o)
last_is p None kept = sym (append-nil kept)
last_is p (Some a) kept = refl

-- the first i properties are updated
pub record Updating (x : StyleChange) (ts : TransitionSet) (i : ℕ) (now : TransitionSet) (gone : List Gone) : Type 0 where
  pub running : now.running ≡ filter_map (λ p. option_map (λ r. (p, r)) (decision_for x ts p).running) (take i all_properties)
  pub completed : now.completed ≡ filter_map (λ p. option_map (λ c. (p, c)) (decision_for x ts p).completed) (take i all_properties)
  pub cancelled : gone ≡ filter_map (λ p. (decision_for x ts p).gone) (take i all_properties)
  pub last : (p : PropertyId) → i ≤ number_of p → ComesLast p now

pub nothing_updated : (x : StyleChange) (ts : TransitionSet) → Updating x ts 0 no_transitions []
nothing_updated x ts = record {
  running = refl;
  completed = refl;
  cancelled = refl;
  last = λ p less. record { running = λ k d l. absurd (omega (arith, l)); completed = λ k d l. absurd (omega (arith, l)) };
}

-- those of smaller numbers, and one more
last_more : {A : Type 0} (n : ℕ) (q : PropertyId) (o : Option A) (kept : List (PropertyId × A)) → All (λ k. number_of k.0 < n) kept → number_of q < n
    → All (λ k. number_of k.0 < n) (with_last q o kept)
last_more n q None kept all less = all
last_more n q (Some a) kept all less = All-push (λ k. number_of k.0 < n) kept (q, a) all less

pub next_updated : (x : StyleChange) (ts : TransitionSet) (i : ℕ) (now : TransitionSet) (gone : List Gone) (now' : TransitionSet) (gone' : List Gone)
    → Updating x ts i now gone → i < 24
    → now' ≡ kept_with now (property_at i) (decision_for x ts (property_at i)).running (decision_for x ts (property_at i)).completed
    → gone' ≡ gone ++ option_to_list (decision_for x ts (property_at i)).gone → Updating x ts (i + 1) now' gone'
unfolding property_at
next_updated x ts i now gone now' gone' so_far less is gone_is =
    let q = property_at i in
    let d = decision_for x ts q in
    record {
      running =
          ap (λ (t : TransitionSet). t.running) is ∙ last_is q d.running now.running ∙ ap (λ l. l ++ option_to_list (option_map (λ r. (q, r)) d.running)) so_far.running
          ∙ sym (gives_more (λ p. option_map (λ r. (p, r)) (decision_for x ts p).running) all_properties i BackgroundColor less);
      completed =
          ap (λ (t : TransitionSet). t.completed) is ∙ last_is q d.completed now.completed ∙ ap (λ l. l ++ option_to_list (option_map (λ c. (q, c)) d.completed)) so_far.completed
          ∙ sym (gives_more (λ p. option_map (λ c. (p, c)) (decision_for x ts p).completed) all_properties i BackgroundColor less);
      cancelled =
          gone_is ∙ ap (λ l. l ++ option_to_list d.gone) so_far.cancelled
          ∙ sym (gives_more (λ p. (decision_for x ts p).gone) all_properties i BackgroundColor less);
      last = λ p more.
          let number = number-property_at i less in
          let before : number_of q < number_of p = omega (arith, number, more) in
          let earlier = so_far.last p (omega (arith, more)) in
          subst (ComesLast p) (sym is) (record {
            running = last_more (number_of p) q d.running now.running earlier.running before;
            completed = last_more (number_of p) q d.completed now.completed earlier.completed before;
          });
    }
