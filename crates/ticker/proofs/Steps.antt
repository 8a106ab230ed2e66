-- Sets of transitions that are built property by property.
use Rattle.std.proofs.Common.{◌≡◌, ℕ, ◌+◌, ◌<◌, ◌≤◌, ◌++◌, sym, ◌∙◌, ap, refl, subst, arith, take, get_or, append-nil}
use Rattle.std.specs.Prelude.{List, [], ◌∷◌, Option, None, Some, All, option_map, option_to_list}
use Rattle.std.specs.List.{cons_option, filter_map}
use Rattle.std.proofs.lemmas.List.{take_more}
use Rattle.std.proofs.lemmas.List.Elements.{All-push, filter_map-append}
use Rattle.computed_style.proofs.ByIndex.{number-property_at, property_at}
use Rattle.style_data.specs.TransitionSets.{ComesLast, TransitionSet, kept_with, no_transitions, with_last}
use Rattle.style_data.specs.declared.transition.Completed.{Completed}
use Rattle.style_data.specs.declared.transition.Transition.{Transition}
use Rattle.value_types.specs.Properties.{all_properties, number_of}
use Rattle.value_types.specs.declared.property.PropertyId.{PropertyId}
use Rattle.value_types.specs.declared.property.PropertyId.TheVariants.{BackgroundColor}

-- what the first i properties have of it
abbrev pub of_first : {A : Type 0} → (PropertyId → Option A) → ℕ → List (PropertyId × A)
of_first has i = filter_map (λ p. option_map (λ a. (p, a)) (has p)) (take i all_properties)

one_gives : {Y : Type 0} (o : Option Y) → cons_option o [] ≡ option_to_list o
one_gives None = refl
one_gives (Some y) = refl

last_is : {A : Type 0} (p : PropertyId) (o : Option A) (kept : List (PropertyId × A)) → with_last p o kept ≡ kept ++ option_to_list (option_map (λ a. (p, a)) o)
last_is p None kept = sym (append-nil kept)
last_is p (Some a) kept = refl

of_more : {A : Type 0} (has : PropertyId → Option A) (i : ℕ) → i < 24 → with_last (property_at i) (has (property_at i)) (of_first has i) ≡ of_first has (i + 1)
unfolding property_at
of_more has i less =
    let q = property_at i in
    last_is q (has q) (of_first has i)
    ∙ sym (ap (filter_map (λ p. option_map (λ a. (p, a)) (has p))) (take_more all_properties i BackgroundColor less)
    ∙ filter_map-append (λ p. option_map (λ a. (p, a)) (has p)) (take i all_properties) (get_or all_properties i BackgroundColor ∷ [])
    ∙ ap (λ l. of_first has i ++ l) (one_gives (option_map (λ a. (q, a)) (has q))))

-- the set has what the first i properties have
pub record Keeping (has_running : PropertyId → Option Transition) (has_completed : PropertyId → Option Completed) (i : ℕ) (now : TransitionSet) : Type 0 where
  pub running : now.running ≡ of_first has_running i
  pub completed : now.completed ≡ of_first has_completed i
  pub last : (p : PropertyId) → i ≤ number_of p → ComesLast p now

pub nothing_kept : (running : PropertyId → Option Transition) (completed : PropertyId → Option Completed) → Keeping running completed 0 no_transitions
nothing_kept running completed = record {
  running = refl;
  completed = refl;
  last = λ p less. record { running = λ k d l. absurd (omega (arith, l)); completed = λ k d l. absurd (omega (arith, l)) };
}

last_more : {A : Type 0} (n : ℕ) (q : PropertyId) (o : Option A) (kept : List (PropertyId × A)) → All (λ k. number_of k.0 < n) kept → number_of q < n
    → All (λ k. number_of k.0 < n) (with_last q o kept)
last_more n q None kept all less = all
last_more n q (Some a) kept all less = All-push (λ k. number_of k.0 < n) kept (q, a) all less

pub next_kept : (running : PropertyId → Option Transition) (completed : PropertyId → Option Completed) (i : ℕ) (now now' : TransitionSet)
    → Keeping running completed i now → i < 24 → now' ≡ kept_with now (property_at i) (running (property_at i)) (completed (property_at i))
    → Keeping running completed (i + 1) now'
unfolding property_at
next_kept running completed i now now' so_far less is =
    let q = property_at i in
    record {
      running = ap (λ (t : TransitionSet). t.running) is ∙ ap (with_last q (running q)) so_far.running ∙ of_more running i less;
      completed = ap (λ (t : TransitionSet). t.completed) is ∙ ap (with_last q (completed q)) so_far.completed ∙ of_more completed i less;
      last = λ p more.
          let number = number-property_at i less in
          let before : number_of q < number_of p = omega (arith, number, more) in
          let earlier = so_far.last p (omega (arith, more)) in
          subst (ComesLast p) (sym is) (record {
            running = last_more (number_of p) q (running q) now.running earlier.running before;
            completed = last_more (number_of p) q (completed q) now.completed earlier.completed before;
          });
    }
