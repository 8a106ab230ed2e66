-- Which rule applies to a change.
use Rattle.std.proofs.Common.{◌≡◌, ℕ, ◌<◌, refl, suc, arith, ap, sym, ◌∙◌, inl, inr, subst}
use Rattle.std.specs.Prelude.{ℤ, pos, ◌≤ℤ◌, ◌<ℤ◌, ◌≢◌, int_lt, int_le, Bool, true, false, not, ◌==◌, if◌then◌else◌, Option, Some, None, IsNone, IsSomeAnd, IfSome, IsFalse, IsTrue, is_none, ◌↔◌}
use Rattle.std.specs.Option.{option_map_or}
use Rattle.std.specs.Bool.{Decides as DecidesTest}
use Rattle.std.proofs.lemmas.Bool.{cases_lt, false≢true}
use Rattle.std.proofs.lemmas.Bool.Decides.{Decides-and, Decides-not, Decides-or}
use Rattle.std.proofs.lemmas.Int.{ints}
use Rattle.interpolation.proofs.EqualityLemmas.{same_tells}
use Rattle.interpolation.specs.Equality.{is_same}
use Rattle.interpolation.specs.Interpolation.{is_interpolable}
use Rattle.style_data.specs.declared.decision.Decision.{Decision}
use Rattle.style_data.specs.declared.transition.Completed.{Completed}
use Rattle.style_data.specs.declared.transition.Transition.{Transition}
use Rattle.value_types.specs.declared.value.Value.{Value}
use Rattle.transition_start.specs.Sampling.{sample_of}
use Rattle.transition_start.specs.Change.{Change, combined_duration}
use Rattle.transition_start.specs.Functions.{completed_elsewhere, decision_of, has_time, meets, rule_of, runs_elsewhere}
use Rattle.transition_start.specs.Results.{Decides, decision_by}
use Rattle.transition_start.specs.Rules.{Applies, CancelsAtOnce, CancelsThere, DropsCompleted, HasTime, Keeps, NotCompletedTo, Replaces, Reverses, Rule, RunsElsewhere, Starts, Unmatched, Wants, rank}

-- the rule of a rank
rule_at : ℕ → Rule
rule_at n =
    (if n == 0 then Unmatched else if n == 1 then Starts else if n == 2 then DropsCompleted else if n == 3 then CancelsThere
    else if n == 4 then CancelsAtOnce else if n == 5 then Reverses else if n == 6 then Replaces else Keeps)

ranked : (a : Rule) → rule_at (rank a) ≡ a
unfolding rule_at
ranked Unmatched = refl
ranked Starts = refl
ranked DropsCompleted = refl
ranked CancelsThere = refl
ranked CancelsAtOnce = refl
ranked Reverses = refl
ranked Replaces = refl
ranked Keeps = refl

-- two rules that apply are one
pub only_one : (x : Change) (a b : Rule) → Applies x a → Applies x b → a ≡ b
only_one x a b p q = elim (cases_lt (rank a) (rank b)) [
  | inl less ↦ absurd (q.first a less p.wants)
  | inr more ↦ elim (cases_lt (rank b) (rank a)) [
    | inl less ↦ absurd (p.first b less q.wants)
    | inr most ↦ let e : rank a ≡ rank b = omega arith in sym (ranked a) ∙ ap rule_at e ∙ ranked b
  ]
]

-- ---- the tests tell what the rules want

some_tells : {T : Type 0} (o : Option T) (p : T → Bool) (P : T → Type 0) → ((x : T) → DecidesTest (p x) (P x)) → DecidesTest (option_map_or p o false) (IsSomeAnd o P)
some_tells None p P h = (λ e. absurd (false≢true e), λ k. absurd k)
some_tells (Some x) p P h = h x

none_tells : {T : Type 0} (o : Option T) → DecidesTest (is_none o) (IsNone o)
none_tells None = (λ _. refl, λ _. refl)
none_tells (Some x) = (λ e. absurd (false≢true e), λ k. absurd (false≢true (sym k)))

any_tells : (x : Change) → DecidesTest (completed_elsewhere x true) (NotCompletedTo x)
any_tells x = go x.completed where
  go : (o : Option Completed) → DecidesTest (option_map_or (λ c. not (is_same c.to x.event.after)) o true) (IfSome o (λ c. c.to ≢ x.event.after))
  go None = (λ _. tt, λ _. refl)
  go (Some c) = Decides-not _ (same_tells c.to x.event.after)

runs_tells : (x : Change) (p : Transition → Bool) (P : Transition → Type 0) → ((r : Transition) → DecidesTest (p r) (P r)) → DecidesTest (runs_elsewhere x p) (RunsElsewhere x P)
runs_tells x p P h = some_tells x.running _ _ (λ r. Decides-and _ _ (Decides-not _ (same_tells r.to x.event.after)) (h r))

lt_tells : (a b : ℤ) → DecidesTest (int_lt a b) (a <ℤ b)
lt_tells a b = (λ e. grind (arith, ints), λ h. grind (arith, ints))

le_tells : (a b : ℤ) → DecidesTest (int_le a b) (a ≤ℤ b)
le_tells a b = (λ e. grind (arith, ints), λ h. grind (arith, ints))

time_tells : (x : Change) → DecidesTest (has_time x) (HasTime x)
time_tells x = some_tells x.matched _ _ (λ m. lt_tells (pos 0) (combined_duration m))

itself : (b : Bool) → DecidesTest b (IsTrue b)
itself b = (λ e. e, λ e. e)

not_itself : (b : Bool) → DecidesTest (not b) (IsFalse b)
not_itself true = (λ e. absurd (false≢true e), λ e. absurd (false≢true (sym e)))
not_itself false = (λ _. refl, λ _. refl)

current : Change → Transition → Value
current x r = sample_of x.event.property r x.event.time.0

meets_tells : (x : Change) (rule : Rule) → DecidesTest (meets x rule) (Wants x rule)
unfolding current
meets_tells x Unmatched = none_tells x.matched
meets_tells x Starts = Decides-and _ _ (none_tells x.running) (Decides-and _ _ (Decides-not _ (same_tells x.event.before x.event.after))
    (Decides-and _ _ (itself (is_interpolable x.event.property x.event.before x.event.after)) (Decides-and _ _ (any_tells x) (time_tells x))))
meets_tells x DropsCompleted = Decides-and _ _ (none_tells x.running) (some_tells x.completed _ _ (λ c. Decides-not _ (same_tells c.to x.event.after)))
meets_tells x CancelsThere = runs_tells x _ _ (λ r. Decides-or _ _ (same_tells (current x r) x.event.after) (not_itself (is_interpolable x.event.property (current x r) x.event.after)))
meets_tells x CancelsAtOnce = runs_tells x _ _ (λ r. some_tells x.matched _ _ (λ m. le_tells (combined_duration m) (pos 0)))
meets_tells x Reverses = runs_tells x _ _ (λ r. same_tells r.adjusted x.event.after)
meets_tells x Replaces = runs_tells x _ _ (λ r. (λ _. tt, λ _. refl))
meets_tells x Keeps = (λ _. tt, λ _. refl)

-- ---- the first rule that is wanted applies

-- each rule below this rank isn't wanted
NoneBelow : Change → ℕ → Type 0
NoneBelow x n = (other : Rule) → rank other < n → meets x other ≡ false

one_more : (x : Change) (rule : Rule) → NoneBelow x (rank rule) → meets x rule ≡ false → NoneBelow x (suc (rank rule))
unfolding NoneBelow
one_more x rule none e other less = elim (cases_lt (rank other) (rank rule)) [
  | inl below ↦ none other below
  | inr above ↦ let same : rank rule ≡ rank other = omega arith in subst (λ (r : Rule). meets x r ≡ false) (sym (ranked rule) ∙ ap rule_at same ∙ ranked other) e
]

found : (x : Change) (rule : Rule) → NoneBelow x (rank rule) → meets x rule ≡ true → Applies x rule
unfolding NoneBelow
found x rule none e = record {
  wants = (meets_tells x rule).0 e;
  first = λ other less wants. false≢true (sym (none other less) ∙ (meets_tells x other).1 wants);
}

chosen : (x : Change) (rule rest : Rule) → NoneBelow x (rank rule) → (NoneBelow x (suc (rank rule)) → Applies x rest) → Applies x (if meets x rule then rule else rest)
chosen x rule rest none more = pick (meets x rule) refl where
  pick : (b : Bool) → meets x rule ≡ b → Applies x (if b then rule else rest)
  pick true e = found x rule none e
  pick false e = more (one_more x rule none e)

none_yet : (x : Change) → NoneBelow x 0
unfolding NoneBelow
none_yet x other less = absurd (omega arith)

pub applies : (x : Change) → Applies x (rule_of x)
unfolding rule_of
applies x =
    chosen x Unmatched _ (none_yet x) (λ a. chosen x Starts _ a (λ b. chosen x DropsCompleted _ b (λ c. chosen x CancelsThere _ c
    (λ d. chosen x CancelsAtOnce _ d (λ e. chosen x Reverses _ e (λ f. chosen x Replaces _ f (λ g. found x Keeps g refl)))))))

pub decides : (x : Change) (d : Decision) → Decides x d ↔ (d ≡ decision_of x)
unfolding decision_of
decides x d = (λ (rule, is, e). e ∙ ap (decision_by x) (only_one x rule (rule_of x) is (applies x)), λ e. (rule_of x, applies x, e))
