-- The course of a transition over many ticks.
use Rattle.std.proofs.Common.{◌≡◌, ◌∙◌, ℕ, zero, suc, ◌<◌, ◌≤◌, refl, sym, ap, append_assoc, append-nil, arith, take, get_or}
use Rattle.std.specs.Prelude.{ℤ, ◌≤ℤ◌, int_le, int_lt, All, AllPairs, Bool, true, false, List, [], ◌∷◌, ◌++◌, if◌then◌else◌}
use Rattle.std.specs.Int.{int_max}
use Rattle.std.proofs.lemmas.Int.{ints, clamps}
use Rattle.std.proofs.lemmas.List.{get_or-take, length-take}
use Rattle.style_data.specs.Transitions.{IsTransition}
use Rattle.style_data.specs.declared.transition.Phase.{Phase}
use Rattle.style_data.specs.declared.transition.Phase.TheVariants.{Idle, Before, Active, After}
use Rattle.style_data.specs.declared.transition.Transition.{Transition}
use Rattle.transition_start.specs.Phase.{phase_of}
use Rattle.ticker.specs.Courses.{NeverFall, told_over, whole_course}
use Rattle.ticker.specs.TransitionEvents.{transition_occurrences}
use Rattle.ticker.specs.declared.event.Occurrence.{Occurrence}

-- how many events have been told of what was last seen in this phase
abbrev told : Phase → ℕ
told Idle = 0
told Before = 1
told Active = 2
told After = 3

-- a tick tells those that are still to be told
tells_more : (r : Transition) (seen now : Phase) → told seen ≤ told now → take (told seen) (whole_course r) ++ transition_occurrences r seen now ≡ take (told now) (whole_course r)
tells_more r Idle Idle less = refl
tells_more r Idle Before less = refl
tells_more r Idle Active less = refl
tells_more r Idle After less = refl
tells_more r Before Idle less = absurd (omega (arith, less))
tells_more r Before Before less = refl
tells_more r Before Active less = refl
tells_more r Before After less = refl
tells_more r Active Idle less = absurd (omega (arith, less))
tells_more r Active Before less = absurd (omega (arith, less))
tells_more r Active Active less = refl
tells_more r Active After less = refl
tells_more r After Idle less = absurd (omega (arith, less))
tells_more r After Before less = absurd (omega (arith, less))
tells_more r After Active less = absurd (omega (arith, less))
tells_more r After After less = refl

-- phases never fall
phases_rise : (start end t u : ℤ) → t ≤ℤ u → told (if int_le end t then After else if int_lt t start then Before else Active) ≤ told (if int_le end u then After else if int_lt u start then Before else Active)
phases_rise start end t u later = go (int_le end t) refl (int_lt t start) refl (int_le end u) refl (int_lt u start) refl where
  is_most : (a b : ℤ) → int_le a b ≡ true → a ≤ℤ b
  is_most a b e = grind (arith, ints)

  not_most : (a b : ℤ) → int_le a b ≡ false → a ≤ℤ b → ⊥
  not_most a b e h = let f : int_le a b ≡ true = grind (arith, ints) in let g : true ≡ false = sym f ∙ e in absurd_from g where
    absurd_from : true ≡ false → ⊥
    absurd_from g = cc

  go : (a : Bool) → int_le end t ≡ a → (b : Bool) → int_lt t start ≡ b → (a' : Bool) → int_le end u ≡ a' → (b' : Bool) → int_lt u start ≡ b'
      → told (if a then After else if b then Before else Active) ≤ told (if a' then After else if b' then Before else Active)
  go a ea b eb true ea' b' eb' = at_most a b where
    at_most : (a b : Bool) → told (if a then After else if b then Before else Active) ≤ 3
    at_most true b = omega arith
    at_most false true = omega arith
    at_most false false = omega arith
  go true ea b eb false ea' b' eb' = absurd (not_most end u ea' (let h = is_most end t ea in omega (arith, ints)))
  go false ea true eb false ea' true eb' = omega arith
  go false ea true eb false ea' false eb' = omega arith
  go false ea false eb false ea' false eb' = omega arith
  go false ea false eb false ea' true eb' = absurd (crossed eb eb') where
    crossed : int_lt t start ≡ false → int_lt u start ≡ true → ⊥
    crossed e f = let h : int_lt t start ≡ true = grind (arith, ints) in let g : true ≡ false = sym h ∙ e in contradiction g where
      contradiction : true ≡ false → ⊥
      contradiction g = cc

first_of_all : (t : ℤ) (ts : List ℤ) → NeverFall (t ∷ ts) → All (λ u. t ≤ℤ u) ts
first_of_all t ts rising = λ i d l. rising 0 (suc i) d (omega arith) (omega (arith, l))

rest_rises : (t : ℤ) (ts : List ℤ) → NeverFall (t ∷ ts) → NeverFall ts
rest_rises t ts rising i j d less short = rising (suc i) (suc j) d (omega (arith, less)) (omega (arith, short))

course : (r : Transition) (seen : Phase) (ts : List ℤ) → NeverFall ts → All (λ t. told seen ≤ told (phase_of r t)) ts
    → (n : ℕ) × (take (told seen) (whole_course r) ++ told_over r seen ts ≡ take n (whole_course r))
course r seen [] rising later = (told seen, append-nil (take (told seen) (whole_course r)))
course r seen (t ∷ ts) rising later =
    let now = phase_of r t in
    let from = first_of_all t ts rising in
    let rest = course r now ts (rest_rises t ts rising) (λ i d l. phases_rise r.start.0 r.end.0 t (get_or ts i d) (from i d l)) in (
      rest.0,
      sym (append_assoc (take (told seen) (whole_course r)) (transition_occurrences r seen now) (told_over r now ts))
          ∙ ap (λ l. l ++ told_over r now ts) (tells_more r seen now (later 0 t (omega arith))) ∙ rest.1,
    )

pub in_turn : (r : Transition) (ts : List ℤ) → NeverFall ts → (n : ℕ) × (told_over r Idle ts ≡ take n (whole_course r))
in_turn r ts rising = course r Idle ts rising (λ i d l. omega arith)

-- ---- scheduled times

abbrev IsNoLater : Occurrence → Occurrence → Type 0
IsNoLater a b = a.time.0 ≤ℤ b.time.0

pairs_take : {A : Type 0} (R : A → A → Type 0) (n : ℕ) (xs : List A) → AllPairs R xs → AllPairs R (take n xs)
pairs_take R n xs all i j d less short =
    let size = length-take n xs in
    let i_short : i < n = omega (arith, size, short, less) in
    let j_short : j < n = omega (arith, size, short) in
    rw (get_or-take n xs i d i_short, get_or-take n xs j d j_short) (all i j d less (omega (arith, size, short)))

whole_in_turn : (r : Transition) → IsTransition r → AllPairs IsNoLater (whole_course r)
whole_in_turn r is = go (by_max r.created.0 r.start.0) (by_max r.created.0 r.end.0) (maxes r.created.0 r.start.0 r.end.0 is.ordered) where
  by_max : (a b : ℤ) → a ≤ℤ int_max a b
  by_max a b = omega (arith, ints, clamps)

  maxes : (a b c : ℤ) → b ≤ℤ c → int_max a b ≤ℤ int_max a c
  maxes a b c less = omega (arith, ints, clamps)

  go : r.created.0 ≤ℤ int_max r.created.0 r.start.0 → r.created.0 ≤ℤ int_max r.created.0 r.end.0 → int_max r.created.0 r.start.0 ≤ℤ int_max r.created.0 r.end.0
      → AllPairs IsNoLater (whole_course r)
  go one two three zero zero d less short = absurd (omega (arith, less))
  go one two three zero (suc zero) d less short = one
  go one two three zero (suc (suc zero)) d less short = two
  go one two three (suc zero) (suc (suc zero)) d less short = three
  go one two three i j d less short = absurd (omega (arith, less, short))

pub scheduled : (r : Transition) (ts : List ℤ) → IsTransition r → NeverFall ts → AllPairs IsNoLater (told_over r Idle ts)
scheduled r ts is rising = let turn = in_turn r ts rising in rw turn.1 (pairs_take IsNoLater turn.0 (whole_course r) (whole_in_turn r is))
