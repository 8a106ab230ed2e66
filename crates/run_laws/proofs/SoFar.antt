-- What was told of a transition so far, by where it stands: a tick, a style change event and an edit keep it.
use Rattle.std.proofs.Common.{◌≡◌, ◌≢◌, ℕ, ◌+◌, ◌<◌, ◌≤◌, refl, ap, sym, ◌∙◌, inl, inr, subst, arith, Bool, true, false, Option, Some, None, List, [], ◌∷◌, ◌++◌, append-nil, filter, take}
use Rattle.std.specs.Prelude.{ℤ, ◌≤ℤ◌, ⊤, int_le, int_lt, option_and_then, option_map, if◌then◌else◌}
use Rattle.std.proofs.lemmas.Bool.{cases_eq, eq-eqb, ne_eqb}
use Rattle.std.proofs.lemmas.Int.{ints}
use Rattle.std.specs.List.{flat_map}
use Rattle.std.specs.Option.{option_to_list}
use Rattle.style_data.specs.declared.event.EventKind.TheVariants.{Cancel}
use Rattle.style_data.specs.declared.gone.Gone.{Gone}
use Rattle.style_data.specs.declared.transition.Phase.{Phase}
use Rattle.style_data.specs.declared.transition.Phase.TheVariants.{Idle, Before, Active, After}
use Rattle.style_data.specs.declared.transition.Transition.{Transition}
use Rattle.ticker.specs.Courses.{whole_course}
use Rattle.ticker.specs.Events.{cancel_occurrences, is_cancel_told, occurrence}
use Rattle.ticker.specs.Ticks.{seen_in, still_running}
use Rattle.ticker.specs.TransitionEvents.{transition_occurrences}
use Rattle.transition_start.specs.Phase.{phase_of}
use Rattle.transition_start.specs.Results.{elapsed_at, gone_item}
use Rattle.run_laws.specs.Occurrences.{Occurrence}
use Rattle.run_laws.specs.TransitionCourses.{IsCourse, IsCutOff, count_seen, transitioncancel}
use Rattle.run_laws.specs.TransitionNames.{TransitionName}
use Rattle.run_laws.proofs.Filtered.{same_number}
use Rattle.run_laws.proofs.FrameEvents.{is_gone_of, told_gone, told_running}

-- ---- phases

-- a tick tells those that are still to be told
tells_more : (r : Transition) (seen now : Phase) → count_seen seen ≤ count_seen now
    → take (count_seen seen) (whole_course r) ++ transition_occurrences r seen now ≡ take (count_seen now) (whole_course r)
tells_more r Idle Idle less = refl
tells_more r Idle Before less = refl
tells_more r Idle Active less = refl
tells_more r Idle After less = refl
tells_more r Before Idle less = absurd (omega (arith, less))
tells_more r Before Before less = refl
tells_more r Before Active less = refl
tells_more r Before After less = refl
tells_more r Active Idle less = absurd (omega (arith, less))
tells_more r Active Before less = absurd (omega (arith, less))
tells_more r Active Active less = refl
tells_more r Active After less = refl
tells_more r After Idle less = absurd (omega (arith, less))
tells_more r After Before less = absurd (omega (arith, less))
tells_more r After Active less = absurd (omega (arith, less))
tells_more r After After less = refl

-- phases never fall
phases_rise : (start end t u : ℤ) → t ≤ℤ u
    → count_seen (if int_le end t then After else if int_lt t start then Before else Active) ≤ count_seen (if int_le end u then After else if int_lt u start then Before else Active)
phases_rise start end t u later = go (int_le end t) refl (int_lt t start) refl (int_le end u) refl (int_lt u start) refl where
  is_most : (a b : ℤ) → int_le a b ≡ true → a ≤ℤ b
  is_most a b e = grind (arith, ints)

  not_most : (a b : ℤ) → int_le a b ≡ false → a ≤ℤ b → ⊥
  not_most a b e h = let f : int_le a b ≡ true = grind (arith, ints) in let g : true ≡ false = sym f ∙ e in absurd_from g where
    absurd_from : true ≡ false → ⊥
    absurd_from g = cc

  go : (a : Bool) → int_le end t ≡ a → (b : Bool) → int_lt t start ≡ b → (a' : Bool) → int_le end u ≡ a' → (b' : Bool) → int_lt u start ≡ b'
      → count_seen (if a then After else if b then Before else Active) ≤ count_seen (if a' then After else if b' then Before else Active)
  go a ea b eb true ea' b' eb' = at_most a b where
    at_most : (a b : Bool) → count_seen (if a then After else if b then Before else Active) ≤ 3
    at_most true b = omega arith
    at_most false true = omega arith
    at_most false false = omega arith
  go true ea b eb false ea' b' eb' = absurd (not_most end u ea' (let h = is_most end t ea in omega (arith, ints)))
  go false ea true eb false ea' true eb' = omega arith
  go false ea true eb false ea' false eb' = omega arith
  go false ea false eb false ea' false eb' = omega arith
  go false ea false eb false ea' true eb' = absurd (crossed eb eb') where
    crossed : int_lt t start ≡ false → int_lt u start ≡ true → ⊥
    crossed e f = let h : int_lt t start ≡ true = grind (arith, ints) in let g : true ≡ false = sym h ∙ e in contradiction g where
      contradiction : true ≡ false → ⊥
      contradiction g = cc

-- ---- where a transition stands

-- none of this generation runs
abbrev pub IsNotOf : ℕ → Option Transition → Type 0
IsNotOf g None = ⊤
IsNotOf g (Some r) = r.generation ≢ g

-- it runs: what was told is what came before the phase in which it was last seen, and has come by now
pub record IsTelling (told : List Occurrence) (r : Transition) (t : ℤ) : Type 0 where
  pub told_is : told ≡ take (count_seen r.seen) (whole_course r)
  pub come : count_seen r.seen ≤ count_seen (phase_of r t)
  pub created : r.created.0 ≤ℤ t

-- it was cancelled, and its cancel waits
pub record IsLeaving (P : Transition → Type 0) (g : ℕ) (told : List Occurrence) (y : Gone) : Type 0 where
  pub item : Transition
  pub of : item.generation ≡ g
  pub holds : P item
  pub told_is : told ≡ take (count_seen y.seen) (whole_course item)
  pub come : count_seen y.seen ≤ count_seen (phase_of item y.cancelled.0)
  pub created : item.created.0 ≤ℤ y.cancelled.0
  pub elapsed : y.elapsed.0 ≡ elapsed_at item y.cancelled.0

-- after so many frames, at this time, with what runs of the property and what was cancelled of the transition
pub data IsToldSoFar (P : Transition → Type 0) (g : ℕ) (told : List Occurrence) (frames : ℕ) (t : ℤ) (run : Option Transition) (left : List Gone) : Type 0 where
  waits : frames < g → told ≡ [] → IsNotOf g run → left ≡ [] → IsToldSoFar P g told frames t run left
  runs : (r : Transition) → g ≤ frames → run ≡ Some r → r.generation ≡ g → P r → left ≡ [] → IsTelling told r t → IsToldSoFar P g told frames t run left
  leaves : (y : Gone) → g ≤ frames → IsNotOf g run → left ≡ y ∷ [] → IsLeaving P g told y → IsToldSoFar P g told frames t run left
  over : g ≤ frames → IsNotOf g run → left ≡ [] → IsCourse P g told → IsToldSoFar P g told frames t run left

-- so it is a course
front : (P : Transition → Type 0) (r : Transition) (g : ℕ) (told : List Occurrence) (n : ℕ) → r.generation ≡ g → P r → told ≡ take n (whole_course r) → IsCourse P g told
front P r g told n of holds is = inr (r, of, holds, inl (n, is))

pub course_so_far : (P : Transition → Type 0) (g frames : ℕ) (told : List Occurrence) (t : ℤ) (run : Option Transition) (left : List Gone)
    → IsToldSoFar P g told frames t run left → IsCourse P g told
course_so_far P g frames told t run left (waits early none not_run not_left) = inl none
course_so_far P g frames told t run left (runs r late run_is of holds not_left telling) = front P r g told (count_seen r.seen) of holds telling.told_is
course_so_far P g frames told t run left (leaves y late not_run left_is leaving) =
    front P leaving.item g told (count_seen y.seen) leaving.of leaving.holds leaving.told_is
course_so_far P g frames told t run left (over late not_run not_left course) = course

-- ---- a tick

-- a cancel ends the course
cut_off : (P : Transition → Type 0) (g : ℕ) (told : List Occurrence) (y : Gone) → IsLeaving P g told y → IsCourse P g (told ++ cancel_occurrences y)
cut_off P g told y leaving = go y.seen leaving.told_is leaving.come
  where
    r : Transition
    r = leaving.item

    t : ℤ
    t = y.cancelled.0

    cancel_is : occurrence Cancel y.elapsed.0 y.cancelled.0 ≡ transitioncancel r t
    cancel_is = ap (λ e. occurrence Cancel e t) leaving.elapsed

    cut : (n : ℕ) → told ≡ take n (whole_course r) → IsCutOff r n t → IsCourse P g (told ++ occurrence Cancel y.elapsed.0 y.cancelled.0 ∷ [])
    cut n is off =
        inr (r, leaving.of, leaving.holds, inr (n, t, off, ap (λ os. os ++ occurrence Cancel y.elapsed.0 y.cancelled.0 ∷ []) is ∙ ap (λ o. take n (whole_course r) ++ o ∷ []) cancel_is))

    go : (seen : Phase) → told ≡ take (count_seen seen) (whole_course r) → count_seen seen ≤ count_seen (phase_of r t)
        → IsCourse P g (told ++ (if is_cancel_told seen then occurrence Cancel y.elapsed.0 y.cancelled.0 ∷ [] else []))
    go Idle is come = front P r g (told ++ []) 0 leaving.of leaving.holds (append-nil told ∙ is)
    go Before is come = cut 1 is (record { seen = omega arith; unended = omega arith; come = come; created = leaving.created })
    go Active is come = cut 2 is (record { seen = omega arith; unended = omega arith; come = come; created = leaving.created })
    go After is come = front P r g (told ++ []) 3 leaving.of leaving.holds (append-nil told ∙ is)

still_not_of : (g : ℕ) (t : ℤ) (run : Option Transition) → IsNotOf g run → IsNotOf g (option_and_then (still_running t) run)
still_not_of g t None other = other
still_not_of g t (Some r) other = go (int_le r.end.0 t)
  where
    go : (b : Bool) → IsNotOf g (if b then None else Some (seen_in t r))
    go true = tt
    go false = other

-- none runs, or one that this event starts
abbrev pub IsNew : ℕ → ℤ → Option Transition → Type 0
IsNew frame t None = ⊤
IsNew frame t (Some r) = (r.generation ≡ frame) × (r.created.0 ≡ t) × (r.seen ≡ Idle)

-- of what ran of the property it leaves the same, or cancels it, and starts one at most
pub data IsUpdated (x : TransitionName) (frame : ℕ) (t : ℤ) (run after : Option Transition) (more : List Gone) : Type 0 where
  keeps : after ≡ run → more ≡ [] → IsUpdated x frame t run after more
  starts : IsNew frame t after → more ≡ [] → IsUpdated x frame t run after more
  cancels : (r : Transition) → run ≡ Some r → IsNew frame t after → more ≡ filter (is_gone_of x) (gone_item x.property r t ∷ []) → IsUpdated x frame t run after more

-- what is cancelled of what runs
abbrev pub cancelled_now : TransitionName → ℤ → Option Transition → List Gone
cancelled_now x t run = filter (is_gone_of x) (option_to_list (option_map (λ r. gone_item x.property r t) run))

-- this holds of what runs
abbrev pub HoldsOf : (Transition → Type 0) → Option Transition → Type 0
HoldsOf P None = ⊤
HoldsOf P (Some r) = P r

module _ (P : Transition → Type 0) (still : (r : Transition) (t : ℤ) → P r → P (seen_in t r)) (x : TransitionName) where
  abbrev g : ℕ
  g = x.generation

  nothing_runs : (t : ℤ) (run : Option Transition) → IsNotOf g run → told_running x t run ≡ []
  nothing_runs t None other = refl
  nothing_runs t (Some r) other = ap (λ b. if b then transition_occurrences r r.seen (phase_of r t) else []) (ne_eqb r.generation g other)

  nothing_more : (told more : List Occurrence) → more ≡ [] → told ++ more ≡ told
  nothing_more told more none = ap (λ os. told ++ os) none ∙ append-nil told

  pub ticked : (told : List Occurrence) (frames : ℕ) (t : ℤ) (run : Option Transition) (left : List Gone) → IsToldSoFar P g told frames t run left
      → IsToldSoFar P g (told ++ (told_running x t run ++ told_gone x left)) frames t (option_and_then (still_running t) run) []
  ticked told frames t run left (waits early none not_run not_left) =
      waits early
      (nothing_more told (told_running x t run ++ told_gone x left) (ap (λ os. os ++ told_gone x left) (nothing_runs t run not_run) ∙ ap (told_gone x) not_left) ∙ none)
      (still_not_of g t run not_run) refl
  ticked told frames t run left (runs r late run_is of holds not_left telling) =
      subst (λ more. IsToldSoFar P g (told ++ more) frames t (option_and_then (still_running t) run) []) (sym more_is)
      (subst (λ o. IsToldSoFar P g (told ++ transition_occurrences r r.seen (phase_of r t)) frames t (option_and_then (still_running t) o) []) (sym run_is)
      (go (int_le r.end.0 t) refl))
    where
      more_is : told_running x t run ++ told_gone x left ≡ transition_occurrences r r.seen (phase_of r t)
      more_is =
          ap (λ (o : Option Transition). told_running x t o ++ told_gone x left) run_is
          ∙ ap (λ gs. told_running x t (Some r) ++ told_gone x gs) not_left
          ∙ append-nil (told_running x t (Some r))
          ∙ ap (λ b. if b then transition_occurrences r r.seen (phase_of r t) else []) (eq-eqb r.generation g of)

      now_told : told ++ transition_occurrences r r.seen (phase_of r t) ≡ take (count_seen (phase_of r t)) (whole_course r)
      now_told = ap (λ os. os ++ transition_occurrences r r.seen (phase_of r t)) telling.told_is ∙ tells_more r r.seen (phase_of r t) telling.come

      go : (b : Bool) → int_le r.end.0 t ≡ b
          → IsToldSoFar P g (told ++ transition_occurrences r r.seen (phase_of r t)) frames t (if b then None else Some (seen_in t r)) []
      go true ended = over late tt refl (front P r g _ (count_seen (phase_of r t)) of holds now_told)
      go false going = runs (seen_in t r) late refl of (still r t holds) refl (record { told_is = now_told; come = omega arith; created = telling.created })
  ticked told frames t run left (leaves y late not_run left_is leaving) =
      over late (still_not_of g t run not_run) refl
      (subst (λ more. IsCourse P g (told ++ more))
      (sym (ap (λ os. os ++ told_gone x left) (nothing_runs t run not_run) ∙ ap (told_gone x) left_is ∙ append-nil (cancel_occurrences y)))
      (cut_off P g told y leaving))
  ticked told frames t run left (over late not_run not_left course) =
      over late (still_not_of g t run not_run) refl
      (subst (IsCourse P g)
      (sym (nothing_more told (told_running x t run ++ told_gone x left) (ap (λ os. os ++ told_gone x left) (nothing_runs t run not_run) ∙ ap (told_gone x) not_left)))
      course)

  -- one item at most stands in two lists, so that their order shows nothing
  pub swapped : {X : Type 0} (tells : Gone → List X) (told : List Occurrence) (frames : ℕ) (t : ℤ) (run : Option Transition) (a b : List Gone)
      → IsToldSoFar P g told frames t run (a ++ b) → flat_map tells (a ++ b) ≡ flat_map tells b ++ flat_map tells a
  swapped tells told frames t run [] b so_far = sym (append-nil (flat_map tells b))
  swapped tells told frames t run (y ∷ a) b so_far =
      let none : a ++ b ≡ [] = rest so_far in
      ap (λ ys. tells y ++ flat_map tells ys) (none ∙ sym (none_left a b none))
      ∙ sym (ap (λ ys. flat_map tells ys ++ (tells y ++ flat_map tells a)) (none_right a b none))
    where
      rest : IsToldSoFar P g told frames t run (y ∷ a ++ b) → a ++ b ≡ []
      rest (waits early none not_run not_left) = absurd (cc)
      rest (runs r late run_is of holds not_left telling) = absurd (cc)
      rest (leaves z late not_run left_is leaving) = cc
      rest (over late not_run not_left course) = absurd (cc)

      none_left : (a b : List Gone) → a ++ b ≡ [] → a ≡ []
      none_left [] b none = refl
      none_left (z ∷ a) b none = absurd (cc)

      none_right : (a b : List Gone) → a ++ b ≡ [] → b ≡ []
      none_right [] b none = none
      none_right (z ∷ a) b none = absurd (cc)

  -- ---- a style change event

  own_item : (r : Transition) (t : ℤ) → r.generation ≡ g → filter (is_gone_of x) (gone_item x.property r t ∷ []) ≡ gone_item x.property r t ∷ []
  own_item r t of = rw (same_number x.property, eq-eqb r.generation g of) refl

  other_item : (r : Transition) (t : ℤ) → r.generation ≢ g → filter (is_gone_of x) (gone_item x.property r t ∷ []) ≡ []
  other_item r t other = rw (same_number x.property, ne_eqb r.generation g other) refl

  new_not_of : (frame : ℕ) (t : ℤ) (after : Option Transition) → frame ≢ g → IsNew frame t after → IsNotOf g after
  new_not_of frame t None differ new = tt
  new_not_of frame t (Some r) differ new = λ (of : r.generation ≡ g). differ (sym new.0 ∙ of)

  leaving_now : (told : List Occurrence) (r : Transition) (t : ℤ) → r.generation ≡ g → P r → IsTelling told r t → IsLeaving P g told (gone_item x.property r t)
  leaving_now told r t of holds telling =
      record { item = r; of = of; holds = holds; told_is = telling.told_is; come = telling.come; created = telling.created; elapsed = refl }

  -- what was cancelled of others isn't of this transition
  none_of_others : (frame : ℕ) (t : ℤ) (run after : Option Transition) (more : List Gone) → IsNotOf g run → IsUpdated x frame t run after more → more ≡ []
  none_of_others frame t run after more not_run (keeps same none) = none
  none_of_others frame t run after more not_run (starts new none) = none
  none_of_others frame t run after more not_run (cancels r run_is new more_is) = more_is ∙ other_item r t (subst (IsNotOf g) run_is not_run)

  others_after : (frame : ℕ) (t : ℤ) (run after : Option Transition) (more : List Gone) → frame ≢ g → IsNotOf g run → IsUpdated x frame t run after more → IsNotOf g after
  others_after frame t run after more differ not_run (keeps same none) = subst (IsNotOf g) (sym same) not_run
  others_after frame t run after more differ not_run (starts new none) = new_not_of frame t after differ new
  others_after frame t run after more differ not_run (cancels r run_is new more_is) = new_not_of frame t after differ new

  none_more : (left more : List Gone) → left ≡ [] → more ≡ [] → left ++ more ≡ []
  none_more left more none nothing = ap (λ gs. gs ++ more) none ∙ nothing

  -- the event of the frame that may start it
  started : (told : List Occurrence) (frames : ℕ) (t : ℤ) (after : Option Transition) (left : List Gone) → frames + 1 ≡ g → told ≡ [] → HoldsOf P after → IsNew (frames + 1) t after
      → left ≡ [] → IsToldSoFar P g told (frames + 1) t after left
  started told frames t None left this none holds new not_left = over (omega (arith, this)) tt not_left (inl none)
  started told frames t (Some r) left this none holds new not_left =
      runs r (omega (arith, this)) refl (new.0 ∙ this) holds not_left
      (record {
        told_is = none ∙ sym (ap (λ s. take (count_seen s) (whole_course r)) new.2);
        come = subst (λ s. count_seen s ≤ count_seen (phase_of r t)) (sym new.2) (omega arith);
        created = subst (λ u. u ≤ℤ t) (sym new.1) (omega (arith, ints));
      })

  kept_waiting : (told : List Occurrence) (frames : ℕ) (t : ℤ) (run : Option Transition) (left : List Gone) → frames + 1 ≡ g → told ≡ [] → IsNotOf g run → left ≡ []
      → IsToldSoFar P g told (frames + 1) t run left
  kept_waiting told frames t run left this none not_run not_left = over (omega (arith, this)) not_run not_left (inl none)

  pub updated : (told : List Occurrence) (frames : ℕ) (t : ℤ) (run after : Option Transition) (left more : List Gone) → IsToldSoFar P g told frames t run left
      → HoldsOf P after → IsUpdated x (frames + 1) t run after more → IsToldSoFar P g told (frames + 1) t after (left ++ more)
  updated told frames t run after left more (waits early none not_run not_left) holding update =
      elim (cases_eq (frames + 1) g) [
        | inl this ↦ first this update
        | inr differ ↦
            waits (omega (arith, early, differ)) none (others_after (frames + 1) t run after more differ not_run update)
            (none_more left more not_left (none_of_others (frames + 1) t run after more not_run update))
      ]
    where
      first : frames + 1 ≡ g → IsUpdated x (frames + 1) t run after more → IsToldSoFar P g told (frames + 1) t after (left ++ more)
      first this (keeps same nothing) =
          kept_waiting told frames t after (left ++ more) this none (subst (IsNotOf g) (sym same) not_run) (none_more left more not_left nothing)
      first this (starts new nothing) = started told frames t after (left ++ more) this none holding new (none_more left more not_left nothing)
      first this (cancels r run_is new more_is) =
          started told frames t after (left ++ more) this none holding new
          (none_more left more not_left (more_is ∙ other_item r t (subst (IsNotOf g) run_is not_run)))
  updated told frames t run after left more (runs r late run_is of holds not_left telling) holding update = by_update update
    where
      differ : frames + 1 ≢ g
      differ = λ (same : frames + 1 ≡ g). omega (arith, same, late)

      by_update : IsUpdated x (frames + 1) t run after more → IsToldSoFar P g told (frames + 1) t after (left ++ more)
      by_update (keeps same nothing) = runs r (omega (arith, late)) (same ∙ run_is) of holds (none_more left more not_left nothing) telling
      by_update (starts new nothing) =
          over (omega (arith, late)) (new_not_of (frames + 1) t after differ new) (none_more left more not_left nothing)
          (front P r g told (count_seen r.seen) of holds telling.told_is)
      by_update (cancels s run_is' new more_is) =
          let same : s ≡ r = cc in
          leaves (gone_item x.property r t) (omega (arith, late)) (new_not_of (frames + 1) t after differ new)
          (ap (λ gs. gs ++ more) not_left ∙ more_is ∙ ap (λ (y : Transition). filter (is_gone_of x) (gone_item x.property y t ∷ [])) same ∙ own_item r t of)
          (leaving_now told r t of holds telling)
  updated told frames t run after left more (leaves y late not_run left_is leaving) holding update =
      leaves y (omega (arith, late)) (others_after (frames + 1) t run after more (λ (same : frames + 1 ≡ g). omega (arith, same, late)) not_run update)
      (ap (λ gs. left ++ gs) (none_of_others (frames + 1) t run after more not_run update) ∙ append-nil left ∙ left_is) leaving
  updated told frames t run after left more (over late not_run not_left course) holding update =
      over (omega (arith, late)) (others_after (frames + 1) t run after more (λ (same : frames + 1 ≡ g). omega (arith, same, late)) not_run update)
      (none_more left more not_left (none_of_others (frames + 1) t run after more not_run update)) course

  -- ---- edits

  none_cancelled : (t : ℤ) (run : Option Transition) → IsNotOf g run → cancelled_now x t run ≡ []
  none_cancelled t None not_run = refl
  none_cancelled t (Some r) not_run = other_item r t not_run

  -- the element is removed
  pub removed : (told : List Occurrence) (frames : ℕ) (t : ℤ) (run : Option Transition) (left : List Gone) → IsToldSoFar P g told frames t run left
      → IsToldSoFar P g told frames t None (left ++ cancelled_now x t run)
  removed told frames t run left (waits early none not_run not_left) =
      waits early none tt (none_more left (cancelled_now x t run) not_left (none_cancelled t run not_run))
  removed told frames t run left (runs r late run_is of holds not_left telling) =
      leaves (gone_item x.property r t) late tt
      (ap (λ gs. gs ++ cancelled_now x t run) not_left ∙ ap (cancelled_now x t) run_is ∙ own_item r t of) (leaving_now told r t of holds telling)
  removed told frames t run left (leaves y late not_run left_is leaving) =
      leaves y late tt (ap (λ gs. left ++ gs) (none_cancelled t run not_run) ∙ append-nil left ∙ left_is) leaving
  removed told frames t run left (over late not_run not_left course) =
      over late tt (none_more left (cancelled_now x t run) not_left (none_cancelled t run not_run)) course

  none_front : (left more : List Gone) → left ++ more ≡ [] → left ≡ []
  none_front [] more none = refl
  none_front (y ∷ left) more none = absurd (cc)

  -- nothing of it runs or waits any more but the first
  pub dropped : (told : List Occurrence) (frames : ℕ) (t : ℤ) (run : Option Transition) (left more : List Gone) → IsToldSoFar P g told frames t run (left ++ more)
      → IsToldSoFar P g told frames t None left
  dropped told frames t run left more (waits early none not_run not_left) = waits early none tt (none_front left more not_left)
  dropped told frames t run left more (runs r late run_is of holds not_left telling) =
      over late tt (none_front left more not_left) (front P r g told (count_seen r.seen) of holds telling.told_is)
  dropped told frames t run [] more (leaves y late not_run left_is leaving) =
      over late tt refl (front P leaving.item g told (count_seen y.seen) leaving.of leaving.holds leaving.told_is)
  dropped told frames t run (z ∷ left) more (leaves y late not_run left_is leaving) =
      let none : left ++ more ≡ [] = cc in
      let same : z ≡ y = cc in
      leaves y late tt (ap (λ gs. z ∷ gs) (none_front left more none) ∙ ap (λ (g : Gone). g ∷ []) same) leaving
  dropped told frames t run left more (over late not_run not_left course) = over late tt (none_front left more not_left) course

  -- time passes
  pub later : (told : List Occurrence) (frames : ℕ) (t u : ℤ) (run : Option Transition) (left : List Gone) → t ≤ℤ u → IsToldSoFar P g told frames t run left
      → IsToldSoFar P g told frames u run left
  later told frames t u run left rise (waits early none not_run not_left) = waits early none not_run not_left
  later told frames t u run left rise (runs r late run_is of holds not_left telling) =
      let rises = phases_rise r.start.0 r.end.0 t u rise in
      let came = telling.come in
      let since = telling.created in
      runs r late run_is of holds not_left (record { told_is = telling.told_is; come = omega (arith, rises, came); created = omega (arith, ints, since, rise) })
  later told frames t u run left rise (leaves y late not_run left_is leaving) = leaves y late not_run left_is leaving
  later told frames t u run left rise (over late not_run not_left course) = over late not_run not_left course
