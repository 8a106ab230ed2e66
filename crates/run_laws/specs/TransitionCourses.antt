-- The course of a transition that may be cancelled (CSS Transitions Level 2, "Event dispatch").
use Rattle.std.specs.Prelude.{◌≡◌, ◌⊎◌, ℕ, ◌<◌, ◌≤◌, ℤ, ◌≤ℤ◌, List, [], ◌∷◌, ◌++◌, map, take}
use Rattle.style_data.specs.declared.event.EventKind.{EventKind}
use Rattle.style_data.specs.declared.event.EventKind.TheVariants.{Run, Start, End, Cancel}
use Rattle.style_data.specs.declared.transition.Phase.{Phase}
use Rattle.style_data.specs.declared.transition.Phase.TheVariants.{Idle, Before, Active, After}
use Rattle.style_data.specs.declared.transition.Transition.{Transition}
use Rattle.ticker.specs.Courses.{whole_course}
use Rattle.ticker.specs.Events.{occurrence}
use Rattle.transition_start.specs.Phase.{phase_of}
use Rattle.transition_start.specs.Results.{elapsed_at}
use Rattle.run_laws.specs.Occurrences.{Occurrence}

-- it is cancelled at this time
abbrev pub transitioncancel : Transition → ℤ → Occurrence
transitioncancel r t = occurrence Cancel (elapsed_at r t) t

-- how many events of its whole course a transition has had that was seen in this phase
abbrev pub count_seen : Phase → ℕ
count_seen Idle = 0
count_seen Before = 1
count_seen Active = 2
count_seen After = 3

-- a course is cut off at this time, after so many events: it has run, and hadn't ended, and what was told had come by then
pub record IsCutOff (r : Transition) (n : ℕ) (t : ℤ) : Type 0 where
  pub seen : 0 < n
  pub unended : n < 3
  pub come : n ≤ count_seen (phase_of r t)
  pub created : r.created.0 ≤ℤ t

-- the transition so far: the first events of its whole course, or some of them and its cancel
abbrev pub IsCourseOf : Transition → List Occurrence → Type 0
IsCourseOf r told =
    ((n : ℕ) × (told ≡ take n (whole_course r)))
    ⊎ ((n : ℕ) × (t : ℤ) × IsCutOff r n t × (told ≡ take n (whole_course r) ++ transitioncancel r t ∷ []))

-- nothing, or the course so far of a transition of this generation of which this holds
abbrev pub IsCourse : (Transition → Type 0) → ℕ → List Occurrence → Type 0
IsCourse P generation told = (told ≡ []) ⊎ ((r : Transition) × (r.generation ≡ generation) × P r × IsCourseOf r told)

-- the kinds in turn, each once at most, and none before what comes before it: an end and a cancel never both
abbrev pub AreInTurn : List EventKind → Type 0
AreInTurn kinds =
    (kinds ≡ []) ⊎ (kinds ≡ Run ∷ []) ⊎ (kinds ≡ Run ∷ Start ∷ []) ⊎ (kinds ≡ Run ∷ Start ∷ End ∷ [])
    ⊎ (kinds ≡ Run ∷ Cancel ∷ []) ⊎ (kinds ≡ Run ∷ Start ∷ Cancel ∷ [])

-- the scheduled times of what is told
abbrev pub times_of : List Occurrence → List ℤ
times_of told = map (λ o. o.time.0) told
