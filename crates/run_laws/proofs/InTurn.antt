-- The kinds of a course come in turn.
use Rattle.std.proofs.Common.{◌≡◌, ℕ, zero, suc, refl, ap, sym, inl, inr, arith, List, [], ◌∷◌, ◌++◌, map, take}
use Rattle.std.specs.Prelude.{ℤ}
use Rattle.style_data.specs.declared.event.Event.{Event}
use Rattle.style_data.specs.declared.event.EventKind.{EventKind}
use Rattle.style_data.specs.declared.transition.Transition.{Transition}
use Rattle.ticker.specs.Courses.{whole_course}
use Rattle.run_laws.specs.Occurrences.{Occurrence}
use Rattle.run_laws.specs.TransitionCourses.{AreInTurn, IsCourse, IsCourseOf, IsCutOff, transitioncancel}
use Rattle.run_laws.specs.TransitionNames.{occurrence_told}

abbrev kinds_of : List Occurrence → List EventKind
kinds_of told = map (λ o. o.kind) told

first_kinds : (r : Transition) (n : ℕ) → AreInTurn (kinds_of (take n (whole_course r)))
first_kinds r zero = inl refl
first_kinds r (suc zero) = inr (inl refl)
first_kinds r (suc (suc zero)) = inr (inr (inl refl))
first_kinds r (suc (suc (suc n))) = inr (inr (inr (inl (past n))))
  where
    past : (n : ℕ) → kinds_of (take (suc (suc (suc n))) (whole_course r)) ≡ kinds_of (whole_course r)
    past zero = refl
    past (suc n) = refl

cut_kinds : (r : Transition) (n : ℕ) (t : ℤ) → IsCutOff r n t → AreInTurn (kinds_of (take n (whole_course r) ++ transitioncancel r t ∷ []))
cut_kinds r zero t off = let seen = off.seen in absurd (omega (arith, seen))
cut_kinds r (suc zero) t off = inr (inr (inr (inr (inl refl))))
cut_kinds r (suc (suc zero)) t off = inr (inr (inr (inr (inr refl))))
cut_kinds r (suc (suc (suc n))) t off = let unended = off.unended in absurd (omega (arith, unended))

of_course : (r : Transition) (told : List Occurrence) → IsCourseOf r told → AreInTurn (kinds_of told)
of_course r told (inl is) = rw is.1 (first_kinds r is.0)
of_course r told (inr is) = rw is.3 (cut_kinds r is.0 is.1 is.2)

course_kinds : (P : Transition → Type 0) (g : ℕ) (told : List Occurrence) → IsCourse P g told → AreInTurn (kinds_of told)
course_kinds P g told (inl none) = rw none (inl refl)
course_kinds P g told (inr is) = of_course is.0 told is.3

event_kinds : (events : List Event) → kinds_of (map occurrence_told events) ≡ map (λ (e : Event). e.kind) events
event_kinds [] = refl
event_kinds (e ∷ events) = ap (λ ks. e.kind ∷ ks) (event_kinds events)

pub in_turn : (P : Transition → Type 0) (g : ℕ) (events : List Event) → IsCourse P g (map occurrence_told events) → AreInTurn (map (λ e. e.kind) events)
in_turn P g events is = rw (sym (event_kinds events)) (course_kinds P g (map occurrence_told events) is)
