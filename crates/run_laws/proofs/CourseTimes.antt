-- The scheduled times of a course never fall.
use Rattle.std.proofs.Common.{◌≡◌, ℕ, zero, suc, ◌≤◌, refl, sym, inl, inr, subst, arith, Bool, true, false, List, [], ◌∷◌, ◌++◌, take}
use Rattle.std.specs.Prelude.{ℤ, ◌≤ℤ◌, int_le, int_lt, if◌then◌else◌}
use Rattle.std.specs.Int.{int_max}
use Rattle.std.proofs.lemmas.Int.{ints, clamps}
use Rattle.style_data.specs.declared.transition.Phase.TheVariants.{Before, Active, After}
use Rattle.style_data.specs.declared.transition.Transition.{Transition}
use Rattle.ticker.specs.Courses.{NeverFall, whole_course}
use Rattle.run_laws.specs.Occurrences.{Occurrence}
use Rattle.run_laws.specs.TransitionCourses.{IsCourse, IsCourseOf, IsCutOff, count_seen, times_of, transitioncancel}

one_rises : (a : ℤ) → NeverFall (a ∷ [])
one_rises a i j d less short = absurd (omega (arith, less, short))

two_rise : (a b : ℤ) → a ≤ℤ b → NeverFall (a ∷ b ∷ [])
two_rise a b ab zero zero d less short = absurd (omega (arith, less))
two_rise a b ab zero (suc zero) d less short = ab
two_rise a b ab i j d less short = absurd (omega (arith, less, short))

three_rise : (a b c : ℤ) → a ≤ℤ b → a ≤ℤ c → b ≤ℤ c → NeverFall (a ∷ b ∷ c ∷ [])
three_rise a b c ab ac bc zero zero d less short = absurd (omega (arith, less))
three_rise a b c ab ac bc zero (suc zero) d less short = ab
three_rise a b c ab ac bc zero (suc (suc zero)) d less short = ac
three_rise a b c ab ac bc (suc zero) (suc (suc zero)) d less short = bc
three_rise a b c ab ac bc i j d less short = absurd (omega (arith, less, short))

pub by_max : (a b : ℤ) → a ≤ℤ int_max a b
by_max a b = omega (arith, ints, clamps)

pub maxes : (a b c : ℤ) → b ≤ℤ c → int_max a b ≤ℤ int_max a c
maxes a b c less = omega (arith, ints, clamps)

max_within : (a b c : ℤ) → a ≤ℤ c → b ≤ℤ c → int_max a b ≤ℤ c
max_within a b c ac bc = omega (arith, ints, clamps)

-- what is active, or has been, has started
started_by : (start end t : ℤ) → start ≤ℤ end → 2 ≤ count_seen (if int_le end t then After else if int_lt t start then Before else Active) → start ≤ℤ t
started_by start end t ordered come = go (int_le end t) refl (int_lt t start) refl come
  where
    is_most : (a b : ℤ) → int_le a b ≡ true → a ≤ℤ b
    is_most a b e = grind (arith, ints)

    not_less : (a b : ℤ) → int_lt a b ≡ false → b ≤ℤ a
    not_less a b e = grind (arith, ints)

    go : (a : Bool) → int_le end t ≡ a → (b : Bool) → int_lt t start ≡ b → 2 ≤ count_seen (if a then After else if b then Before else Active) → start ≤ℤ t
    go true ea b eb come = let h = is_most end t ea in omega (arith, ints, h, ordered)
    go false ea true eb come = absurd (omega (arith, come))
    go false ea false eb come = not_less t start eb

module _ (r : Transition) (ordered : r.start.0 ≤ℤ r.end.0) where
  first_rise : (n : ℕ) → NeverFall (times_of (take n (whole_course r)))
  first_rise zero = λ i j d less short. absurd (omega (arith, short))
  first_rise (suc zero) = one_rises r.created.0
  first_rise (suc (suc zero)) = two_rise r.created.0 (int_max r.created.0 r.start.0) (by_max r.created.0 r.start.0)
  first_rise (suc (suc (suc n))) =
      subst NeverFall (sym (past n))
      (three_rise r.created.0 (int_max r.created.0 r.start.0) (int_max r.created.0 r.end.0) (by_max r.created.0 r.start.0) (by_max r.created.0 r.end.0)
      (maxes r.created.0 r.start.0 r.end.0 ordered))
    where
      past : (n : ℕ) → times_of (take (suc (suc (suc n))) (whole_course r)) ≡ times_of (whole_course r)
      past zero = refl
      past (suc n) = refl

  cut_rise : (n : ℕ) (t : ℤ) → IsCutOff r n t → NeverFall (times_of (take n (whole_course r) ++ transitioncancel r t ∷ []))
  cut_rise zero t off = let seen = off.seen in absurd (omega (arith, seen))
  cut_rise (suc zero) t off = two_rise r.created.0 t off.created
  cut_rise (suc (suc zero)) t off =
      three_rise r.created.0 (int_max r.created.0 r.start.0) t (by_max r.created.0 r.start.0) off.created
      (max_within r.created.0 r.start.0 t off.created (started_by r.start.0 r.end.0 t ordered off.come))
  cut_rise (suc (suc (suc n))) t off = let unended = off.unended in absurd (omega (arith, unended))

  pub course_rises : (told : List Occurrence) → IsCourseOf r told → NeverFall (times_of told)
  course_rises told (inl is) = subst (λ os. NeverFall (times_of os)) (sym is.1) (first_rise is.0)
  course_rises told (inr is) = subst (λ os. NeverFall (times_of os)) (sym is.3) (cut_rise is.0 is.1 is.2)

pub told_rises : (P : Transition → Type 0) (g : ℕ) (told : List Occurrence) → ((r : Transition) → P r → r.start.0 ≤ℤ r.end.0) → IsCourse P g told → NeverFall (times_of told)
told_rises P g told ordered (inl none) = subst (λ os. NeverFall (times_of os)) (sym none) (λ i j d less short. absurd (omega (arith, short)))
told_rises P g told ordered (inr is) = course_rises is.0 (ordered is.0 is.2) told is.3
