-- Each animation goes on at one place or is cancelled, and one at most starts at a place.
use Rattle.std.proofs.Common.{◌≡◌, ◌≢◌, ◌∙◌, ap, sym, refl, arith, inl, inr, ℕ, zero, suc, ◌+◌, ◌≤◌, length, List, [], ◌∷◌, Bool, true, false, Option, None, Some}
use Rattle.std.specs.Prelude.{◌==◌, ◌||◌, option_map, slice_get, if◌then◌else◌}
use Rattle.std.specs.Option.{option_and_then, option_map_or, option_to_list}
use Rattle.std.proofs.lemmas.Bool.{cases_Bool, cases_lt, eq-eqb, ne_eqb}
use Rattle.std.proofs.lemmas.Option.{slice_get_past}
use Rattle.animation_names.proofs.Keeping.{animations-by, gone-by, pairing, some_takes-found, takes_of}
use Rattle.animation_names.specs.Continuing.{animation_from, cancelled_animation, continued_animation, is_paused_at, started_animation}
use Rattle.animation_names.specs.NameLists.{NamesUpdate, name_at, old_name_at}
use Rattle.animation_names.specs.Numbered.{given_below}
use Rattle.animation_names.specs.Pairings.{IsPairing}
use Rattle.animation_names.specs.Updates.{animation_taking, animations_after, gone_after, gone_leaving, some_takes}
use Rattle.fix_num.specs.declared.units.Micros.{Micros}
use Rattle.style_data.specs.declared.animation.AnimationState.{AnimationState}
use Rattle.ticker.specs.Events.{standing}
use Rattle.ticker.specs.declared.event.Standing.{Standing}
use Rattle.restyle.specs.Distinct.{origin_of_animation, origin_of_gone}
use Rattle.restyle.proofs.EffectCounts.{animation_count, gone_count}
use Rattle.restyle.proofs.OriginCounts.{below-alike, below-no_more, below-one, below-same, below-without, given, is_one, none_of_other, total, total-append, total-cons, total-nil, total-same, total_below}

-- ---- numbers

given_total : {X : Type 0} (f : X → ℕ) (o : Option X) → total f (option_to_list o) ≡ given f o
given_total f None = total-nil f
given_total f (Some x) = omega (arith, total-cons f x [], total-nil f)

total-given_below : {X : Type 0} (f : X → ℕ) (g : ℕ → Option X) (n : ℕ) → total f (given_below g n) ≡ total_below (λ i. given f (g i)) n
unfolding given_below
total-given_below f g zero = total-nil f
total-given_below f g (suc n) = omega (arith, total-append f (given_below g n) (option_to_list (g n)), given_total f (g n), total-given_below f g n)

first_below : (f : ℕ → ℕ) (n : ℕ) → total_below f (suc n) ≡ f 0 + total_below (λ i. f (suc i)) n
first_below f zero = omega arith
first_below f (suc n) = omega (arith, first_below f n)

total-by_index : {X : Type 0} (f : X → ℕ) (xs : List X) → total f xs ≡ total_below (λ j. given f (slice_get xs j)) (length xs)
total-by_index f [] = total-nil f
total-by_index f (x ∷ xs) = omega (arith, total-cons f x xs, first_below (λ j. given f (slice_get (x ∷ xs) j)) (length xs), total-by_index f xs)

-- ---- one animation

-- an animation goes on with its origin, whether it pauses or runs
continued_origin : (u : NamesUpdate) (i : ℕ) (a : AnimationState) → origin_of_animation (continued_animation u.lists u.time i a) ≡ origin_of_animation a
unfolding continued_animation
continued_origin u i a = go a.hold refl (is_paused_at u.lists i) refl
  where
    go : (h : Option Micros) → a.hold ≡ h → (b : Bool) → is_paused_at u.lists i ≡ b → origin_of_animation (continued_animation u.lists u.time i a) ≡ origin_of_animation a
    go None held true paused = rw (held, paused) refl
    go None held false paused = rw (held, paused) refl
    go (Some h) held true paused = rw (held, paused) refl
    go (Some h) held false paused = rw (held, paused) refl

started_origin : (u : NamesUpdate) (i : ℕ) (name : List ℕ) → origin_of_animation (started_animation u.lists u.time u.generation u.position i name) ≡ standing 3 u.generation u.position i
unfolding started_animation
started_origin u i name = refl

-- and is cancelled with it
pub cancelled_origin : (t : Micros) (a : AnimationState) → origin_of_gone (cancelled_animation t a) ≡ origin_of_animation a
unfolding cancelled_animation
cancelled_origin t a = refl

pub cancelled_animations_count : (s : Standing) (t : Micros) (animations : List AnimationState) → total (λ a. gone_count s (cancelled_animation t a)) animations ≡ total (animation_count s) animations
cancelled_animations_count s t animations = total-same (λ a. gone_count s (cancelled_animation t a)) (animation_count s) animations (λ a. ap (is_one s) (cancelled_origin t a))

-- ---- a pairing

module _ (s : Standing) (u : NamesUpdate) (takes : ℕ → Option ℕ) (pairs : IsPairing (name_at u) (old_name_at u) takes) where
  abbrev old_count : ℕ → ℕ
  old_count j = given (animation_count s) (slice_get u.old j)

  abbrev new_count : ℕ → ℕ
  new_count i = is_one s (standing 3 u.generation u.position i)

  abbrev taken_count : ℕ → ℕ
  taken_count i = given old_count (takes i)

  -- what the first n places leave of the old animations
  abbrev left_count : ℕ → ℕ → ℕ
  left_count n j = if some_takes takes n j then 0 else old_count j

  goes_on_or_starts : (i : ℕ) (name : List ℕ) (a : Option AnimationState) → animation_count s (animation_from u i name a) ≤ given (animation_count s) a + new_count i
  goes_on_or_starts i name None = omega (arith, ap (is_one s) (started_origin u i name))
  goes_on_or_starts i name (Some a) = omega (arith, ap (is_one s) (continued_origin u i a))

  takes_or_starts : (i : ℕ) (name : List ℕ) (o : Option ℕ) → animation_count s (animation_from u i name (option_and_then (slice_get u.old) o)) ≤ given old_count o + new_count i
  takes_or_starts i name None = goes_on_or_starts i name None
  takes_or_starts i name (Some j) = goes_on_or_starts i name (slice_get u.old j)

  place_count : (i : ℕ) → given (animation_count s) (animation_taking u takes i) ≤ taken_count i + new_count i
  place_count i = named (name_at u i)
    where
      named : (o : Option (List ℕ))
          → given (animation_count s) (option_map (λ name. animation_from u i name (option_and_then (slice_get u.old) (takes i))) o) ≤ taken_count i + new_count i
      named None = omega arith
      named (Some name) = takes_or_starts i name (takes i)

  unless_taken : (b : Bool) (o : Option AnimationState)
      → given (gone_count s) (if b then None else option_map (cancelled_animation u.time) o) ≡ (if b then 0 else given (animation_count s) o)
  unless_taken true o = refl
  unless_taken false None = refl
  unless_taken false (Some a) = ap (is_one s) (cancelled_origin u.time a)

  -- no place before takes what a place takes
  free_before : (n j : ℕ) → takes n ≡ Some j → some_takes takes n j ≡ false
  free_before n j taken = elim (cases_Bool (some_takes takes n j)) [
    | inl earlier ↦ let found = some_takes-found takes n j earlier in absurd (pairs.once found.0 n j found.1 taken found.2)
    | inr free ↦ free
  ]

  left_same : (n j : ℕ) (b : Bool) → some_takes takes n j ≡ b → left_count n j ≡ (if b then 0 else old_count j)
  left_same n j b same = ap (λ (d : Bool). if d then 0 else old_count j) same

  place_taking : (n j : ℕ) (o : Option ℕ) → takes n ≡ o → some_takes takes (suc n) j ≡ (option_map_or (λ i. i == j) o false || some_takes takes n j)
  place_taking n j o same = ap (λ (o : Option ℕ). option_map_or (λ i. i == j) o false || some_takes takes n j) same

  taken_here : (n j : ℕ) → takes n ≡ Some j → taken_count n + total_below (left_count (suc n)) (length u.old) ≤ total_below (left_count n) (length u.old)
  taken_here n j some = elim (cases_lt j (length u.old)) [
    | inl within ↦ omega (arith, here, ap (given old_count) some, below-without (left_count n) (left_count (suc n)) j (length u.old) other none within)
    | inr past ↦ omega (
      arith,
      ap (given old_count) some,
      ap (given (animation_count s)) (slice_get_past u.old j past),
      below-alike (left_count n) (left_count (suc n)) (length u.old) (λ i less. other i (λ (is : i ≡ j). omega (arith, is, less, past))),
    )
  ]
    where
      here : left_count n j ≡ old_count j
      here = left_same n j false (free_before n j some)

      none : left_count (suc n) j ≡ 0
      none = left_same (suc n) j true (place_taking n j (Some j) some ∙ ap (λ b. b || some_takes takes n j) (eq-eqb j j refl))

      other : (i : ℕ) → i ≢ j → left_count (suc n) i ≡ left_count n i
      other i differ =
          left_same (suc n) i (some_takes takes n i)
          (place_taking n i (Some j) some ∙ ap (λ b. b || some_takes takes n i) (ne_eqb j i (λ (same : j ≡ i). differ (sym same))))

  taken_or_left : (n : ℕ) → total_below taken_count n + total_below (left_count n) (length u.old) ≤ total_below old_count (length u.old)
  taken_or_left zero = omega arith
  taken_or_left (suc n) = go (takes n) refl (taken_or_left n)
    where
      go : (o : Option ℕ) → takes n ≡ o → total_below taken_count n + total_below (left_count n) (length u.old) ≤ total_below old_count (length u.old)
          → (total_below taken_count n + taken_count n) + total_below (left_count (suc n)) (length u.old) ≤ total_below old_count (length u.old)
      go None none so_far =
          omega (
            arith,
            so_far,
            ap (given old_count) none,
            below-alike (left_count n) (left_count (suc n)) (length u.old) (λ j less. left_same (suc n) j (some_takes takes n j) (place_taking n j None none)),
          )
      go (Some j) some so_far = omega (arith, so_far, taken_here n j some)

  -- 1 where it is the origin of an animation that the event starts
  abbrev started_count : ℕ
  started_count = is_one s (standing 3 u.generation u.position s.third)

  new_places : (n : ℕ) → total_below new_count n ≤ started_count
  new_places n =
      below-one new_count s.third started_count n
      (λ i differ. none_of_other s (standing 3 u.generation u.position i) (λ (same : s ≡ standing 3 u.generation u.position i). differ (sym (ap (λ (o : Standing). o.third) same))))
      (omega arith)

  paired_count : total (animation_count s) (given_below (animation_taking u takes) (length u.lists.names)) + total (gone_count s) (given_below (gone_leaving u takes) (length u.old))
      ≤ total (animation_count s) u.old + started_count
  paired_count =
      omega (
        arith,
        total-given_below (animation_count s) (animation_taking u takes) (length u.lists.names),
        total-given_below (gone_count s) (gone_leaving u takes) (length u.old),
        total-by_index (animation_count s) u.old,
        below-no_more (λ i. given (animation_count s) (animation_taking u takes i)) taken_count new_count (length u.lists.names) place_count,
        new_places (length u.lists.names),
        taken_or_left (length u.lists.names),
        below-same (λ j. given (gone_count s) (gone_leaving u takes j)) (left_count (length u.lists.names)) (length u.old)
            (λ j. unless_taken (some_takes takes (length u.lists.names) j) (slice_get u.old j)),
      )

-- 1 where it is the origin of an animation that an event of this frame starts for an element at this position
abbrev pub new_animation_at : Standing → ℕ → ℕ → ℕ
new_animation_at s generation position = is_one s (standing 3 generation position s.third)

pub animations_count : (s : Standing) (u : NamesUpdate)
    → total (animation_count s) (animations_after u) + total (gone_count s) (gone_after u) ≤ total (animation_count s) u.old + new_animation_at s u.generation u.position
animations_count s u =
    omega (
      arith,
      paired_count s u (takes_of u) (pairing u),
      ap (total (animation_count s)) (animations-by u (takes_of u) (pairing u)),
      ap (total (gone_count s)) (gone-by u (takes_of u) (pairing u)),
    )
