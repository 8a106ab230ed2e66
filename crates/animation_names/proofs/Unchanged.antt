-- Lists that stay the same change nothing.
use Rattle.std.proofs.Common.{◌≡◌, ◌∙◌, ℕ, ◌<◌, ◌≤◌, length, refl, sym, ap, subst, arith, inl, inr}
use Rattle.std.specs.Prelude.{◌⊎◌, Bool, true, false, List, [], slice_get, is_some, Option, None, Some, option_map, if◌then◌else◌}
use Rattle.std.specs.Option.{option_and_then}
use Rattle.std.proofs.lemmas.Bool.{cases_lt}
use Rattle.std.proofs.lemmas.Option.{slice_get_past}
use Rattle.fix_num.specs.declared.units.Micros.{Micros}
use Rattle.style_data.specs.declared.animation.AnimationState.{AnimationState}
use Rattle.timing_types.specs.TimingLists.{AnimationValues, no_time}
use Rattle.animation_names.specs.Continuing.{animation_from, cancelled_animation, continued_animation, is_paused_at, started_animation, timing_at}
use Rattle.animation_names.specs.NameLists.{NamesUpdate, animated_name, has_keyframes, name_at, old_name_at}
use Rattle.animation_names.specs.Numbered.{given_below}
use Rattle.animation_names.specs.Pairings.{HaveOneName, IsPairing, StandsAfter}
use Rattle.animation_names.specs.Updates.{AreAnimationsOf, IsAnimationOf, animation_at, animation_taking, animations_after, gone_after, gone_leaving, kept_at, some_takes}
use Rattle.animation_names.proofs.Keeping.{animations-by, from-name, from-place, gone-by, played-same, played-state, played-timing, some_takes-there}
use Rattle.animation_names.proofs.NumberedLemmas.{IsGivenAt, get-given, given-get, given-none, given-same, length-given, length-grows}

-- ---- one animation

-- one that stands at its place with its timing, and doesn't pause or run again, stays as it is
same_continued : (lists : AnimationValues) (time : Micros) (i : ℕ) (a : AnimationState) → a.place ≡ i → a.timing ≡ timing_at lists i
    → is_some a.hold ≡ is_paused_at lists i → continued_animation lists time i a ≡ a
unfolding continued_animation
same_continued lists time i a placed timed state =
    played-same (record a { place = i; timing = timing_at lists i }) (is_paused_at lists i) time.0 state
    ∙ (ap (λ k. record a { place = k; timing = timing_at lists i }) (sym placed) ∙ ap (λ t. record a { timing = t }) (sym timed))

pub kept_start : (u : NamesUpdate) (i : ℕ) (name : List ℕ) (a : AnimationState) → name_at u i ≡ Some name → kept_at u.old u.lists.names i name ≡ Some a
    → is_some a.hold ≡ is_paused_at u.lists i → animation_at u i ≡ Some (record a { place = i; timing = timing_at u.lists i })
unfolding continued_animation
kept_start u i name a named kept state =
    ap (option_map (λ n. animation_from u i n (kept_at u.old u.lists.names i n))) named
    ∙ ap (λ o. Some (animation_from u i name o)) kept
    ∙ ap Some (played-same (record a { place = i; timing = timing_at u.lists i }) (is_paused_at u.lists i) u.time.0 state)

-- ---- what an event leaves

from-timing : (u : NamesUpdate) (i : ℕ) (name : List ℕ) (o : Option AnimationState) → (animation_from u i name o).timing ≡ timing_at u.lists i
unfolding continued_animation started_animation
from-timing u i name None = refl
from-timing u i name (Some a) = played-timing (record a { place = i; timing = timing_at u.lists i }) (is_paused_at u.lists i) u.time.0

from-state : (u : NamesUpdate) (i : ℕ) (name : List ℕ) (o : Option AnimationState) → is_some (animation_from u i name o).hold ≡ is_paused_at u.lists i
unfolding continued_animation started_animation
from-state u i name None = go (is_paused_at u.lists i) where
  go : (b : Bool) → is_some (if b then Some no_time else None) ≡ b
  go true = refl
  go false = refl
from-state u i name (Some a) = played-state (record a { place = i; timing = timing_at u.lists i }) (is_paused_at u.lists i) u.time.0

pub left_of_lists : (u : NamesUpdate) → AreAnimationsOf u.lists u.sheets (animations_after u)
unfolding animations_after
left_of_lists u = record { at = animation_at u; list = refl; each = λ i. each i (name_at u i) } where
  each : (i : ℕ) (o : Option (List ℕ)) → IsAnimationOf u.lists i o (option_map (λ name. animation_from u i name (kept_at u.old u.lists.names i name)) o)
  each i None = tt
  each i (Some n) =
      let kept = kept_at u.old u.lists.names i n in
      (from-name u i n, from-place u i n kept, from-timing u i n kept, from-state u i n kept)

-- ---- what the same lists leave

module _ (u : NamesUpdate) (h : AreAnimationsOf u.lists u.sheets u.old) where
  -- each place takes its own animation
  abbrev own : ℕ → Option ℕ
  own i = option_map (λ a. length (given_below h.at i)) (h.at i)

  -- a place that has an animation
  record HasOwn (i j : ℕ) : Type 0 where
    pub animation : AnimationState
    pub has : h.at i ≡ Some animation
    pub name : name_at u i ≡ Some animation.name
    pub placed : animation.place ≡ i
    pub timed : animation.timing ≡ timing_at u.lists i
    pub state : is_some animation.hold ≡ is_paused_at u.lists i
    pub within : i < length u.lists.names
    pub index : length (given_below h.at i) ≡ j
    pub stands : slice_get u.old j ≡ Some animation

  within_names : (i : ℕ) (n : List ℕ) → name_at u i ≡ Some n → i < length u.lists.names
  within_names i n e = go (cases_lt i (length u.lists.names)) where
    go : (i < length u.lists.names) ⊎ (length u.lists.names ≤ i) → i < length u.lists.names
    go (inl less) = less
    go (inr more) = let none = ap (option_and_then (animated_name (has_keyframes u.sheets))) (slice_get_past u.lists.names i more) in cc

  has_own : (i : ℕ) (a : AnimationState) → h.at i ≡ Some a → HasOwn i (length (given_below h.at i))
  has_own i a e = go (name_at u i) refl (subst (IsAnimationOf u.lists i (name_at u i)) e (h.each i)) where
    go : (o : Option (List ℕ)) → name_at u i ≡ o → IsAnimationOf u.lists i o (Some a) → HasOwn i (length (given_below h.at i))
    go None f g = absurd g
    go (Some n) f g =
        let within = within_names i n f in
        record {
          animation = a;
          has = e;
          name = f ∙ ap Some (sym g.0);
          placed = g.1;
          timed = g.2;
          state = g.3;
          within = within;
          index = refl;
          stands = ap (λ xs. slice_get xs (length (given_below h.at i))) h.list ∙ get-given h.at i (length u.lists.names) a within e;
        }

  own_taken : (i j : ℕ) → own i ≡ Some j → HasOwn i j
  own_taken i j e = go (h.at i) refl e where
    go : (o : Option AnimationState) → h.at i ≡ o → option_map (λ a. length (given_below h.at i)) o ≡ Some j → HasOwn i j
    go None f e = cc
    go (Some a) f e = let same : length (given_below h.at i) ≡ j = cc in subst (HasOwn i) same (has_own i a f)

  -- a place with a name has one
  own_named : (i : ℕ) (n : List ℕ) → name_at u i ≡ Some n → HasOwn i (length (given_below h.at i))
  own_named i n e = go (h.at i) refl (h.each i) where
    go : (o : Option AnimationState) → h.at i ≡ o → IsAnimationOf u.lists i (name_at u i) o → HasOwn i (length (given_below h.at i))
    go (Some a) f g = has_own i a f
    go None f g = absurd (subst (λ m. IsAnimationOf u.lists i m None) e g)

  takes_own : (i j : ℕ) → HasOwn i j → own i ≡ Some j
  takes_own i j t = ap (option_map (λ (a : AnimationState). length (given_below h.at i))) t.has ∙ ap Some t.index

  -- an animation of the list stands there for a place
  for_place : (j : ℕ) (a : AnimationState) → slice_get u.old j ≡ Some a → IsGivenAt h.at (length u.lists.names) j a
  for_place j a e = given-get h.at (length u.lists.names) j a (ap (λ xs. slice_get xs j) (sym h.list) ∙ e)

  own_pairing : IsPairing (name_at u) (old_name_at u) own
  own_pairing = record {
    named = λ i j e. let t = own_taken i j e in (t.animation.name, t.name, ap (option_map (λ (a : AnimationState). a.name)) t.stands);
    once = λ i k j less e f.
        let t = own_taken i j f in let v = own_taken k j e in
        omega (arith, length-given h.at i k t.animation less t.has, t.index, v.index);
    last = last;
  } where
    last : (i j : ℕ) → HaveOneName (name_at u i) (old_name_at u j) → StandsAfter (own i) j → (k : ℕ) × (i < k) × (own k ≡ Some j)
    last i j named after = go (slice_get u.old j) refl named.2 where
      t : HasOwn i (length (given_below h.at i))
      t = own_named i named.0 named.1

      later : length (given_below h.at i) < j
      later = subst (λ o. StandsAfter o j) (takes_own i (length (given_below h.at i)) t) after

      go : (o : Option AnimationState) → slice_get u.old j ≡ o → option_map (λ (a : AnimationState). a.name) o ≡ Some named.0 → (k : ℕ) × (i < k) × (own k ≡ Some j)
      go None f g = cc
      go (Some a) f g =
          let r = for_place j a f in
          (r.number, further r.number r.place (cases_lt i r.number), ap (option_map (λ (x : AnimationState). length (given_below h.at r.number))) r.gives ∙ ap Some r.place) where
            further : (k : ℕ) → length (given_below h.at k) ≡ j → (i < k) ⊎ (k ≤ i) → i < k
            further k e (inl less) = less
            further k e (inr more) = absurd (omega (arith, later, e, length-grows h.at k i more))

  own_animation : (i : ℕ) → animation_taking u own i ≡ h.at i
  own_animation i = go (h.at i) refl (h.each i) where
    none : (o : Option (List ℕ)) → IsAnimationOf u.lists i o None → (f : List ℕ → AnimationState) → option_map f o ≡ None
    none None g f = refl
    none (Some n) g f = absurd g

    go : (o : Option AnimationState) → h.at i ≡ o → IsAnimationOf u.lists i (name_at u i) o → animation_taking u own i ≡ o
    go None e g = none (name_at u i) g (λ name. animation_from u i name (option_and_then (slice_get u.old) (own i)))
    go (Some a) e g =
        let t = has_own i a e in
        let same : t.animation ≡ a = cc in
        ap (option_map (λ name. animation_from u i name (option_and_then (slice_get u.old) (own i)))) t.name
        ∙ ap (λ o. Some (animation_from u i t.animation.name o)) (ap (option_and_then (slice_get u.old)) (takes_own i (length (given_below h.at i)) t) ∙ t.stands)
        ∙ ap Some (same_continued u.lists u.time i t.animation t.placed t.timed t.state ∙ same)

  pub same_animations : animations_after u ≡ u.old
  same_animations =
      sym (animations-by u own own_pairing) ∙ (given-same (animation_taking u own) h.at (length u.lists.names) (λ i less. own_animation i) ∙ sym h.list)

  pub none_gone : gone_after u ≡ []
  none_gone = sym (gone-by u own own_pairing) ∙ given-none (gone_leaving u own) (length u.old) (λ j less. go j less (slice_get u.old j) refl) where
    go : (j : ℕ) → j < length u.old → (o : Option AnimationState) → slice_get u.old j ≡ o
        → (if some_takes own (length u.lists.names) j then None else option_map (cancelled_animation u.time) (slice_get u.old j)) ≡ None
    go j less None e = either (some_takes own (length u.lists.names) j) where
      either : (b : Bool) → (if b then None else option_map (cancelled_animation u.time) (slice_get u.old j)) ≡ None
      either true = refl
      either false = ap (option_map (cancelled_animation u.time)) e
    go j less (Some a) e =
        let r = for_place j a e in
        let mine : own r.number ≡ Some j = ap (option_map (λ (x : AnimationState). length (given_below h.at r.number))) r.gives ∙ ap Some r.place in
        ap (λ b. if b then None else option_map (cancelled_animation u.time) (slice_get u.old j)) (some_takes-there own (length u.lists.names) r.number j r.below mine)
