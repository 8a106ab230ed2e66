-- What the functions keep is what the pairing by rank takes.
use Rattle.std.proofs.Common.{◌≡◌, ◌∙◌, ℕ, zero, suc, ◌<◌, ◌≤◌, length, refl, sym, ap, subst, arith, inl, inr}
use Rattle.std.specs.Prelude.{◌==◌, ◌⊎◌, ℤ, ◌||◌, ◌↔◌, Bool, true, false, cond, List, count_by, slice_get, is_some, Option, None, Some, option_map, if◌then◌else◌}
use Rattle.std.specs.Option.{option_and_then, option_map_or}
use Rattle.std.specs.Str.{bytes_eq}
use Rattle.std.proofs.lemmas.Bool.{cases_eq, eq-eqb, eqb-true, false≢true, lt-ltb, ltb-true}
use Rattle.std.proofs.lemmas.List.{take_all}
use Rattle.std.proofs.lemmas.Option.{slice_get_past, slice_get_within}
use Rattle.fix_num.specs.declared.units.Micros.{Micros}
use Rattle.style_data.specs.declared.animation.AnimationState.{AnimationState}
use Rattle.style_data.specs.declared.gone.Gone.{Gone}
use Rattle.style_data.specs.Entries.{AreAscending}
use Rattle.anim_timing.specs.Playing.{played, with_play_state}
use Rattle.animation_names.specs.Continuing.{animation_from, cancelled_animation, continued_animation, is_paused_at, started_animation, timing_at}
use Rattle.animation_names.specs.NameLists.{NamesUpdate, animated_name, called_after, has_keyframes, is_called, is_item, name_at, old_name_at, places_after}
use Rattle.animation_names.specs.Numbered.{given_below}
use Rattle.animation_names.specs.Pairings.{IsPairing}
use Rattle.animation_names.specs.Updates.{AreUpdated, animation_at, animation_taking, animations_after, goes_on, gone_after, gone_at, gone_leaving, kept_at, some_takes}
use Rattle.animation_names.proofs.NumberedLemmas.{count-given, count-none, given-ascends, given-same}
use Rattle.animation_names.proofs.OnePairing.{one_pairing}
use Rattle.animation_names.proofs.RankPairing.{bytes_same, item_place, named_place, pairing_by_rank, same_bytes, taken, takes_by_rank, takes_ranked}
use Rattle.animation_names.proofs.Ranks.{filled, index_has, index_with, item-from_end, rank, rank-drop, rank_below}

-- ---- tests

pub same_tests : (a b : Bool) → (a ≡ true → b ≡ true) → (b ≡ true → a ≡ true) → a ≡ b
same_tests true b to from = sym (to refl)
same_tests false true to from = absurd (false≢true (from refl))
same_tests false false to from = refl

pub some_takes-found : (takes : ℕ → Option ℕ) (n j : ℕ) → some_takes takes n j ≡ true → (i : ℕ) × (i < n) × (takes i ≡ Some j)
some_takes-found takes zero j e = absurd (false≢true e)
some_takes-found takes (suc n) j e = go (takes n) refl (some_takes-found takes n j) e where
  back : ((i : ℕ) × (i < n) × (takes i ≡ Some j)) → (i : ℕ) × (i < suc n) × (takes i ≡ Some j)
  back r = (r.0, omega (arith, r.1), r.2)

  go : (o : Option ℕ) → takes n ≡ o → (some_takes takes n j ≡ true → (i : ℕ) × (i < n) × (takes i ≡ Some j))
      → (option_map_or (λ i. i == j) o false || some_takes takes n j) ≡ true → (i : ℕ) × (i < suc n) × (takes i ≡ Some j)
  go None f rest e = back (rest e)
  go (Some m) f rest e = at (m == j) refl e where
    at : (b : Bool) → (m == j) ≡ b → (b || some_takes takes n j) ≡ true → (i : ℕ) × (i < suc n) × (takes i ≡ Some j)
    at true g e = (n, omega arith, f ∙ ap Some (eqb-true m j g))
    at false g e = back (rest e)

pub some_takes-there : (takes : ℕ → Option ℕ) (n i j : ℕ) → i < n → takes i ≡ Some j → some_takes takes n j ≡ true
some_takes-there takes zero i j less e = absurd (omega arith)
some_takes-there takes (suc n) i j less e = go (cases_eq i n) (some_takes-there takes n i j) where
  or_true : (b : Bool) → (b || true) ≡ true
  or_true true = refl
  or_true false = refl

  go : (i ≡ n) ⊎ (i ≡ n → ⊥) → (i < n → takes i ≡ Some j → some_takes takes n j ≡ true) → (option_map_or (λ k. k == j) (takes n) false || some_takes takes n j) ≡ true
  go (inl same) rest =
      ap (λ o. option_map_or (λ k. k == j) o false || some_takes takes n j) (ap takes (sym same) ∙ e) ∙ ap (λ b. b || some_takes takes n j) (eq-eqb j j refl)
  go (inr unlike) rest =
      ap (λ b. option_map_or (λ k. k == j) (takes n) false || b) (rest (omega arith) e) ∙ or_true (option_map_or (λ k. k == j) (takes n) false)

pub some_takes-same : (takes other : ℕ → Option ℕ) → ((i : ℕ) → takes i ≡ other i) → (n j : ℕ) → some_takes takes n j ≡ some_takes other n j
some_takes-same takes other same zero j = refl
some_takes-same takes other same (suc n) j =
    ap (λ o. option_map_or (λ i. i == j) o false || some_takes takes n j) (same n)
    ∙ ap (λ b. option_map_or (λ i. i == j) (other n) false || b) (some_takes-same takes other same n j)

-- ---- names

-- pausing and running keep all but the start and the hold
pub played-name : (a : AnimationState) (paused : Bool) (t : ℤ) → (played a paused t).name ≡ a.name
played-name a paused t = go a.hold paused where
  go : (h : Option Micros) (b : Bool) → (with_play_state a h b t).name ≡ a.name
  go None true = refl
  go None false = refl
  go (Some h) true = refl
  go (Some h) false = refl

pub played-place : (a : AnimationState) (paused : Bool) (t : ℤ) → (played a paused t).place ≡ a.place
played-place a paused t = go a.hold paused where
  go : (h : Option Micros) (b : Bool) → (with_play_state a h b t).place ≡ a.place
  go None true = refl
  go None false = refl
  go (Some h) true = refl
  go (Some h) false = refl

pub played-timing : (a : AnimationState) (paused : Bool) (t : ℤ) → (played a paused t).timing ≡ a.timing
played-timing a paused t = go a.hold paused where
  go : (h : Option Micros) (b : Bool) → (with_play_state a h b t).timing ≡ a.timing
  go None true = refl
  go None false = refl
  go (Some h) true = refl
  go (Some h) false = refl

-- and after it the animation is paused or not
pub played-state : (a : AnimationState) (paused : Bool) (t : ℤ) → is_some (played a paused t).hold ≡ paused
played-state a paused t = go a.hold refl paused where
  go : (h : Option Micros) → a.hold ≡ h → (b : Bool) → is_some (with_play_state a h b t).hold ≡ b
  go None e true = refl
  go None e false = ap is_some e
  go (Some h) e true = ap is_some e
  go (Some h) e false = refl

pub played-same : (a : AnimationState) (paused : Bool) (t : ℤ) → is_some a.hold ≡ paused → played a paused t ≡ a
played-same a paused t e = go a.hold paused e where
  go : (h : Option Micros) (b : Bool) → is_some h ≡ b → with_play_state a h b t ≡ a
  go None true f = absurd (false≢true f)
  go None false f = refl
  go (Some h) true f = refl
  go (Some h) false f = absurd (false≢true (sym f))

pub kept-name : (old : List AnimationState) (names : List (Option (List ℕ))) (i : ℕ) (name : List ℕ) (a : AnimationState) → kept_at old names i name ≡ Some a → a.name ≡ name
kept-name old names i name a e = go (index_with (is_called name) (places_after names i name) old) refl (sym (item-from_end (is_called name) (places_after names i name) old) ∙ e) where
  go : (o : Option ℕ) → index_with (is_called name) (places_after names i name) old ≡ o → option_and_then (slice_get old) o ≡ Some a → a.name ≡ name
  go None f e = cc
  go (Some j) f e =
      let h = index_has (is_called name) (places_after names i name) old j f in
      let same : h.item ≡ a = cc in
      same_bytes a.name name (ap (is_called name) (sym same) ∙ h.passes)

pub from-name : (u : NamesUpdate) (i : ℕ) (name : List ℕ) → (animation_from u i name (kept_at u.old u.lists.names i name)).name ≡ name
unfolding continued_animation started_animation
from-name u i name = go (kept_at u.old u.lists.names i name) refl where
  go : (o : Option AnimationState) → kept_at u.old u.lists.names i name ≡ o → (animation_from u i name o).name ≡ name
  go None e = refl
  go (Some a) e = played-name (record a { place = i; timing = timing_at u.lists i }) (is_paused_at u.lists i) u.time.0 ∙ kept-name u.old u.lists.names i name a e

pub from-place : (u : NamesUpdate) (i : ℕ) (name : List ℕ) (o : Option AnimationState) → (animation_from u i name o).place ≡ i
unfolding continued_animation started_animation
from-place u i name None = refl
from-place u i name (Some a) = played-place (record a { place = i; timing = timing_at u.lists i }) (is_paused_at u.lists i) u.time.0

pub animation-place : (u : NamesUpdate) (i : ℕ) (a : AnimationState) → animation_at u i ≡ Some a → a.place ≡ i
animation-place u i a e = go (name_at u i) e where
  go : (o : Option (List ℕ)) → option_map (λ name. animation_from u i name (kept_at u.old u.lists.names i name)) o ≡ Some a → a.place ≡ i
  go None e = cc
  go (Some n) e =
      let same : animation_from u i n (kept_at u.old u.lists.names i n) ≡ a = cc in
      ap (λ (x : AnimationState). x.place) (sym same) ∙ from-place u i n (kept_at u.old u.lists.names i n)

pub animations-ascend : (u : NamesUpdate) → AreAscending (animations_after u)
unfolding animations_after
animations-ascend u = given-ascends (λ a. a.place) (animation_at u) (animation-place u) (length u.lists.names)

-- the animations after the event that have a name are as many as the places with it, or none
pub count-after : (u : NamesUpdate) (name : List ℕ) → count_by (is_called name) (animations_after u) ≡ cond (has_keyframes u.sheets name) (count_by (is_item name) u.lists.names) 0
unfolding animations_after
count-after u name = whole (has_keyframes u.sheets name) refl where
  names : List (Option (List ℕ))
  names = u.lists.names

  place : (test : Option (List ℕ) → Bool) → ((x : Option (List ℕ)) → option_map_or (λ n. bytes_eq n name) (animated_name (has_keyframes u.sheets) x) false ≡ test x)
      → (i : ℕ) (x : Option (List ℕ)) → slice_get u.lists.names i ≡ Some x → option_map_or (is_called name) (animation_at u i) false ≡ test x
  place test each i x e =
      at (name_at u i) refl ∙ ap (λ (o : Option (Option (List ℕ))). option_map_or (λ n. bytes_eq n name) (option_and_then (animated_name (has_keyframes u.sheets)) o) false) e ∙ each x where
        at : (o : Option (List ℕ)) → name_at u i ≡ o
            → option_map_or (is_called name) (option_map (λ n. animation_from u i n (kept_at u.old u.lists.names i n)) o) false ≡ option_map_or (λ n. bytes_eq n name) o false
        at None f = refl
        at (Some n) f = ap (λ m. bytes_eq m name) (from-name u i n)

  whole : (b : Bool) → has_keyframes u.sheets name ≡ b → count_by (is_called name) (given_below (animation_at u) (length u.lists.names)) ≡ cond b (count_by (is_item name) u.lists.names) 0
  whole true f =
      count-given (is_called name) (is_item name) (animation_at u) u.lists.names (place (is_item name) each) (length u.lists.names) (omega arith)
      ∙ ap (count_by (is_item name)) (take_all (length u.lists.names) u.lists.names (omega arith)) where
        each : (x : Option (List ℕ)) → option_map_or (λ n. bytes_eq n name) (animated_name (has_keyframes u.sheets) x) false ≡ is_item name x
        each None = refl
        each (Some n) = go (has_keyframes u.sheets n) refl (bytes_eq n name) refl where
          go : (b : Bool) → has_keyframes u.sheets n ≡ b → (t : Bool) → bytes_eq n name ≡ t → option_map_or (λ m. bytes_eq m name) (if b then Some n else None) false ≡ bytes_eq n name
          go true g t h = refl
          go false g true h = absurd (false≢true (sym g ∙ (ap (has_keyframes u.sheets) (same_bytes n name h) ∙ f)))
          go false g false h = sym h
  whole false f =
      count-given (is_called name) (λ x. false) (animation_at u) u.lists.names (place (λ x. false) each) (length u.lists.names) (omega arith)
      ∙ (ap (count_by (λ x. false)) (take_all (length u.lists.names) u.lists.names (omega arith)) ∙ count-none u.lists.names) where
        each : (x : Option (List ℕ)) → option_map_or (λ n. bytes_eq n name) (animated_name (has_keyframes u.sheets) x) false ≡ false
        each None = refl
        each (Some n) = go (has_keyframes u.sheets n) refl (bytes_eq n name) refl where
          go : (b : Bool) → has_keyframes u.sheets n ≡ b → (t : Bool) → bytes_eq n name ≡ t → option_map_or (λ m. bytes_eq m name) (if b then Some n else None) false ≡ false
          go true g true h = absurd (false≢true (sym f ∙ (ap (has_keyframes u.sheets) (sym (same_bytes n name h)) ∙ g)))
          go true g false h = h
          go false g t h = refl

-- ---- the functions by the pairing

module _ (u : NamesUpdate) where
  unfoldable pub takes_of : ℕ → Option ℕ
  takes_of i = takes_by_rank (has_keyframes u.sheets) u.lists.names u.old i

  pub pairing : IsPairing (name_at u) (old_name_at u) takes_of
  unfolding takes_of
  pairing = pairing_by_rank (has_keyframes u.sheets) u.lists.names u.old

  pub animation-taken : (i : ℕ) → animation_taking u takes_of i ≡ animation_at u i
  unfolding takes_of takes_by_rank
  animation-taken i = go (name_at u i) refl where
    go : (o : Option (List ℕ)) → name_at u i ≡ o
        → option_map (λ name. animation_from u i name (option_and_then (slice_get u.old) (takes_of i))) o
        ≡ option_map (λ name. animation_from u i name (kept_at u.old u.lists.names i name)) o
    go None e = refl
    go (Some n) e =
        let takes_it : takes_of i ≡ index_with (is_called n) (places_after u.lists.names i n) u.old =
        ap (option_and_then (λ m. index_with (is_called m) (places_after u.lists.names i m) u.old)) e in
        ap (λ k. Some (animation_from u i n k)) (ap (option_and_then (slice_get u.old)) takes_it ∙ sym (item-from_end (is_called n) (places_after u.lists.names i n) u.old))

  -- an old animation is taken exactly where it goes on
  pub taken-goes_on : (j : ℕ) (a : AnimationState) → slice_get u.old j ≡ Some a → some_takes takes_of (length u.lists.names) j ≡ goes_on u.old (animations_after u) j a
  unfolding takes_of
  taken-goes_on j a stands = same_tests (some_takes takes_of (length u.lists.names) j) (goes_on u.old (animations_after u) j a) there back where
    after : called_after u.old j a.name ≡ rank (is_called a.name) u.old j
    after = rank-drop (is_called a.name) u.old j

    itself : is_called a.name a ≡ true
    itself = bytes_same a.name a.name refl

    there : some_takes takes_of (length u.lists.names) j ≡ true → goes_on u.old (animations_after u) j a ≡ true
    there e =
        let r = some_takes-found takes_of (length u.lists.names) j e in
        let t = taken (has_keyframes u.sheets) u.lists.names u.old r.0 j r.2 in
        let item : t.ranked.item ≡ a = cc in
        let name : t.name ≡ a.name = sym (same_bytes t.ranked.item.name t.name t.ranked.passes) ∙ ap (λ (x : AnimationState). x.name) item in
        let place = named_place (has_keyframes u.sheets) (slice_get u.lists.names r.0) t.name t.place in
        let fewer : rank (is_item t.name) u.lists.names r.0 < count_by (is_item t.name) u.lists.names =
        rank_below (is_item t.name) u.lists.names r.0 (Some t.name) place.0 (bytes_same t.name t.name refl) in
        let all : count_by (is_called t.name) (animations_after u) ≡ count_by (is_item t.name) u.lists.names =
        count-after u t.name ∙ ap (λ b. cond b (count_by (is_item t.name) u.lists.names) 0) place.1 in
        let less : rank (is_called t.name) u.old j < count_by (is_called t.name) (animations_after u) = omega (arith, fewer, all, t.ranked.after) in
        let same : rank (is_called a.name) u.old j < count_by (is_called a.name) (animations_after u) =
        subst (λ n. rank (is_called n) u.old j < count_by (is_called n) (animations_after u)) name less in
        lt-ltb (called_after u.old j a.name) (count_by (is_called a.name) (animations_after u)) (omega (arith, same, after))

    back : goes_on u.old (animations_after u) j a ≡ true → some_takes takes_of (length u.lists.names) j ≡ true
    back e = go (has_keyframes u.sheets a.name) refl where
      less : rank (is_called a.name) u.old j < count_by (is_called a.name) (animations_after u)
      less = omega (arith, ltb-true (called_after u.old j a.name) (count_by (is_called a.name) (animations_after u)) e, after)

      go : (b : Bool) → has_keyframes u.sheets a.name ≡ b → some_takes takes_of (length u.lists.names) j ≡ true
      go true f =
          let all : count_by (is_called a.name) (animations_after u) ≡ count_by (is_item a.name) u.lists.names =
          count-after u a.name ∙ ap (λ b. cond b (count_by (is_item a.name) u.lists.names) 0) f in
          let r = filled (is_item a.name) u.lists.names (rank (is_called a.name) u.old j) (omega (arith, less, all)) in
          let place = item_place (has_keyframes u.sheets) u.lists.names r.0 a.name r.1.item r.1.stands r.1.passes f in
          some_takes-there takes_of (length u.lists.names) r.0 j (slice_get_within u.lists.names r.0 r.1.item r.1.stands)
          (takes_ranked (has_keyframes u.sheets) u.lists.names u.old r.0 j a.name place (record { item = a; stands = stands; passes = itself; after = sym r.1.after }))
      go false f =
          let none : count_by (is_called a.name) (animations_after u) ≡ 0 =
          count-after u a.name ∙ ap (λ b. cond b (count_by (is_item a.name) u.lists.names) 0) f in
          absurd (omega (arith, less, none))

  pub gone-left : (j : ℕ) → gone_leaving u takes_of j ≡ gone_at u.time u.old (animations_after u) j
  gone-left j = go (slice_get u.old j) refl where
    neither : (b : Bool) (o : Option Gone) → o ≡ None → (if b then None else o) ≡ None
    neither true o e = refl
    neither false o e = e

    go : (o : Option AnimationState) → slice_get u.old j ≡ o
        → (if some_takes takes_of (length u.lists.names) j then None else option_map (cancelled_animation u.time) o)
        ≡ option_and_then (λ a. if goes_on u.old (animations_after u) j a then None else Some (cancelled_animation u.time a)) o
    go None e = neither (some_takes takes_of (length u.lists.names) j) None refl
    go (Some a) e = ap (λ b. if b then None else Some (cancelled_animation u.time a)) (taken-goes_on j a e)

  names_end : (i : ℕ) → length u.lists.names ≤ i → name_at u i ≡ None
  names_end i past = ap (option_and_then (animated_name (has_keyframes u.sheets))) (slice_get_past u.lists.names i past)

  pub takes-one : (takes : ℕ → Option ℕ) → IsPairing (name_at u) (old_name_at u) takes → (i : ℕ) → takes i ≡ takes_of i
  takes-one takes p i = one_pairing (name_at u) (old_name_at u) takes takes_of p pairing (length u.lists.names) names_end i

  pub only_pairing : (takes other : ℕ → Option ℕ) → IsPairing (name_at u) (old_name_at u) takes → IsPairing (name_at u) (old_name_at u) other → (i : ℕ) → takes i ≡ other i
  only_pairing takes other p q = one_pairing (name_at u) (old_name_at u) takes other p q (length u.lists.names) names_end

  pub animations-by : (takes : ℕ → Option ℕ) → IsPairing (name_at u) (old_name_at u) takes
      → given_below (animation_taking u takes) (length u.lists.names) ≡ animations_after u
  unfolding animations_after
  animations-by takes p = given-same (animation_taking u takes) (animation_at u) (length u.lists.names)
      (λ i less. ap (λ o. option_map (λ name. animation_from u i name (option_and_then (slice_get u.old) o)) (name_at u i)) (takes-one takes p i) ∙ animation-taken i)

  pub gone-by : (takes : ℕ → Option ℕ) → IsPairing (name_at u) (old_name_at u) takes → given_below (gone_leaving u takes) (length u.old) ≡ gone_after u
  unfolding gone_after
  gone-by takes p = given-same (gone_leaving u takes) (gone_at u.time u.old (animations_after u)) (length u.old)
      (λ j less. ap (λ b. if b then None else option_map (cancelled_animation u.time) (slice_get u.old j)) (some_takes-same takes takes_of (takes-one takes p) (length u.lists.names) j) ∙ gone-left j)

  pub updated-lists : (animations : List AnimationState) (gone : List Gone) → AreUpdated u animations gone ↔ ((animations ≡ animations_after u) × (gone ≡ gone_after u))
  updated-lists animations gone = (to, from) where
    to : AreUpdated u animations gone → (animations ≡ animations_after u) × (gone ≡ gone_after u)
    to h = (h.continued ∙ animations-by h.takes h.pairing, h.cancelled ∙ gone-by h.takes h.pairing)

    from : (animations ≡ animations_after u) × (gone ≡ gone_after u) → AreUpdated u animations gone
    from (e, f) = record { takes = takes_of; pairing = pairing; continued = e ∙ sym (animations-by takes_of pairing); cancelled = f ∙ sym (gone-by takes_of pairing) }

-- ---- one place at a time

-- the item of a place names an animation: the one that goes on or starts there
pub item-animation : (u : NamesUpdate) (i : ℕ) (x : Option (List ℕ)) (name : List ℕ) (kept : Option AnimationState) (a : AnimationState)
    → Some name ≡ animated_name (has_keyframes u.sheets) x → kept ≡ kept_at u.old u.lists.names i name → a ≡ animation_from u i name kept
    → Some a ≡ option_map (λ n. animation_from u i n (kept_at u.old u.lists.names i n)) (animated_name (has_keyframes u.sheets) x)
item-animation u i x name kept a named is from =
    ap Some (from ∙ ap (animation_from u i name) is) ∙ ap (option_map (λ n. animation_from u i n (kept_at u.old u.lists.names i n))) named

pub item-at : (u : NamesUpdate) (i : ℕ) (x : Option (List ℕ)) → slice_get u.lists.names i ≡ Some x
    → option_map (λ n. animation_from u i n (kept_at u.old u.lists.names i n)) (animated_name (has_keyframes u.sheets) x) ≡ animation_at u i
item-at u i x stands =
    ap (λ o. option_map (λ n. animation_from u i n (kept_at u.old u.lists.names i n)) (option_and_then (animated_name (has_keyframes u.sheets)) o)) (sym stands)
