-- The pairing by rank.
use Rattle.std.proofs.Common.{◌≡◌, ◌≢◌, ◌∙◌, ℕ, ◌<◌, ◌≤◌, refl, sym, ap, subst, arith, inl, inr}
use Rattle.std.specs.Prelude.{◌⊎◌, Bool, true, false, count_by, List, Option, None, Some, option_map, slice_get, if◌then◌else◌}
use Rattle.std.specs.Option.{option_and_then}
use Rattle.std.specs.Str.{bytes_eq}
use Rattle.std.proofs.lemmas.Bool.{cases_lt, false≢true}
use Rattle.std.proofs.lemmas.Slice.Eq.{bytes_eq-Decides}
use Rattle.style_data.specs.declared.animation.AnimationState.{AnimationState}
use Rattle.animation_names.specs.NameLists.{animated_at, animated_name, is_called, is_item, places_after}
use Rattle.animation_names.specs.Pairings.{HaveOneName, StandsAfter, IsPairing}
use Rattle.animation_names.proofs.Ranks.{HasRank, filled, index_at, index_has, index_none, index_with, rank, rank-drop, rank_below, rank_falls, rank_level, rank_most}

pub same_bytes : (a b : List ℕ) → bytes_eq a b ≡ true → a ≡ b
same_bytes a b e = (bytes_eq-Decides a b).0 e

pub bytes_same : (a b : List ℕ) → a ≡ b → bytes_eq a b ≡ true
bytes_same a b e = (bytes_eq-Decides a b).1 e

-- an item with a name that is animated
pub named_place : (has : List ℕ → Bool) (o : Option (Option (List ℕ))) (n : List ℕ) → option_and_then (animated_name has) o ≡ Some n → (o ≡ Some (Some n)) × (has n ≡ true)
named_place has None n e = cc
named_place has (Some None) n e = cc
named_place has (Some (Some m)) n e = go (has m) refl e where
  go : (b : Bool) → has m ≡ b → (if b then Some m else None) ≡ Some n → (Some (Some m) ≡ Some (Some n)) × (has n ≡ true)
  go true f e = let same : m ≡ n = cc in (ap (λ x. Some (Some x)) same, ap has (sym same) ∙ f)
  go false f e = cc

pub place_named : (has : List ℕ → Bool) (o : Option (Option (List ℕ))) (n : List ℕ) → o ≡ Some (Some n) → has n ≡ true → option_and_then (animated_name has) o ≡ Some n
place_named has o n e f = ap (option_and_then (animated_name has)) e ∙ ap (λ (b : Bool). if b then Some n else None) f

-- a place whose item is a name that is animated
pub item_place : (has : List ℕ → Bool) (names : List (Option (List ℕ))) (k : ℕ) (n : List ℕ) (x : Option (List ℕ)) → slice_get names k ≡ Some x → is_item n x ≡ true → has n ≡ true
    → animated_at has names k ≡ Some n
item_place has names k n None g h f = absurd (false≢true h)
item_place has names k n (Some m) g h f = place_named has (slice_get names k) n (g ∙ ap (λ (y : List ℕ). Some (Some y)) (same_bytes m n h)) f

module _ (has : List ℕ → Bool) (names : List (Option (List ℕ))) (old : List AnimationState) where
  -- the name of an old animation
  abbrev pub old_name : ℕ → Option (List ℕ)
  old_name j = option_map (λ a. a.name) (slice_get old j)

  -- the place takes the old animation of its name that has as many of it after it
  unfoldable pub takes_by_rank : ℕ → Option ℕ
  takes_by_rank i = option_and_then (λ n. index_with (is_called n) (places_after names i n) old) (animated_at has names i)

  later-rank : (i : ℕ) (n : List ℕ) → places_after names i n ≡ rank (is_item n) names i
  later-rank i n = rank-drop (is_item n) names i

  -- an old animation of the name
  pub old_named : (j : ℕ) (n : List ℕ) → old_name j ≡ Some n → (a : AnimationState) × (slice_get old j ≡ Some a) × (is_called n a ≡ true)
  old_named j n e = go (slice_get old j) refl e where
    go : (o : Option AnimationState) → slice_get old j ≡ o → option_map (λ (x : AnimationState). x.name) o ≡ Some n → (a : AnimationState) × (slice_get old j ≡ Some a) × (is_called n a ≡ true)
    go None f e = cc
    go (Some a) f e = (a, f, bytes_same a.name n cc)

  -- what a place takes
  pub record Taken (i j : ℕ) : Type 0 where
    pub name : List ℕ
    pub place : animated_at has names i ≡ Some name
    pub ranked : HasRank (is_called name) old (rank (is_item name) names i) j

  pub taken : (i j : ℕ) → takes_by_rank i ≡ Some j → Taken i j
  unfolding takes_by_rank
  taken i j e = go (animated_at has names i) refl e where
    go : (o : Option (List ℕ)) → animated_at has names i ≡ o → option_and_then (λ n. index_with (is_called n) (places_after names i n) old) o ≡ Some j → Taken i j
    go None f e = cc
    go (Some n) f e = record {
      name = n;
      place = f;
      ranked = subst (λ k. HasRank (is_called n) old k j) (later-rank i n) (index_has (is_called n) (places_after names i n) old j e);
    }

  pub taken_name : (i j : ℕ) (t : Taken i j) → old_name j ≡ Some t.name
  taken_name i j t =
      ap (option_map (λ (x : AnimationState). x.name)) t.ranked.stands ∙ ap Some (same_bytes t.ranked.item.name t.name t.ranked.passes)

  -- the other way round
  pub takes_ranked : (i j : ℕ) (n : List ℕ) → animated_at has names i ≡ Some n → HasRank (is_called n) old (rank (is_item n) names i) j → takes_by_rank i ≡ Some j
  unfolding takes_by_rank
  takes_ranked i j n e h =
      ap (option_and_then (λ m. index_with (is_called m) (places_after names i m) old)) e ∙ index_at (is_called n) (places_after names i n) old j (subst (λ k. HasRank (is_called n) old k j) (sym (later-rank i n)) h)

  takes_none : (i : ℕ) (n : List ℕ) → animated_at has names i ≡ Some n → takes_by_rank i ≡ None → count_by (is_called n) old ≤ rank (is_item n) names i
  unfolding takes_by_rank
  takes_none i n e none =
      let there : index_with (is_called n) (places_after names i n) old ≡ None = ap (option_and_then (λ m. index_with (is_called m) (places_after names i m) old)) (sym e) ∙ none in
      omega (arith, index_none (is_called n) (places_after names i n) old there, later-rank i n)

  one_name : (a b : List ℕ) (j : ℕ) → old_name j ≡ Some a → old_name j ≡ Some b → a ≡ b
  one_name a b j e f = cc

  -- an item of the list with the name
  item_passes : (n : List ℕ) → is_item n (Some n) ≡ true
  item_passes n = bytes_same n n refl

  ranked_once : (i k j : ℕ) → i < k → takes_by_rank k ≡ Some j → takes_by_rank i ≢ Some j
  ranked_once i k j less e f =
      let u = taken i j f in
      let v = taken k j e in
      let same : v.name ≡ u.name = one_name v.name u.name j (taken_name k j v) (taken_name i j u) in
      let place = (named_place has (slice_get names k) v.name v.place).0 in
      let falls : rank (is_item u.name) names k < rank (is_item u.name) names i =
      rank_falls (is_item u.name) names i k (Some v.name) less place (ap (λ m. is_item m (Some v.name)) (sym same) ∙ item_passes v.name) in
      let after : rank (is_called u.name) old j ≡ rank (is_item u.name) names k = subst (λ m. rank (is_called m) old j ≡ rank (is_item m) names k) same v.ranked.after in
      omega (arith, falls, after, u.ranked.after)

  -- a place further on has the rank of an old animation that has fewer after it
  further : (i j : ℕ) (n : List ℕ) → animated_at has names i ≡ Some n → (a : AnimationState) → slice_get old j ≡ Some a → is_called n a ≡ true
      → rank (is_called n) old j < rank (is_item n) names i → (k : ℕ) × (i < k) × (takes_by_rank k ≡ Some j)
  further i j n e a stands passes fewer =
      let f = filled (is_item n) names (rank (is_called n) old j) (omega (arith, rank_most (is_item n) names i)) in
      let later : i < f.0 = go f.0 f.1.after (cases_lt i f.0) in
      (f.0, later, takes_ranked f.0 j n (place f.0 f.1.item f.1.stands f.1.passes) (record { item = a; stands = stands; passes = passes; after = sym f.1.after })) where
        go : (k : ℕ) → rank (is_item n) names k ≡ rank (is_called n) old j → (i < k) ⊎ (k ≤ i) → i < k
        go k same (inl less) = less
        go k same (inr more) = absurd (omega (arith, rank_level (is_item n) names k i more))

        place : (k : ℕ) (x : Option (List ℕ)) → slice_get names k ≡ Some x → is_item n x ≡ true → animated_at has names k ≡ Some n
        place k x g h = item_place has names k n x g h (named_place has (slice_get names i) n e).1

  ranked_last : (i j : ℕ) → HaveOneName (animated_at has names i) (old_name j) → StandsAfter (takes_by_rank i) j → (k : ℕ) × (i < k) × (takes_by_rank k ≡ Some j)
  ranked_last i j h after =
      let n = h.0 in
      let there = old_named j n h.2 in
      further i j n h.1 there.0 there.1 there.2 (go n there.0 there.1 there.2 (takes_by_rank i) refl h.1 after) where
        go : (n : List ℕ) (a : AnimationState) → slice_get old j ≡ Some a → is_called n a ≡ true → (o : Option ℕ) → takes_by_rank i ≡ o → animated_at has names i ≡ Some n → StandsAfter o j
            → rank (is_called n) old j < rank (is_item n) names i
        go n a stands passes None f e after = omega (arith, takes_none i n e f, rank_below (is_called n) old j a stands passes)
        go n a stands passes (Some m) f e after =
            let t = taken i m f in
            let same : t.name ≡ n = cc in
            let ranked : rank (is_called n) old m ≡ rank (is_item n) names i = subst (λ x. rank (is_called x) old m ≡ rank (is_item x) names i) same t.ranked.after in
            omega (arith, rank_falls (is_called n) old m j a after stands passes, ranked)

  pub pairing_by_rank : IsPairing (animated_at has names) old_name takes_by_rank
  pairing_by_rank = record {
    named = λ i j e. let t = taken i j e in (t.name, t.place, taken_name i j t);
    once = ranked_once;
    last = ranked_last;
  }
