-- A pass in the order of its plan keeps what is handed down to later places.
use Rattle.std.proofs.Common.{◌≡◌, ℕ, zero, suc, ◌+◌, ◌<◌, ◌⊎◌, inl, inr, eqb, refl, ap, sym, ◌∙◌, subst, arith, List, ◌∷◌, [], ◌++◌, length, get_or, Bool, true, false, Option, Some, None}
use Rattle.std.specs.Prelude.{IfSome, IsSome, if◌then◌else◌, option_map, slice_get}
use Rattle.std.specs.Option.{option_and_then, option_map_or}
use Rattle.std.proofs.lemmas.Bool.{eqb-true}
use Rattle.std.proofs.lemmas.List.{length-append}
use Rattle.std.proofs.lemmas.Option.{slice_get-get_or}
use Rattle.pass_core.specs.Downs.{KeptDowns, is_leaf, down_at, down_for, with_down}
use Rattle.pass_core.specs.InOrder.{IsNoted, asked_of, with_step}
use Rattle.pass_core.specs.Passes.{IsPassOutcome, are_distinct, have_entries, state_of, value_for, with_outcome}
use Rattle.pass_core.specs.Plans.{is_proper}
use Rattle.pass_core.specs.Work.{Meaning, asked, down_of}
use Rattle.pass_core.specs.declared.plan.Place.{Place}
use Rattle.pass_core.specs.declared.step.Step.{Step}
use Rattle.pass_core.specs.declared.step.Step.TheVariants.{Updated, Kept}
use Rattle.pass_core.proofs.InOrder.{Passed, done_count, handed_at, entry_there, handed_alike, next_passed, nothing_passed, parent_before, parents_in, result_of, whole_passed}
use Rattle.pass_core.proofs.Lasts.{kept_stays}
use Rattle.pass_core.proofs.Leaves.{children_before_end}

-- ---- what is kept

-- of what the places that are done hand down, that of each is kept that is no leaf
pub record Keeps {E D : Type 0} (m : Meaning E D) (places : List Place) (done : List (ℕ × D)) (downs : KeptDowns D) : Type 0 where
  pub top : downs.top ≡ m.top
  pub count : length downs.seats ≡ length done
  pub inner : (i : ℕ) (p : Place) (x : ℕ × D) → slice_get places i ≡ Some p → slice_get done i ≡ Some x → (p.end ≡ i + 1 → ⊥) → down_at downs i ≡ Some x.1

slice_get-pushed : {X : Type 0} (xs : List X) (x : X) → slice_get (xs ++ x ∷ []) (length xs) ≡ Some x
slice_get-pushed [] x = refl
slice_get-pushed (y ∷ ys) x = slice_get-pushed ys x

-- the last of a list, or one of those before it
pushed_cases : {X : Type 0} (xs : List X) (x y : X) (i : ℕ) → slice_get (xs ++ x ∷ []) i ≡ Some y → (slice_get xs i ≡ Some y) ⊎ ((i ≡ length xs) × (x ≡ y))
pushed_cases [] x y zero is = let same : x ≡ y = cc in inr (refl, same)
pushed_cases [] x y (suc i) is = absurd (cc)
pushed_cases (z ∷ zs) x y zero is = inl is
pushed_cases (z ∷ zs) x y (suc i) is = go (pushed_cases zs x y i is) where
  go : (slice_get zs i ≡ Some y) ⊎ ((i ≡ length zs) × (x ≡ y)) → (slice_get (z ∷ zs) (suc i) ≡ Some y) ⊎ ((suc i ≡ length (z ∷ zs)) × (x ≡ y))
  go (inl there) = inl there
  go (inr last) = inr (ap suc last.0, last.1)

kept_now : {D : Type 0} (downs : KeptDowns D) (d : D) → down_at (with_down downs (Some d)) (length downs.seats) ≡ Some d
kept_now downs d =
    ap (option_and_then (slice_get (downs.kept ++ d ∷ []))) (slice_get-pushed downs.seats (length downs.kept)) ∙ slice_get-pushed downs.kept d

-- with one more place
keeps_more : {E D : Type 0} (m : Meaning E D) (places : List Place) (done : List (ℕ × D)) (downs : KeptDowns D) (p : Place) (e : ℕ) (d : D) → Keeps m places done downs
    → slice_get places (length done) ≡ Some p → Keeps m places (done ++ (e, d) ∷ []) (with_down downs (if is_leaf downs p then None else Some d))
keeps_more m places done downs p e d keeps is = record {
  top = keeps.top;
  count = length-append downs.seats (length downs.kept ∷ []) ∙ ap (λ n. n + 1) keeps.count ∙ sym (length-append done ((e, d) ∷ []));
  inner = λ i q x place there unlike. by_place i q x place unlike (pushed_cases done (e, d) x i there);
}
  where
    by_leaf : (q : Place) (b : Bool) → eqb p.end (length downs.seats + 1) ≡ b → p ≡ q → (q.end ≡ length done + 1 → ⊥)
        → down_at (with_down downs (if b then None else Some d)) (length downs.seats) ≡ Some d
    by_leaf q true leaf same unlike =
        absurd (unlike (ap (λ (r : Place). r.end) (sym same) ∙ eqb-true p.end (length downs.seats + 1) leaf ∙ ap (λ n. n + 1) keeps.count))
    by_leaf q false leaf same unlike = kept_now downs d

    by_place : (i : ℕ) (q : Place) (x : ℕ × _) → slice_get places i ≡ Some q → (q.end ≡ i + 1 → ⊥) → (slice_get done i ≡ Some x) ⊎ ((i ≡ length done) × ((e, d) ≡ x))
        → down_at (with_down downs (if is_leaf downs p then None else Some d)) i ≡ Some x.1
    by_place i q x place unlike (inl before) = kept_stays downs _ i x.1 (keeps.inner i q x place before unlike)
    by_place i q x place unlike (inr now) =
        let alike : Some p ≡ Some q = sym is ∙ ap (slice_get places) (sym now.0) ∙ place in
        let same : p ≡ q = cc in
        ap (down_at (with_down downs (if is_leaf downs p then None else Some d))) (now.0 ∙ sym keeps.count)
        ∙ by_leaf q (is_leaf downs p) refl same (λ ends. unlike (ends ∙ ap (λ n. n + 1) (sym now.0))) ∙ ap (λ (y : ℕ × _). Some y.1) now.1

-- ---- a pass that has come to a place

pub record Come {E D : Type 0} (m : Meaning E D) (places : List Place) (opening : List (ℕ × E)) (i : ℕ) (entries : List (ℕ × E)) (downs : KeptDowns D) : Type 0 where
  pub done : List (ℕ × D)
  pub passed : Passed m places opening i entries done
  pub keeps : Keeps m places done downs

pub begun : {E D : Type 0} (m : Meaning E D) (places : List Place) (opening : List (ℕ × E)) (downs : KeptDowns D) → are_distinct opening ≡ true → have_entries places opening ≡ true
    → downs ≡ record { top = m.top; seats = []; kept = [] } → Come m places opening 0 opening downs
begun m places opening downs distinct have is = record {
  done = [];
  passed = nothing_passed m places opening distinct have;
  keeps = record {
    top = ap (λ (s : KeptDowns _). s.top) is;
    count = ap (λ (s : KeptDowns _). length s.seats) is;
    inner = λ i p x place there unlike. absurd (cc);
  };
}

noted_entries : {E D : Type 0} (es es' : List (ℕ × E)) (done : List (ℕ × D)) (e : ℕ) (leaf : Bool) (s : Step E D) → es' ≡ with_step es e (asked leaf s)
    → state_of es' (done ++ (e, down_of s) ∷ []) ≡ with_outcome (state_of es done) e s
noted_entries es es' done e leaf (Updated x d) is = ap (λ l. state_of l (done ++ (e, d) ∷ [])) is
noted_entries es es' done e leaf (Kept d) is = ap (λ l. state_of l (done ++ (e, d) ∷ [])) is

asked_down : {E D : Type 0} (leaf : Bool) (s : Step E D) → down_of (asked leaf s) ≡ (if leaf then None else Some (down_of s))
asked_down leaf (Updated x d) = refl
asked_down leaf (Kept d) = refl

module _ {E D : Type 0} (m : Meaning E D) (places : List Place) (opening : List (ℕ × E)) (i : ℕ) (es : List (ℕ × E)) (ds : KeptDowns D) (come : Come m places opening i es ds)
    (proper : is_proper places ≡ true) (within : i < length places) (d : Place) where
  -- what is handed down to the place is kept, since its parent is no leaf
  handed : down_for ds (get_or places i d) ≡ handed_at m come.done (get_or places i d)
  handed = go (get_or places i d).parent refl (parent_before places 0 i d (parents_in places proper) within) where
    go : (o : Option ℕ) → (get_or places i d).parent ≡ o → IfSome o (λ j. j < 0 + i)
        → option_map_or (down_at ds) o (Some ds.top) ≡ option_map_or (λ j. option_map (λ x. x.1) (slice_get come.done j)) o (Some m.top)
    go None parent before = ap Some come.keeps.top
    go (Some j) parent before =
        let less : j < i = omega (arith, before) in
        let count = done_count m places opening i es come.done come.passed proper within d in
        let there = slice_get-get_or come.done j (0, m.top) (omega (arith, less, count)) in
        let ends = children_before_end places j i d proper less within parent in
        come.keeps.inner j (get_or places j d) (get_or come.done j (0, m.top)) (slice_get-get_or places j d (omega (arith, less, within))) there (λ alone. omega (arith, ends, alone, less))
        ∙ ap (option_map (λ x. x.1)) (sym there)

  abbrev entry : (x : E) × (value_for es (get_or places i d).element ≡ Some x)
  entry = entry_there m places opening i es come.done come.passed proper within d

  abbrev down : D
  down = (handed_alike m places opening i es come.done come.passed proper within d).down

  down_is : down_for ds (get_or places i d) ≡ Some down
  down_is = handed ∙ (handed_alike m places opening i es come.done come.passed proper within d).at

  pub parent_kept : IsSome (down_for ds (get_or places i d))
  parent_kept = subst (λ o. IsSome o) (sym down_is) refl

  abbrev result : Step E D
  result = result_of m places opening i es come.done come.passed proper within d

  asked_is : asked_of m es ds (get_or places i d) ≡ Some (asked (is_leaf ds (get_or places i d)) result)
  asked_is =
      let leaf = is_leaf ds (get_or places i d) in
      ap (option_and_then (λ x. option_map (λ w. asked leaf (m.outcome (get_or places i d).element x w)) (down_for ds (get_or places i d)))) entry.1
      ∙ ap (option_map (λ w. asked leaf (m.outcome (get_or places i d).element entry.0 w))) down_is

  pub next_come : (es' : List (ℕ × E)) (ds' : KeptDowns D)
      → IfSome (asked_of m es ds (get_or places i d)) (λ step. IsNoted es ds (get_or places i d).element step es' ds') → Come m places opening (i + 1) es' ds'
  next_come es' ds' is =
      let p = get_or places i d in
      let leaf = is_leaf ds p in
      let noted : IsNoted es ds p.element (asked leaf result) es' ds' = subst (λ o. IfSome o (λ step. IsNoted es ds p.element step es' ds')) asked_is is in
      let done = come.done ++ (p.element, down_of result) ∷ [] in
      let count = done_count m places opening i es come.done come.passed proper within d in
      record {
        done = done;
        passed =
            next_passed m places opening i es come.done come.passed proper within d es' done
            (noted_entries es es' come.done p.element leaf result noted.entries_are);
        keeps =
            subst (Keeps m places done) (sym (noted.downs_are ∙ ap (with_down ds) (asked_down leaf result)))
            (keeps_more m places come.done ds p p.element (down_of result) come.keeps (ap (slice_get places) count ∙ slice_get-get_or places i d within));
      }

pub all_come : {E D : Type 0} (m : Meaning E D) (places : List Place) (opening : List (ℕ × E)) (i : ℕ) (es : List (ℕ × E)) (ds : KeptDowns D) → Come m places opening i es ds
    → is_proper places ≡ true → have_entries places opening ≡ true → i ≡ length places → IsPassOutcome m places opening es
all_come m places opening i es ds come proper have all = whole_passed m places opening i es come.done come.passed proper have all
