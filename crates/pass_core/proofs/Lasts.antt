-- The update that came last.
use Rattle.std.proofs.Common.{◌≡◌, ℕ, zero, suc, ◌<◌, refl, ap, sym, ◌∙◌, subst, arith, List, ◌∷◌, [], ◌++◌, length, get_or, Bool, true, false, Option, Some, None}
use Rattle.std.specs.Prelude.{IfSome, option_copied, option_map, option_to_list, slice_get}
use Rattle.std.specs.List.{HoldsAt}
use Rattle.std.specs.Option.{option_and_then, option_map_or}
use Rattle.std.proofs.lemmas.Option.{slice_get_within}
use Rattle.pass_core.specs.Downs.{KeptDowns, is_leaf, down_at, down_for, last_down, with_down}
use Rattle.pass_core.specs.InOrder.{CameLast, IsLast, IsNoted, asked_of}
use Rattle.pass_core.specs.Passes.{are_distinct}
use Rattle.pass_core.specs.Work.{IsSibling, Meaning, asked, down_of}
use Rattle.pass_core.proofs.Indexes.{stands_at}
use Rattle.pass_core.specs.declared.alone.Last.{Last}
use Rattle.pass_core.specs.declared.plan.Place.{Place}
use Rattle.pass_core.specs.declared.sibling.Sibling.{Sibling}
use Rattle.pass_core.specs.declared.step.Step.{Step}
use Rattle.pass_core.specs.declared.step.Step.TheVariants.{Updated, Kept}

pub slice_get-more : {X : Type 0} (xs ys : List X) (i : ℕ) → i < length xs → slice_get (xs ++ ys) i ≡ slice_get xs i
slice_get-more [] ys i within = absurd (omega (arith, within))
slice_get-more (x ∷ xs) ys zero within = refl
slice_get-more (x ∷ xs) ys (suc i) within = slice_get-more xs ys i (omega (arith, within))

-- ---- what is kept stays

slice_get-stays : {X : Type 0} (xs ys : List X) (i : ℕ) (x : X) → slice_get xs i ≡ Some x → slice_get (xs ++ ys) i ≡ Some x
slice_get-stays xs ys i x is = slice_get-more xs ys i (slice_get_within xs i x is) ∙ is

stays_at : {D : Type 0} (downs : KeptDowns D) (seats : List ℕ) (more : List D) (i : ℕ) (d : D) → down_at downs i ≡ Some d
    → option_and_then (slice_get (downs.kept ++ more)) (slice_get (downs.seats ++ seats) i) ≡ Some d
stays_at downs seats more i d is = go (slice_get downs.seats i) refl is where
  go : (o : Option ℕ) → slice_get downs.seats i ≡ o → option_and_then (slice_get downs.kept) o ≡ Some d
      → option_and_then (slice_get (downs.kept ++ more)) (slice_get (downs.seats ++ seats) i) ≡ Some d
  go None seat there = absurd (cc)
  go (Some s) seat there =
      ap (option_and_then (slice_get (downs.kept ++ more))) (slice_get-stays downs.seats seats i s seat) ∙ slice_get-stays downs.kept more s d there

pub kept_stays : {D : Type 0} (downs : KeptDowns D) (told : Option D) (i : ℕ) (d : D) → down_at downs i ≡ Some d → down_at (with_down downs told) i ≡ Some d
kept_stays downs told i d is = stays_at downs (length downs.kept ∷ []) (option_to_list told) i d is

-- what is handed down to a place, when more places are done
down_for-stays : {D : Type 0} (downs : KeptDowns D) (more : Option D) (p : Place) (d : D) → down_for downs p ≡ Some d → down_for (with_down downs more) p ≡ Some d
down_for-stays downs more p d is = go p.parent is where
  go : (o : Option ℕ) → option_map_or (down_at downs) o (Some downs.top) ≡ Some d → option_map_or (down_at (with_down downs more)) o (Some (with_down downs more).top) ≡ Some d
  go None top = top
  go (Some i) there = kept_stays downs more i d there

-- ---- the last update

-- the outcome of a place whose element's entry stands at an index, as it is asked for
asked_is : {E D : Type 0} (m : Meaning E D) (es : List (ℕ × E)) (ds : KeptDowns D) (p : Place) (at : ℕ) (x : ℕ × E) (down : D) (leaf : Bool) → are_distinct es ≡ true
    → at < length es → (get_or es at x).0 ≡ p.element → x ≡ get_or es at x → down_for ds p ≡ Some down → leaf ≡ is_leaf ds p
    → asked_of m es ds p ≡ Some (asked leaf (m.outcome p.element x.1 down))
asked_is m es ds p at x down leaf distinct within here read handed ends =
    ap (option_and_then (λ y. option_map (λ d. asked (is_leaf ds p) (m.outcome p.element y d)) (down_for ds p))) (stands_at es at p.element x distinct within here).value
    ∙ ap (option_map (λ d. asked (is_leaf ds p) (m.outcome p.element (get_or es at x).1 d))) handed
    ∙ ap (λ y. Some (asked (is_leaf ds p) (m.outcome p.element y.1 down))) (sym read) ∙ ap (λ b. Some (asked b (m.outcome p.element x.1 down))) (sym ends)

-- it is what is noted
pub asked_noted : {E D : Type 0} (m : Meaning E D) (es es' : List (ℕ × E)) (ds ds' : KeptDowns D) (p : Place) (at : ℕ) (x : ℕ × E) (down : D) (leaf : Bool) (s : Step E (Option D))
    → are_distinct es ≡ true → at < length es → (get_or es at x).0 ≡ p.element → x ≡ get_or es at x → down_for ds p ≡ Some down → leaf ≡ is_leaf ds p
    → s ≡ asked leaf (m.outcome p.element x.1 down) → IsNoted es ds p.element s es' ds' → IfSome (asked_of m es ds p) (λ step. IsNoted es ds p.element step es' ds')
asked_noted m es es' ds ds' p at x down leaf s distinct within here read handed ends outcome noted =
    subst (λ o. IfSome o (λ step. IsNoted es ds p.element step es' ds')) (ap Some outcome ∙ sym (asked_is m es ds p at x down leaf distinct within here read handed ends)) noted

-- the outcome of a place's update, once it is noted
pub noted_last : {E D : Type 0} (m : Meaning E D) (es es' : List (ℕ × E)) (ds ds' : KeptDowns D) (p : Place) (at : ℕ) (x : ℕ × E) (down : D) (leaf : Bool) (s : Step E (Option D))
    (o : Option (Last E)) → down_for ds p ≡ Some down → x ≡ get_or es at x → s ≡ asked leaf (m.outcome p.element x.1 down) → ds' ≡ with_down ds (down_of s)
    → IfSome o (λ l. l.place ≡ p) → IfSome o (λ l. HoldsAt (λ y. y.1 ≡ l.before) es at) → IfSome o (λ l. CameLast es' ds' l s) → IfSome o (IsLast m es' ds')
noted_last m es es' ds ds' p at x down leaf s None handed read outcome noted place before came = tt
noted_last m es es' ds ds' p at x down leaf s (Some l) handed read outcome noted place before came =
    let was : x.1 ≡ l.before = ap (λ y. y.1) read ∙ before x in
    record {
      handed = down;
      leaf = leaf;
      handed_is = ap (down_for ds') place ∙ ap (λ ds. down_for ds p) noted ∙ down_for-stays ds (down_of s) p down handed;
      came =
          subst (CameLast es' ds' l)
          (outcome ∙ ap (λ (q : Place). asked leaf (m.outcome q.element x.1 down)) (sym place) ∙ ap (λ y. asked leaf (m.outcome l.place.element y down)) was) came;
    }

-- a step that was asked for with a new entry has that, and hands down what it says
pub asked_updated : {E D : Type 0} (leaf : Bool) (s : Step E D) (x : E) (told : Option D) → asked leaf s ≡ Updated x told → (w : D) × (s ≡ Updated x w) × IfSome told (λ d. d ≡ w)
asked_updated true (Updated y w) x told is =
    let entry : y ≡ x = cc in
    let down : None ≡ told = cc in
    (w, ap (λ z. Updated z w) entry, subst (λ o. IfSome o (λ d. d ≡ w)) down tt)
asked_updated false (Updated y w) x told is =
    let entry : y ≡ x = cc in
    let down : Some w ≡ told = cc in
    (w, ap (λ z. Updated z w) entry, subst (λ o. IfSome o (λ d. d ≡ w)) down refl)
asked_updated true (Kept w) x told is = absurd (cc)
asked_updated false (Kept w) x told is = absurd (cc)

-- what came last is a sibling's for a place with the same parent
pub sibling_is : {E D : Type 0} (m : Meaning E D) (es : List (ℕ × E)) (ds : KeptDowns D) (l : Last E) (p : Place) (down : D) (s : Sibling E D) (y : ℕ × E) → IsLast m es ds l
    → l.place.parent ≡ p.parent → down_for ds p ≡ Some down → slice_get es l.at ≡ Some y → s.element ≡ l.place.element → s.before.now ≡ l.before → s.after.now ≡ y.1
    → option_copied s.down ≡ last_down ds → IsSibling m down s
sibling_is m es ds l p down s y last parents handed read element before after told =
    let came = last.came in
    let u = asked_updated last.leaf (m.outcome l.place.element l.before last.handed) came.entry came.down came.step_is in
    let alike : Some last.handed ≡ Some down =
    sym last.handed_is ∙ ap (λ o. option_map_or (down_at ds) o (Some ds.top)) parents ∙ handed in
    let same : last.handed ≡ down = cc in
    let there : Some y ≡ Some (l.place.element, came.entry) = sym read ∙ came.entry_is in
    let entry : y ≡ (l.place.element, came.entry) = cc in
    record {
      handed = u.0;
      outcome_is =
          ap (λ e. m.outcome e s.before.now down) element ∙ ap (λ x. m.outcome l.place.element x down) before
          ∙ ap (λ d. m.outcome l.place.element l.before d) (sym same) ∙ u.1 ∙ ap (λ x. Updated x u.0) (sym (after ∙ ap (λ z. z.1) entry));
      handed_is = copied s.down (told ∙ came.down_is);
    }
  where
    copied : (o : Option _) → option_copied o ≡ last.came.down → IfSome o (λ d. d.now ≡ (asked_updated last.leaf (m.outcome l.place.element l.before last.handed) last.came.entry last.came.down last.came.step_is).0)
    copied None is = tt
    copied (Some d) is =
        let u = asked_updated last.leaf (m.outcome l.place.element l.before last.handed) last.came.entry last.came.down last.came.step_is in
        subst (λ t. IfSome t (λ d. d ≡ u.0)) (sym is) u.2
