-- What an earlier step gave.
use Rattle.std.proofs.Common.{◌≡◌, Bor, ℕ, ◌-◌, eqb, refl, ap, sym, ◌∙◌, subst, List, length, Bool, true, false, not, is_none, Option, None, Some}
use Rattle.std.specs.Prelude.{IfSome, IsSomeAnd, option_copied, option_map, slice_get}
use Rattle.std.specs.List.{AllZip}
use Rattle.std.specs.Option.{MatchOption, option_and_then, option_eq}
use Rattle.std.proofs.lemmas.Bool.{eqb-true}
use Rattle.std.proofs.lemmas.Slice.Zip.{AllZip-left, AllZip-long}
use Rattle.pass_core.specs.Work.{asked, Meaning}
use Rattle.pass_core.specs.declared.step.Step.{Step}
use Rattle.pass_core.specs.declared.step.Step.TheVariants.{Updated, Kept}
use Rattle.work_split.specs.Steps.{handed, reached, seat_outcome, IsStepOf}
use Rattle.work_split.specs.declared.seat.Seat.{Seat}

-- what belongs to an element belongs to the one at its index
paired_at : {X Y : Type 0} (R : X → Y → Type 0) (xs : List X) (ys : List Y) (k : ℕ) (x : X) (y : Y) → AllZip R xs ys → slice_get xs k ≡ Some x → slice_get ys k ≡ Some y → R x y
paired_at R xs ys k x y zipped here there =
    subst (λ o. IsSomeAnd o (R x)) there (subst (λ o. MatchOption o (Unit {0}) (λ z. IsSomeAnd (slice_get ys k) (R z))) here (AllZip-left R xs ys zipped k))

-- indexes that are tested to be the same
pub index_same : (a b : Option ℕ) → false ≡ not (option_eq eqb a b) → a ≡ b
index_same None None is = refl
index_same None (Some j) is = absurd (cc)
index_same (Some i) None is = absurd (cc)
index_same (Some i) (Some j) is = ap Some (eqb-true i j (not_false (eqb i j) is)) where
  not_false : (b : Bool) → false ≡ not b → b ≡ true
  not_false true is = refl
  not_false false is = absurd (cc)

-- what holds of a value that is lent
pub value_lent : {A : Type 0} (o : Option (Bor A)) (P : A → Type 0) → IfSome (option_copied o) P → IfSome o (λ b. P b.now)
value_lent None P h = tt
value_lent (Some b) P h = h

-- what an outcome with a new entry hands down
pub record Gave {E D : Type 0} (step : Step E D) (x : E) (told : Option D) : Type 0 where
  pub handed : D
  pub step_is : step ≡ Updated x handed
  pub told_is : IfSome told (λ d. d ≡ handed)

gave : {E D : Type 0} (leaf : Bool) (step : Step E D) (x : E) (told : Option D) → asked leaf step ≡ Updated x told → Gave step x told
gave true (Updated y d) x told is = let x_is : y ≡ x = cc in let none : None ≡ told = cc in
    record { handed = d; step_is = ap (λ z. Updated z d) x_is; told_is = subst (λ o. IfSome o (λ e. e ≡ d)) none tt }
gave false (Updated y d) x told is = let x_is : y ≡ x = cc in let some : Some d ≡ told = cc in
    record { handed = d; step_is = ap (λ z. Updated z d) x_is; told_is = subst (λ o. IfSome o (λ e. e ≡ d)) some refl }
gave true (Kept d) x told is = absurd (cc)
gave false (Kept d) x told is = absurd (cc)

-- the last step is the outcome for its seat, over what is handed down from the slot above it
pub last_gives : {E D : Type 0} (m : Meaning E D) (entries : List (ℕ × E)) (downs : List D) (seats : List Seat) (steps : List (Step E (Option D))) (above : Option ℕ) (s : Seat)
    (x : ℕ × E) (after : E) (told : Option D) (down : D) → AllZip (IsStepOf m (reached entries downs)) seats steps → slice_get seats (length seats - 1) ≡ Some s
    → slice_get steps (length steps - 1) ≡ Some (Updated after told) → slice_get entries s.row ≡ Some x → s.above ≡ above → handed m.top downs above ≡ Some down
    → Gave (m.outcome s.place.element x.1 down) after told
last_gives m entries downs seats steps above s x after told down zipped seat_is step_is entry_is above_is handed_is =
    let e = s.place.element in
    let leaf = is_none s.slot in
    let at = subst (λ n. slice_get steps (n - 1) ≡ Some (Updated after told)) (AllZip-long _ seats steps zipped) step_is in
    let given : seat_outcome m (reached entries downs) s ≡ Some (Updated after told) =
    paired_at (IsStepOf m (reached entries downs)) seats steps (length seats - 1) s (Updated after told) zipped seat_is at in
    let is : seat_outcome m (reached entries downs) s ≡ Some (asked leaf (m.outcome e x.1 down)) =
    ap (option_and_then (λ y. option_map (λ w. asked leaf (m.outcome e y.1 w)) (handed m.top downs s.above))) entry_is
    ∙ ap (option_map (λ w. asked leaf (m.outcome e x.1 w))) (ap (handed m.top downs) above_is ∙ handed_is) in
    let same : Some (asked leaf (m.outcome e x.1 down)) ≡ Some (Updated after told) = sym is ∙ given in
    let step : asked leaf (m.outcome e x.1 down) ≡ Updated after told = cc in
    gave leaf (m.outcome e x.1 down) after told step
