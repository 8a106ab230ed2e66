-- Outcomes that are put.
use Rattle.std.proofs.Common.{◌≡◌, ℕ, ◌+◌, ◌<◌, ◌≤◌, refl, ap, sym, ◌∙◌, arith, List, ◌∷◌, [], ◌++◌, length, drop, get_or, Option, None, Some}
use Rattle.std.proofs.lemmas.List.{drop_more, length-set}
use Rattle.pass_core.specs.declared.step.Step.{Step}
use Rattle.pass_core.specs.declared.step.Step.TheVariants.{Updated, Kept}
use Rattle.work_split.specs.declared.seat.Seat.{Seat}
use Rattle.work_split.specs.Steps.{Reached, put, put_all, put_down}

-- stands for a seat past the end of a list
abbrev pub no_seat : Seat
no_seat = record { place = record { element = 0; parent = None; end = 0 }; row = 0; slot = None; above = None }

put_down-length : {D : Type 0} (downs : List D) (slot : Option ℕ) (o : Option D) → length (put_down downs slot o) ≡ length downs
put_down-length downs None o = refl
put_down-length downs (Some i) None = refl
put_down-length downs (Some i) (Some d) = length-set downs i d

module _ {E D : Type 0} where
  pub put-rows : (s : Seat) (step : Step E (Option D)) (r : Reached E D) → length (put s step r).entries ≡ length r.entries
  put-rows s (Updated x down) r = length-set r.entries s.row (s.place.element, x)
  put-rows s (Kept down) r = refl

  pub put-slots : (s : Seat) (step : Step E (Option D)) (r : Reached E D) → length (put s step r).downs ≡ length r.downs
  put-slots s (Updated x down) r = put_down-length r.downs s.slot down
  put-slots s (Kept down) r = put_down-length r.downs s.slot down

  pub put_all-rows : (seats : List Seat) (steps : List (Step E (Option D))) (r : Reached E D) → length (put_all seats steps r).entries ≡ length r.entries
  put_all-rows [] steps r = refl
  put_all-rows (s ∷ seats) [] r = refl
  put_all-rows (s ∷ seats) (step ∷ steps) r = put_all-rows seats steps (put s step r) ∙ put-rows s step r

  pub put_all-slots : (seats : List Seat) (steps : List (Step E (Option D))) (r : Reached E D) → length (put_all seats steps r).downs ≡ length r.downs
  put_all-slots [] steps r = refl
  put_all-slots (s ∷ seats) [] r = refl
  put_all-slots (s ∷ seats) (step ∷ steps) r = put_all-slots seats steps (put s step r) ∙ put-slots s step r

  pub put_all-none : (seats : List Seat) (r : Reached E D) → put_all seats [] r ≡ r
  put_all-none [] r = refl
  put_all-none (s ∷ seats) r = refl

  -- one more outcome
  pub put_all-next : (level : List Seat) (next : ℕ) (d : Seat) (step : Step E (Option D)) (steps : List (Step E (Option D))) (r now : Reached E D) → next < length level
      → now ≡ put (get_or level next d) step r → put_all (drop (next + 1) level) steps now ≡ put_all (drop next level) (step ∷ steps) r
  put_all-next level next d step steps r now within is =
      ap (put_all (drop (next + 1) level) steps) is ∙ ap (λ l. put_all l (step ∷ steps) r) (sym (drop_more level next d within))

  -- the outcomes of a piece
  pub put_all-piece : (level : List Seat) (next after : ℕ) (piece steps : List (Step E (Option D))) (r : Reached E D) (d : Seat) → after ≡ next + length piece → after ≤ length level
      → put_all (drop after level) steps (put_all (drop next level) piece r) ≡ put_all (drop next level) (piece ++ steps) r
  put_all-piece level next after [] steps r d is within =
      let same : after ≡ next = omega (arith, is) in
      ap (put_all (drop after level) steps) (put_all-none (drop next level) r) ∙ ap (λ n. put_all (drop n level) steps r) same
  put_all-piece level next after (step ∷ piece) steps r d is within =
      let cut = drop_more level next d (omega (arith, is, within)) in
      ap (λ l. put_all (drop after level) steps (put_all l (step ∷ piece) r)) cut
      ∙ put_all-piece level (next + 1) after piece steps (put (get_or level next d) step r) d (omega (arith, is)) within
      ∙ ap (λ l. put_all l (step ∷ (piece ++ steps)) r) (sym cut)
