-- The digits after the point, and what an append keeps.
use Rattle.std.proofs.Common.{◌≡◌, ℕ, ◌+◌, ◌-◌, ◌/◌, ◌%◌, ◌^◌, ◌<◌, ◌≤◌, zero, suc, refl, arith, ap, ◌∷◌, ◌++◌, List, length, ◌∙◌, [], sym, append_assoc, append-nil}
use Rattle.std.specs.Prelude.{◌≢◌}
use Rattle.std.specs.Io.{StartsWith}
use Rattle.std.proofs.Transfers.{starts_with_length}
use Rattle.std.proofs.lemmas.Bool.Decides.{nat_tests}
use Rattle.std.proofs.lemmas.List.{take-append-le}
use Rattle.fix_num.specs.Print.{fraction_of, fraction_text}

pub power_positive : (n : ℕ) → 0 < 10 ^ n
power_positive zero = omega arith
power_positive (suc n) = omega (arith, power_positive n)

-- what is left has a digit at the next place
pub place_left : (place left : ℕ) → left < 10 ^ place → left ≢ 0 → 0 < place
place_left zero left small some = absurd (some (omega arith))
place_left (suc place) left small some = omega arith

pub fraction_step : (place left : ℕ) → 0 < place → left ≢ 0
    → fraction_of place left ≡ (48 + left / 10 ^ (place - 1)) ∷ fraction_of (place - 1) (left % 10 ^ (place - 1))
fraction_step zero left some more = absurd (omega arith)
fraction_step (suc place) left some more =
    let e : suc place - 1 ≡ place = omega arith in rw e (grind (arith, nat_tests))

pub starts_with_more : (old xs ys : List ℕ) → StartsWith xs old → StartsWith (xs ++ ys) old
starts_with_more old xs ys h =
    let short : length old ≤ length xs = starts_with_length xs old h in
    rw take-append-le h

-- one more digit after the others
pub digit_pushed : (old new total : List ℕ) (place left unit : ℕ) → 0 < place → left ≢ 0 → unit ≡ 10 ^ (place - 1)
    → new ≡ old ++ (48 + left / unit) ∷ [] → old ++ fraction_of place left ≡ total → new ++ fraction_of (place - 1) (left % unit) ≡ total
digit_pushed old new total place left unit some more u e whole =
    ap (λ l. l ++ fraction_of (place - 1) (left % unit)) e
    ∙ append_assoc old ((48 + left / unit) ∷ []) (fraction_of (place - 1) (left % unit))
    ∙ ap (λ v. old ++ ((48 + left / v) ∷ fraction_of (place - 1) (left % v))) u
    ∙ ap (λ l. old ++ l) (sym (fraction_step place left some more))
    ∙ whole

none_left : (place : ℕ) → fraction_of place 0 ≡ []
none_left zero = refl
none_left (suc place) = refl

text_after : (places rest : ℕ) → rest ≢ 0 → fraction_text places rest ≡ 46 ∷ fraction_of places rest
text_after places rest h = grind (arith, nat_tests)

pub fraction_done : (out old start : List ℕ) (place left places rest : ℕ) → rest ≢ 0 → left ≡ 0 → start ≡ old ++ 46 ∷ []
    → out ++ fraction_of place left ≡ start ++ fraction_of places rest → out ≡ old ++ fraction_text places rest
fraction_done out old start place left places rest some none dot whole =
    sym (append-nil out) ∙ ap (λ l. out ++ l) (sym (none_left place)) ∙ ap (λ n. out ++ fraction_of place n) (sym none)
    ∙ whole ∙ ap (λ l. l ++ fraction_of places rest) dot ∙ append_assoc old (46 ∷ []) (fraction_of places rest)
    ∙ ap (λ l. old ++ l) (sym (text_after places rest some))
