-- The lines of rounds, one after another.
use Rattle.std.proofs.Common.{◌≡◌, ◌≤◌, ℕ, zero, suc, ◌+◌, ◌-◌, ◌*◌, List, [], ◌∷◌, ◌++◌, ◌∙◌, map, ap, sym, append-nil, append_assoc, arith}
use Rattle.std.proofs.lemmas.List.Concat.{flat_map-append}
use Rattle.std.specs.Prelude.{codes, decimal, flat_map}
use Rattle.std.specs.List.{range_with_len}
use Rattle.script_gen.specs.Draws.{sequence_number}
use Rattle.script_gen.specs.Lines.{change_line, round_lines, rounds_lines, bytes_of_lines}
use Rattle.script_gen.proofs.ChangeLemmas.{changes-later}
use Rattle.script_gen.proofs.TextLemmas.{bytes_of_lines-append, bytes_of_lines-cons, bytes_of_lines-one}

range_with_len-more : (from count : ℕ) → range_with_len from (suc count) ≡ range_with_len from count ++ (from + count) ∷ []
range_with_len-more from zero = ap (λ n. n ∷ []) (omega arith)
range_with_len-more from (suc count) =
    ap (λ ns. from ∷ ns) (range_with_len-more (from + 1) count ∙ ap (λ n. range_with_len (from + 1) count ++ n ∷ []) (omega arith))

-- one round more
rounds-more : (f : ℕ → List (List ℕ)) (count r : ℕ) → 1 + count ≡ r
    → flat_map f (range_with_len 1 (suc count)) ≡ flat_map f (range_with_len 1 count) ++ f r
rounds-more f count r at =
    ap (flat_map f) (range_with_len-more 1 count)
    ∙ flat_map-append f _ _
    ∙ ap (λ ls. flat_map f (range_with_len 1 count) ++ ls) (append-nil _ ∙ ap f at)

pub all_rounds : (x count : ℕ) → count ≡ 60 → flat_map (round_lines x) (range_with_len 1 count) ≡ rounds_lines x
unfolding rounds_lines
all_rounds x count is = ap (λ k. flat_map (round_lines x) (range_with_len 1 k)) is

-- what the lines after the changes are
time_and_frame : (changes : List (List ℕ)) (time : List ℕ)
    → bytes_of_lines (changes ++ (codes "at " ++ time) ∷ codes "frame" ∷ []) ≡ bytes_of_lines changes ++ ((codes "at " ++ (time ++ codes "\n")) ++ codes "frame\n")
time_and_frame changes time =
    bytes_of_lines-append changes _
    ∙ ap (λ t. bytes_of_lines changes ++ t) (bytes_of_lines-cons _ _ ∙ ap (λ t. ((codes "at " ++ time) ++ codes "\n") ++ t) (bytes_of_lines-one (codes "frame"))
    ∙ ap (λ t. t ++ codes "frame\n") (append_assoc (codes "at ") time (codes "\n")))

-- what is written of round r
round_lines-written : (x r y : ℕ) → y ≡ sequence_number x (2 * (50 * (r - 1)))
    → bytes_of_lines (round_lines x r) ≡ bytes_of_lines (map (change_line y) (range_with_len 0 50)) ++ ((codes "at " ++ (decimal (200 * r) ++ codes "\n")) ++ codes "frame\n")
unfolding round_lines
round_lines-written x r y is =
    time_and_frame (map (change_line x) (range_with_len (50 * (r - 1)) 50)) (decimal (200 * r))
    ∙ ap (λ t. t ++ ((codes "at " ++ (decimal (200 * r) ++ codes "\n")) ++ codes "frame\n"))
    (ap bytes_of_lines (sym (ap (λ z. map (change_line z) (range_with_len 0 50)) is ∙ changes-later x (50 * (r - 1)) 0 50 ∙ ap (λ k. map (change_line x) (range_with_len k 50)) (omega arith))))

-- the lines of round r are appended to those of the rounds before
pub one_more_round : (x r y : ℕ) (old before changed timed new : List ℕ) → 1 ≤ r → y ≡ sequence_number x (2 * (50 * (r - 1)))
    → before ≡ old ++ bytes_of_lines (flat_map (round_lines x) (range_with_len 1 (r - 1)))
    → changed ≡ before ++ bytes_of_lines (map (change_line y) (range_with_len 0 50))
    → timed ≡ changed ++ (codes "at " ++ (decimal (200 * r) ++ codes "\n"))
    → new ≡ timed ++ codes "frame\n"
    → new ≡ old ++ bytes_of_lines (flat_map (round_lines x) (range_with_len 1 (r + 1 - 1)))
one_more_round x r y old before changed timed new from is was changes time frame =
    let rounds = flat_map (round_lines x) (range_with_len 1 (r - 1)) in
    let this = bytes_of_lines (map (change_line y) (range_with_len 0 50)) in
    let at = codes "at " ++ (decimal (200 * r) ++ codes "\n") in
    let count : r + 1 - 1 ≡ suc (r - 1) = omega arith in
    let all : bytes_of_lines (flat_map (round_lines x) (range_with_len 1 (r + 1 - 1))) ≡ bytes_of_lines rounds ++ (this ++ (at ++ codes "frame\n")) =
    ap (λ k. bytes_of_lines (flat_map (round_lines x) (range_with_len 1 k))) count
    ∙ ap bytes_of_lines (rounds-more (round_lines x) (r - 1) r (omega arith))
    ∙ bytes_of_lines-append rounds (round_lines x r)
    ∙ ap (λ t. bytes_of_lines rounds ++ t) (round_lines-written x r y is) in
    frame
    ∙ ap (λ t. t ++ codes "frame\n") (time ∙ ap (λ t. t ++ at) (changes ∙ ap (λ t. t ++ this) was))
    ∙ sym (ap (λ t. old ++ t) all ∙ sym (simp append_assoc))
