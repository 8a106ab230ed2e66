-- The bytes of lines.
use Rattle.std.proofs.Common.{◌≡◌, ℕ, ◌+◌, List, [], ◌∷◌, ◌++◌, map, refl, ap, sym, ◌∙◌, append-nil, append_assoc}
use Rattle.std.proofs.lemmas.List.Concat.{flat_map-append}
use Rattle.std.proofs.lemmas.List.FromFn.{map-range_with_len_more}
use Rattle.std.specs.Prelude.{codes}
use Rattle.std.specs.List.{range_with_len}
use Rattle.script_gen.specs.Lines.{bytes_of_lines}

pub bytes_of_lines-none : bytes_of_lines [] ≡ []
unfolding bytes_of_lines
bytes_of_lines-none = refl

pub bytes_of_lines-cons : (line : List ℕ) (lines : List (List ℕ)) → bytes_of_lines (line ∷ lines) ≡ (line ++ codes "\n") ++ bytes_of_lines lines
unfolding bytes_of_lines
bytes_of_lines-cons line lines = refl

pub bytes_of_lines-append : (lines more : List (List ℕ)) → bytes_of_lines (lines ++ more) ≡ bytes_of_lines lines ++ bytes_of_lines more
unfolding bytes_of_lines
bytes_of_lines-append lines more = flat_map-append (λ (line : List ℕ). line ++ codes "\n") lines more

pub bytes_of_lines-one : (line : List ℕ) → bytes_of_lines (line ∷ []) ≡ line ++ codes "\n"
bytes_of_lines-one line = bytes_of_lines-cons line [] ∙ ap (λ t. (line ++ codes "\n") ++ t) bytes_of_lines-none ∙ append-nil _

-- nothing was appended yet
pub none_written : (old : List ℕ) → old ≡ old ++ bytes_of_lines []
none_written old = sym (ap (λ t. old ++ t) bytes_of_lines-none ∙ append-nil old)

-- the line of n is appended to those that f gave before
pub one_more_written : (f : ℕ → List ℕ) (first count n next : ℕ) (old before new : List ℕ) → first + count ≡ n → next ≡ count + 1
    → before ≡ old ++ bytes_of_lines (map f (range_with_len first count)) → new ≡ before ++ (f n ++ codes "\n")
    → new ≡ old ++ bytes_of_lines (map f (range_with_len first next))
one_more_written f first count n next old before new at more was is =
    is
    ∙ ap (λ t. t ++ (f n ++ codes "\n")) was
    ∙ append_assoc old _ _
    ∙ ap (λ t. old ++ t) (sym (
    ap (λ k. bytes_of_lines (map f (range_with_len first k))) more
    ∙ ap bytes_of_lines (map-range_with_len_more f first count n at)
    ∙ bytes_of_lines-append _ _
    ∙ ap (λ t. bytes_of_lines (map f (range_with_len first count)) ++ t) (bytes_of_lines-one (f n))))
