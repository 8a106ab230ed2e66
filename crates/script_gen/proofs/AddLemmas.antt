-- The lines of elements, one after another.
use Rattle.std.proofs.Common.{◌≡◌, ◌≤◌, ℕ, ◌+◌, ◌-◌, min, ◌++◌, ◌∙◌, ap, sym, map, append_assoc, arith}
use Rattle.std.specs.Prelude.{codes, decimal}
use Rattle.std.specs.List.{range_with_len}
use Rattle.script_gen.specs.Draws.{choice, drawn, next_number, sequence_number}
use Rattle.script_gen.specs.Lines.{add_line, add_lines, drawn_parent}
use Rattle.script_gen.proofs.DrawLemmas.{sequence_number-more}

-- the number that chooses the parent of element n
pub add_number : (x n number : ℕ) → 2 ≤ n → number ≡ sequence_number x (n - 2) → next_number number ≡ sequence_number x (n - 1)
add_number x n number from is =
    ap next_number is ∙ sym (sequence_number-more x (n - 2)) ∙ ap (sequence_number x) (omega arith)

pub drawn_parent-drawn : (x n number : ℕ) → number ≡ sequence_number x (n - 1) → drawn_parent x n ≡ 1 + choice number (min (n - 1) 40)
unfolding drawn_parent drawn
drawn_parent-drawn x n number is = ap (λ y. 1 + choice y (min (n - 1) 40)) (sym is)

-- what is written of element n
pub add_line-written : (x n parent : ℕ) → parent ≡ drawn_parent x n
    → codes "add " ++ (decimal n ++ (codes " " ++ (decimal parent ++ codes " p\n"))) ≡ add_line x n ++ codes "\n"
add_line-written x n parent is =
    ap (λ p. codes "add " ++ (decimal n ++ (codes " " ++ (decimal p ++ codes " p\n")))) is ∙ sym (simp append_assoc)

pub all_adds : (x count : ℕ) → count ≡ 1999 → map (add_line x) (range_with_len 2 count) ≡ add_lines x
unfolding add_lines
all_adds x count is = ap (λ k. map (add_line x) (range_with_len 2 k)) is
