-- Numbers of the sequence, one after another.
use Rattle.std.proofs.Common.{◌≡◌, ℕ, zero, suc, ◌+◌, ◌*◌, ◌%◌, ◌^◌, refl, ap, sym, ◌∙◌, arith}
use Rattle.std.proofs.Math.Nat.{mod-add-mod}
use Rattle.script_gen.specs.Draws.{choice, drawn, next_number, sequence_number}

pub wrapped : (x : ℕ) → ((x * 6364136223846793005) % 2 ^ 64 + 1442695040888963407) % 2 ^ 64 ≡ next_number x
unfolding next_number
wrapped x = mod-add-mod (x * 6364136223846793005) (2 ^ 64) 1442695040888963407

pub sequence_number-none : (x : ℕ) → sequence_number x 0 ≡ x
unfolding sequence_number
sequence_number-none x = refl

pub sequence_number-more : (x n : ℕ) → sequence_number x (suc n) ≡ next_number (sequence_number x n)
unfolding sequence_number
sequence_number-more x n = refl

-- n places after the number m places after x
pub sequence_number-twice : (x m n : ℕ) → sequence_number (sequence_number x m) n ≡ sequence_number x (m + n)
sequence_number-twice x m zero = sequence_number-none _ ∙ ap (sequence_number x) (omega arith)
sequence_number-twice x m (suc n) =
    sequence_number-more (sequence_number x m) n
    ∙ ap next_number (sequence_number-twice x m n)
    ∙ sym (sequence_number-more x (m + n))
    ∙ ap (sequence_number x) (omega arith)

pub drawn-is : (x n count : ℕ) → drawn x n count ≡ choice (sequence_number x n) count
unfolding drawn
drawn-is x n count = refl
