-- The sequence of numbers that a seed begins: a linear congruential generator modulo 2^64 (Knuth, The Art of Computer
-- Programming, volume 2, section 3.2.1).
use Rattle.std.specs.Prelude.{ℕ, zero, suc, ◌+◌, ◌*◌, ◌/◌, ◌%◌, ◌^◌}

-- the number after x
unfoldable pub next_number : ℕ → ℕ
next_number x = (x * 6364136223846793005 + 1442695040888963407) % 2 ^ 64

-- the number so many places after x
unfoldable pub sequence_number : ℕ → ℕ → ℕ
sequence_number x zero = x
sequence_number x (suc n) = next_number (sequence_number x n)

-- which of 0 to count - 1 a number chooses, by its upper bits
abbrev pub choice : ℕ → ℕ → ℕ
choice x count = x / 2 ^ 33 % count

-- what draw n after x, counted from 1, chooses
unfoldable pub drawn : ℕ → ℕ → ℕ → ℕ
drawn x n count = choice (sequence_number x n) count
