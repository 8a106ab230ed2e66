-- A source and a sink in memory, and the calls that they are to fail.
use Rattle.std.specs.Prelude.{ℕ, ◌+◌, ◌-◌, ◌^◌, ◌<◌, min, List, length, Contains, nat_lt, ◌==◌, ◌&&◌, if◌then◌else◌}

-- a source in memory: the bytes left, at most how many a call gives, the numbers of the calls that fail, how many calls
-- were made, and how many of them failed
pub record SourceState : Type 0 where
  pub left : List ℕ
  pub most : ℕ
  pub failing : List ℕ
  pub calls : ℕ
  pub faults : ℕ

-- a sink in memory: the bytes that it holds and has room for, at most how many a call takes, the numbers of the calls that
-- fail, how many calls were made, how many of them failed, and how many took no byte of some
pub record SinkState : Type 0 where
  pub held : List ℕ
  pub room : ℕ
  pub most : ℕ
  pub failing : List ℕ
  pub calls : ℕ
  pub faults : ℕ
  pub empty_writes : ℕ

-- one more, as far as 64 bits count
abbrev pub counted : ℕ → ℕ
counted n = min (n + 1) (2 ^ 64 - 1)

-- after so many calls the next one has a number, and it is listed
abbrev pub IsListed : List ℕ → ℕ → Type 0
IsListed failing calls = (calls < 2 ^ 64 - 1) × Contains failing (calls + 1)

-- how many bytes the source gives to a buffer of so many
abbrev pub given_count : SourceState → ℕ → ℕ
given_count source len = min len (min (length source.left) source.most)

-- how many bytes of a piece of so many the sink takes
abbrev pub taken_count : SinkState → ℕ → ℕ
taken_count sink len = min len (min (sink.room - length sink.held) sink.most)

-- the count of empty writes after a call that took n bytes of a piece of so many
abbrev pub empties_after : ℕ → ℕ → ℕ → ℕ
empties_after before n len = if (n == 0) && nat_lt 0 len then counted before else before
