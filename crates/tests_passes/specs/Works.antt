-- What the works of the tests do.
use Rattle.std.specs.Prelude.{ℕ, ◌+◌, ◌%◌, ◌^◌, ◌==◌, if◌then◌else◌}
use Rattle.pass_core.specs.Work.{Meaning}
use Rattle.pass_core.specs.declared.step.Step.{Step}
use Rattle.pass_core.specs.declared.step.Step.TheVariants.{Updated, Kept}

-- a new entry that is handed down too
abbrev pub passed_on : ℕ → Step ℕ ℕ
passed_on n = Updated n n

-- the sum of the entry and what is handed down becomes the entry, and is handed down
abbrev pub growing : Meaning ℕ ℕ
growing = record { outcome = λ element entry down. passed_on ((entry + down) % 2 ^ 32); top = 5 }

-- the same, but an entry of 0 stays
abbrev pub summing : Meaning ℕ ℕ
summing = record { outcome = λ element entry down. if entry == 0 then Kept down else passed_on ((entry + down) % 2 ^ 32); top = 5 }

-- the entry is handed down, and what is handed down becomes the entry, unless they are the same
abbrev pub handing : ℕ → Meaning ℕ ℕ
handing top = record { outcome = λ element entry down. if entry == down then Kept down else Updated down entry; top = top }
