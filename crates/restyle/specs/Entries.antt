-- Numbers that differ, and entries that are taken out one by one.
use Rattle.std.specs.Prelude.{◌≡◌, ◌≢◌, ℕ, ◌==◌, Bool, true, not, ◌&&◌, List, [], ◌∷◌, Option, length, nat_eq, slice_get}
use Rattle.std.specs.List.{list_any, position_or_len}
use Rattle.std.specs.Option.{option_and_then}
use Rattle.pass_core.specs.Passes.{value_for}
use Rattle.style_data.specs.Entries.{EntryParts}
use Rattle.restyle.specs.declared.entries.Taken.{Taken}

-- a number is among these
abbrev pub is_among : ℕ → List ℕ → Bool
is_among n ns = list_any (λ m. m == n) ns

-- no number of a list is among those after it
abbrev pub are_apart : List ℕ → Bool
are_apart [] = true
are_apart (n ∷ ns) = not (is_among n ns) && are_apart ns

-- each number has its place
abbrev pub IsAligned : Taken → Type 0
IsAligned taken = length taken.left.items ≡ length taken.numbers.keys

-- the entry of element n, where it is left
abbrev pub entry_left : Taken → ℕ → Option EntryParts
entry_left taken n = option_and_then (λ entry. entry) (slice_get taken.left.items (position_or_len (nat_eq n) taken.numbers.keys))

-- all of these entries are left
abbrev pub IsLeft : Taken → List (ℕ × EntryParts) → Type 0
IsLeft taken entries = (n : ℕ) → entry_left taken n ≡ value_for entries n

-- all but that of element n are left
abbrev pub LeavesOthers : Taken → ℕ → Taken → Type 0
LeavesOthers before n after = (m : ℕ) → m ≢ n → entry_left after m ≡ entry_left before m
