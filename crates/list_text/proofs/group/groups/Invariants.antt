use Rattle.std.proofs.Common.{◌≡◌, ◌≤◌, ◌++◌, map, drop, false}
use Rattle.std.specs.Prelude.{slice_range}
use Rattle.token_parts.specs.Parts.{token_part}
use Rattle.list_text.specs.ItemReading.{groups_of, onto_first_group}
use Rattle.list_text.proofs.group.groups.Given as goal

abbrev pub invariant-loop-i : goal.invariant-loop-i
invariant-loop-i l =
    (l.from ≤ l.i)
    × (map (λ g. map token_part g.now) l.groups.items ++ onto_first_group (map token_part (slice_range l.parts l.from l.i)) (groups_of l.inside (map token_part (drop l.i l.parts))) ≡ groups_of false (map token_part l.parts))
