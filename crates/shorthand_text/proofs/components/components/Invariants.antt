use Rattle.std.proofs.Common.{◌≡◌, ◌≤◌, ◌++◌, map, drop, false}
use Rattle.std.specs.Prelude.{slice_range}
use Rattle.token_parts.specs.Parts.{token_part}
use Rattle.list_text.specs.ItemReading.{onto_first_group}
use Rattle.shorthand_text.specs.Components.{component_values_of}
use Rattle.shorthand_text.proofs.components.components.Given as goal

abbrev pub invariant-loop-i : goal.invariant-loop-i
invariant-loop-i l =
    (l.from ≤ l.i)
    × (l.inside ≡ false → l.from ≡ l.i)
    × (map (λ c. map token_part c.now) l.components.items ++ onto_first_group (map token_part (slice_range l.parts l.from l.i)) (component_values_of l.inside (map token_part (drop l.i l.parts))) ≡ component_values_of false (map token_part l.parts))
