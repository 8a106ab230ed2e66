use Rattle.std.proofs.Common.{◌≡◌, map, drop}
use Rattle.token_parts.specs.Parts.{token_part}
use Rattle.list_text.specs.ItemReading.{each_of, with_front}
use Rattle.list_text.proofs.list.each_of.Given as goal

abbrev pub invariant-loop-group : goal.invariant-loop-group
invariant-loop-group g l =
    with_front l.items.items (each_of (g.T.Item.item_of l.name) (map (λ s. map token_part s.now) (drop l.group-index l.groups)))
    ≡ each_of (g.T.Item.item_of l.name) (map (λ s. map token_part s.now) l.groups)
