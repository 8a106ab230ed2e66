use Rattle.std.proofs.Common.{◌≡◌, map}
use Rattle.token_parts.specs.Parts.{token_part}
use Rattle.shorthand_text.proofs.ComponentLemmas.{ArePassed}
use Rattle.shorthand_text.proofs.components.take_first.Given as goal

abbrev pub invariant-loop-i : goal.invariant-loop-i
invariant-loop-i g l =
    (l.components.items ≡ l.fn.components.items) × ArePassed (g.T.Item.item_of l.name) (λ c. map token_part c.now) l.fn.components.items l.i
