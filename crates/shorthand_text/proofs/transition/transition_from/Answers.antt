use Rattle.std.proofs.Common.{map, sym, ap, ◌∙◌}
use Rattle.token_parts.specs.Parts.{token_part}
use Rattle.token_parts.specs.Steps.{◌>>=◌}
use Rattle.shorthand_text.specs.TimingItems.{transition_with}
use Rattle.shorthand_text.proofs.ItemLemmas.{transition_taken}
use Rattle.shorthand_text.proofs.transition.transition_from.Goals as goal

pub returns-in-Some : goal.returns-in-Some
returns-in-Some c =
    c.transition_with.ensures ∙ ap (λ o. o >>= λ p. transition_with p c.in_ok-duration.duration c.in_ok-delay.delay c.in_ok-easing.easing) (sym c.in-Some.is)
    ∙ transition_taken (map (λ g. map token_part g.now) c.args.components.items) (map (λ g. map token_part g.now) c.take_first.new.components.items)
    (map (λ g. map token_part g.now) c.take_first-2.new.components.items) (map (λ g. map token_part g.now) c.take_first-3.new.components.items)
    c.in_ok-easing.easing c.in_ok-duration.duration c.in_ok-delay.delay c.in_ok-property.field-0
    c.in_ok-easing.ensures c.in_ok-duration.ensures c.in_ok-delay.ensures (rw c.as_slice.ensures.value at c.in_ok-property.ensures)
