use Rattle.std.proofs.Common.{map, sym, ap, ◌∙◌}
use Rattle.token_parts.specs.Parts.{token_part}
use Rattle.token_parts.specs.Steps.{◌>>=◌}
use Rattle.shorthand_text.specs.TimingItems.{animation_with}
use Rattle.shorthand_text.proofs.ItemLemmas.{animation_taken}
use Rattle.shorthand_text.proofs.animation.animation_from.Goals as goal

pub returns-in-Some : goal.returns-in-Some
returns-in-Some c =
    c.animation_with.ensures ∙ ap (λ o. o >>= λ n. animation_with n c.in_ok-duration.duration c.in_ok-delay.delay c.in_ok-easing.easing c.in_ok-count.count c.in_ok-direction.direction c.in_ok-fill.fill c.in_ok-state.state) (sym c.in-Some.is)
    ∙ animation_taken (map (λ g. map token_part g.now) c.args.components.items) (map (λ g. map token_part g.now) c.take_first.new.components.items)
    (map (λ g. map token_part g.now) c.take_first-2.new.components.items) (map (λ g. map token_part g.now) c.take_first-3.new.components.items)
    (map (λ g. map token_part g.now) c.take_first-4.new.components.items) (map (λ g. map token_part g.now) c.take_first-5.new.components.items)
    (map (λ g. map token_part g.now) c.take_first-6.new.components.items) (map (λ g. map token_part g.now) c.take_first-7.new.components.items)
    c.in_ok-direction.direction c.in_ok-fill.fill c.in_ok-state.state c.in_ok-easing.easing c.in_ok-count.count c.in_ok-duration.duration c.in_ok-delay.delay c.in_ok-name.field-0
    c.in_ok-direction.ensures c.in_ok-fill.ensures c.in_ok-state.ensures c.in_ok-easing.ensures c.in_ok-count.ensures c.in_ok-duration.ensures c.in_ok-delay.ensures
    (rw c.as_slice.ensures.value at c.in_ok-name.ensures)
