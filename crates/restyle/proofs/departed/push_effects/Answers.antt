use Rattle.std.proofs.Common.{◌∙◌, ap}
use Rattle.transition_update.specs.Updates.{all_cancelled}
use Rattle.restyle.proofs.Questions.{on_ok}
use Rattle.restyle.proofs.WorldFrames.{whole_effects}
use Rattle.restyle.proofs.departed.push_effects.Goals as goal

pub returns : goal.returns
returns c =
    on_ok c.push_animations.result
    (λ third. whole_effects c.args.n c.args.t c.args.effects.now c.gone.result.now c.as_slice.result.now c.animations.result.now c.args.departed.now.items c.push_items.new.departed.items c.push_items-2.new.departed.items
    c.push_animations.new.departed.items c.gone.ensures (c.as_slice.ensures.value ∙ c.in_ok-cancelled.ensures ∙ ap (λ ts. all_cancelled ts c.args.t.0) c.transitions.ensures.value) c.animations.ensures.value c.in_ok-push_items.ensures c.in_ok-push_items-2.ensures third)
    c.push_animations.ensures
