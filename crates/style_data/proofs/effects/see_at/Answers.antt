use Rattle.style_data.proofs.Changes.{set-changed}
use Rattle.style_data.proofs.effects.see_at.Goals as goal

pub returns : goal.returns
returns c =
    rw (c.see.ensures, c.index_mut.ensures.value)
    (set-changed (λ a. record a { seen = c.args.seen; iteration = c.args.iteration }) c.args.animations.now.items c.args.i c.index_mut.result.now c.requires)
