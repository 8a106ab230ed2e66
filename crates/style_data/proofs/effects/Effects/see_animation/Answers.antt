use Rattle.std.specs.Prelude.{◌<◌}
use Rattle.style_data.proofs.Changes.{AllPairs-with_changed_item}
use Rattle.style_data.proofs.effects.Effects.see_animation.Goals as goal

pub invariant_of-self : goal.invariant_of-self
invariant_of-self c =
    rw c.see_at.ensures
    (AllPairs-with_changed_item (λ a. record a { seen = c.args.seen; iteration = c.args.iteration }) (λ a b. a.place < b.place) (λ x y r. r) (λ x y r. r)
    c.self.inside.animations.items c.args.i c.self.invariant)
