use Rattle.std.proofs.Common.{◌<◌, subst, sym}
use Rattle.style_data.specs.Entries.{AreAscending}
use Rattle.ticker.proofs.Changes.{AllPairs-map}
use Rattle.ticker.proofs.entry.ticked_effects.Goals as goal
use Rattle.ticker.specs.Ticks.{ticked_animation}

pub new-requires-2 : goal.new-requires-2
new-requires-2 c =
    subst AreAscending (sym c.in_ok-animations.ensures)
    (AllPairs-map (ticked_animation c.args.t.0) (λ a b. a.place < b.place) (λ a b less. less) c.animations.result.now c.animations.ensures.ascending)
