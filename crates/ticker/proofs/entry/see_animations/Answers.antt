use Rattle.std.proofs.Common.{◌≡◌, length, sym, ◌∙◌, ap, arith}
use Rattle.style_data.specs.Entries.{EntryParts}
use Rattle.ticker.proofs.Changes.{all_changed, length-changed_first, none_changed}
use Rattle.ticker.proofs.Seeing.{next_animation_seen}
use Rattle.ticker.proofs.entry.see_animations.Goals as goal
use Rattle.ticker.specs.Ticks.{ticked_animation, with_animations}

pub loop-i-init : goal.loop-i-init
loop-i-init c = record {
  count = ap length c.animations-i-end.ensures.value;
  entry = ap (with_animations c.args.entry.now) (sym (none_changed (ticked_animation c.args.t.0) c.args.entry.now.effects.animations));
}

pub see_animation-requires : goal.see_animation-requires
see_animation-requires c =
    let same : length c.loop-i.entry.effects.animations ≡ length c.args.entry.now.effects.animations =
    ap (λ (e : EntryParts). length e.effects.animations) c.loop-i.invariant.entry
    ∙ length-changed_first (ticked_animation c.args.t.0) c.args.entry.now.effects.animations c.loop-i.i in
    omega (arith, same, c.loop-i.invariant.count)

pub bounds-animations-i : goal.bounds-animations-i
bounds-animations-i c =
    let same : length c.animations.result.now ≡ length c.args.entry.now.effects.animations =
    ap length c.animations.ensures.value ∙ ap (λ (e : EntryParts). length e.effects.animations) c.loop-i.invariant.entry
    ∙ length-changed_first (ticked_animation c.args.t.0) c.args.entry.now.effects.animations c.loop-i.i in
    omega (arith, same, c.loop-i.invariant.count)

pub loop-i-preserved : goal.loop-i-preserved
loop-i-preserved c = record {
  count = c.loop-i.invariant.count;
  entry =
      c.see_animation.ensures
      ∙ next_animation_seen c.args.t.0 c.args.entry.now c.loop-i.entry c.loop-i.i c.index-animations-i.result c.phase_at-seen.result c.iteration_now-iteration.result c.loop-i.invariant.entry
      (rw (c.animations.ensures.value) at c.index-animations-i.is) c.phase_at-seen.ensures c.iteration_now-iteration.ensures (omega (arith, c.loop-i.invariant.count));
}

pub returns : goal.returns
returns c =
    c.loop-i.invariant.entry
    ∙ ap (with_animations c.args.entry.now)
    (all_changed (ticked_animation c.args.t.0) c.args.entry.now.effects.animations c.loop-i.i (omega (arith, c.loop-i.invariant.count)))
