use Rattle.std.proofs.Common.{◌≡◌, ◌∙◌, ap, arith, length, refl, slice_get, sym}
use Rattle.std.proofs.lemmas.Option.{slice_get_read}
use Rattle.animation_names.specs.NameLists.{names_update}
use Rattle.animation_names.specs.Numbered.{given_below}
use Rattle.animation_names.specs.Updates.{animation_at, animations_after}
use Rattle.animation_names.proofs.Keeping.{item-at}
use Rattle.animation_names.proofs.NumberedLemmas.{given-step}
use Rattle.animation_names.proofs.updating.animations_after.Goals as goal

pub loop-i-init : goal.loop-i-init
unfolding given_below
loop-i-init c = c.new-animations.ensures.items

pub loop-i-preserved : goal.loop-i-preserved
loop-i-preserved c =
    let u = names_update c.args.old.now c.args.lists.now c.args.sheets.now c.args.t c.args.generation c.args.position in
    let there = slice_get_read c.names-names.result.now _ c.loop-i.i c.index-names-i.result refl c.loop-i-test.true c.index-names-i.is in
    given-step (animation_at u) c.loop-i.i c.loop-i.animations.items c.push_some.new.items.items c.in_ok-animation.animation c.loop-i.invariant
    (c.in_ok-animation.ensures ∙ item-at u c.loop-i.i c.index-names-i.result (ap (λ ns. slice_get ns c.loop-i.i) (sym c.names-names.ensures.value) ∙ there))
    c.in_ok-push_some.ensures

pub returns : goal.returns
unfolding animations_after
returns c =
    let u = names_update c.args.old.now c.args.lists.now c.args.sheets.now c.args.t c.args.generation c.args.position in
    let same : c.loop-i.i ≡ length c.args.lists.now.names = omega (arith, c.loop-i-test.false, c.loop-i.auto.i-end, ap length c.names-names.ensures.value) in
    c.loop-i.invariant ∙ ap (given_below (animation_at u)) same
