use Rattle.std.proofs.Common.{◌∙◌, ap, refl, sym}
use Rattle.std.specs.Option.{option_and_then}
use Rattle.std.proofs.lemmas.Option.{slice_get_read}
use Rattle.animation_names.specs.Numbered.{given_below}
use Rattle.animation_names.specs.Updates.{gone_at, gone_from}
use Rattle.animation_names.proofs.NumberedLemmas.{given-step}
use Rattle.animation_names.proofs.updating.gone_among.Goals as goal

pub loop-j-init : goal.loop-j-init
unfolding given_below
loop-j-init c = c.new-gone.ensures.items

pub loop-j-preserved : goal.loop-j-preserved
loop-j-preserved c =
    let stands = slice_get_read c.args.old.now _ c.loop-j.j c.index-old-j.result refl c.loop-j-test.true c.index-old-j.is in
    given-step (gone_at c.args.t c.args.old.now c.args.animations.now) c.loop-j.j c.loop-j.gone.items c.push_some.new.items.items c.in_ok-cancelled.cancelled c.loop-j.invariant
    (c.in_ok-cancelled.ensures ∙ ap (option_and_then (gone_from c.args.t c.args.old.now c.args.animations.now c.loop-j.j)) (sym stands))
    c.in_ok-push_some.ensures
