use Rattle.std.proofs.Common.{◌∙◌, ap}
use Rattle.std.specs.Prelude.{◌++◌, List, option_copied, true}
use Rattle.style_data.specs.Entries.{effect_lists, entry_parts}
use Rattle.style_data.specs.declared.animation.AnimationState.{AnimationState}
use Rattle.element_step.proofs.Rendered.{entry_is}
use Rattle.element_step.proofs.update.update_entry.Goals as goal
use Rattle.element_step.specs.Updates.{ElementUpdate, cancelled_of, element_update, now_of, settled_after, transitions_of}

pub returns-clause-entry : goal.returns-clause-entry
returns-clause-entry g c =
    let with_animations : List AnimationState → ElementUpdate =
    λ animations. element_update c.args.entry.now c.args.declared (option_copied c.args.parent) (g.A.Sampling.animated_value c.args.old.now)
    (g.B.Sampling.animated_value c.args.new.now) animations c.args.root_size c.args.event in
    let items = c.as_slice-animations.ensures.value in
    let restyled = c.in_ok-restyled.restyled in
    let told = c.in_ok-restyled.ensures in
    c.in_ok-entry.ensures
    ∙ ap (λ kept. entry_parts true c.is_rendered-rendered.result restyled.settled c.args.declared restyled.now
    (effect_lists restyled.transitions c.args.paired.animations.items (kept ++ restyled.gone.items ++ c.args.paired.gone.items))) c.gone.ensures
    ∙ entry_is (with_animations c.args.paired.animations.items) c.args.paired.gone.items c.is_rendered-rendered.result restyled.settled restyled.now
    restyled.transitions restyled.gone.items c.is_rendered-rendered.ensures (told.settled ∙ ap (λ a. settled_after (with_animations a)) items)
    (told.now ∙ ap (λ a. now_of (with_animations a)) items) (told.transitions ∙ ap (λ a. transitions_of (with_animations a)) items)
    (told.gone ∙ ap (λ a. cancelled_of (with_animations a)) items)
