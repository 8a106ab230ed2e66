use Rattle.std.proofs.Common.{◌≡◌, ◌∙◌, ap, subst}
use Rattle.std.specs.Prelude.{IfOk, option_copied}
use Rattle.animation_names.specs.Samples.{samples_of}
use Rattle.animation_names.specs.Updates.{PairedLists}
use Rattle.keyframes.specs.SampleLists.{value_of_samples}
use Rattle.keyframes.specs.SamplesIn.{samples_in}
use Rattle.element_step.specs.Updates.{ElementUpdate, down_after, element_update, entry_after, unless_leaf}
use Rattle.element_step.specs.Works.{DocumentEvent, animated_values_in, animations_updated, paired_with, update_with}
use Rattle.element_step.proofs.Working.{pairs_at, update_is}
use Rattle.element_step.proofs.work.update_within.Goals as goal

module _ (c : goal.After-drop-old-2) where
  abbrev w : DocumentEvent
  w = c.args.work.now

  pairs : animations_updated w c.event_at-event.result c.is_rendered-rendered.result c.args.entry.now c.args.declared ≡ paired_with w c.args.element c.args.entry.now c.args.declared (option_copied c.args.parent)
  pairs = pairs_at w c.args.element c.args.entry.now (option_copied c.args.parent) c.event_at-event.result c.is_rendered-rendered.result c.args.declared c.event_at-event.ensures.value
      c.is_rendered-rendered.ensures

  olds : value_of_samples (samples_in c.in_ok-old.old) ≡ animated_values_in w w.old c.args.entry.now.effects.animations
  olds = ap value_of_samples (c.in_ok-old.ensures ∙ ap (λ xs. samples_of xs c.work.inside.old c.work.inside.time.0) c.animations.ensures.value
      ∙ ap (λ (v : DocumentEvent). samples_of c.args.entry.now.effects.animations v.old v.time.0) c.work.view_is)

  news : value_of_samples (samples_in c.in_ok-new.new) ≡ animated_values_in w w.sheets c.in_ok-paired.paired.animations.items
  news = ap value_of_samples (c.in_ok-new.ensures ∙ ap (λ xs. samples_of xs c.work.inside.sheets c.work.inside.time.0) c.as_slice.ensures.value
      ∙ ap (λ (v : DocumentEvent). samples_of c.in_ok-paired.paired.animations.items v.sheets v.time.0) c.work.view_is)

  whole : element_update c.args.entry.now c.args.declared (option_copied c.args.parent) (value_of_samples (samples_in c.in_ok-old.old)) (value_of_samples (samples_in c.in_ok-new.new)) c.in_ok-paired.paired.animations.items c.work.inside.root_size c.event_at-event.result
      ≡ update_with w c.args.element c.args.entry.now c.args.declared (option_copied c.args.parent)
  whole = update_is w c.args.element c.args.entry.now (option_copied c.args.parent) c.args.declared _ _ c.in_ok-paired.paired.animations.items c.work.inside.root_size c.event_at-event.result
      olds news (c.in_ok-paired.ensures.animations ∙ ap (λ (v : PairedLists). v.animations) pairs) (ap (λ (v : DocumentEvent). v.root_size) c.work.view_is) c.event_at-event.ensures.value

pub returns-clause-entry : goal.returns-clause-entry
returns-clause-entry c =
    subst (λ g. IfOk c.update_entry.result (λ u. u.entry ≡ entry_after (update_with c.args.work.now c.args.element c.args.entry.now c.args.declared (option_copied c.args.parent)) g))
    (c.in_ok-paired.ensures.gone ∙ ap (λ (v : PairedLists). v.gone) (pairs c))
    (subst (λ (x : ElementUpdate). IfOk c.update_entry.result (λ u. u.entry ≡ entry_after x c.in_ok-paired.paired.gone.items)) (whole c) c.update_entry.ensures.entry)

pub returns-clause-down : goal.returns-clause-down
returns-clause-down c = subst (λ (x : ElementUpdate). IfOk c.update_entry.result (λ u. u.down ≡ unless_leaf c.args.leaf (down_after x))) (whole c) c.update_entry.ensures.down
