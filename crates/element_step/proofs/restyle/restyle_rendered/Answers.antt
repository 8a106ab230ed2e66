use Rattle.std.proofs.Common.{◌≡◌, ◌∙◌, ap, sym}
use Rattle.std.specs.Prelude.{◌==◌, ◌&&◌, length, option_copied, true}
use Rattle.std.specs.List.{list_all}
use Rattle.computed_style.specs.Styles.{ComputedStyle}
use Rattle.change_styles.specs.Inheritance.{handed_down}
use Rattle.change_styles.specs.ThreeStyles.{after_change_style, before_change_style, current_style}
use Rattle.transition_update.specs.Updates.{StyleChange, style_change}
use Rattle.element_step.proofs.Rendered.{after_rendered, cancelled_rendered, handed_after_rendered, now_rendered, settled_is, told_is, transitions_rendered}
use Rattle.element_step.proofs.restyle.restyle_rendered.Goals as goal
use Rattle.element_step.specs.Settling.{has_ended, have_same_values}
use Rattle.element_step.specs.Updates.{after_parent, before_parent, cancelled_from, element_update, handed_after, handed_now, now_of, now_parent, transitions_from, transitions_of, unless_leaf}

pub returns : goal.returns
returns g c =
    let x = element_update c.args.entry.now c.args.declared.now (option_copied c.args.parent) (g.A.Sampling.animated_value c.args.old.now)
    (g.B.Sampling.animated_value c.args.new.now) c.args.animations.now c.args.root_size c.args.event in
    let is = c.requires.rendered in
    let changes = c.in_ok-changes.changes in
    let above_after = c.after_parent-above_after.ensures in
    let change_to : ComputedStyle → StyleChange = λ after. style_change (before_change_style x.entry x.old x.event.time.0 (before_parent x.parent)) after x.event in
    let after_is : c.in_ok-after.after ≡ after_change_style x.declared x.old (after_parent x.parent) =
    c.in_ok-after.ensures ∙ ap (after_change_style x.declared x.old) above_after in
    let transitions_is : changes.transitions ≡ transitions_of x =
    c.in_ok-changes.ensures.transitions ∙ ap (λ a. transitions_from x.entry.rendered (change_to a) x.entry.effects.transitions) after_is
    ∙ sym (transitions_rendered x is) in
    let now = c.in_ok-current.current.now in
    let now_is : now ≡ now_of x =
    c.in_ok-current.ensures.now
    ∙ ap (λ l. current_style x.declared x.new l x.event.time.0 (now_parent x.parent)) (c.running-running.ensures.value ∙ ap (λ ts. ts.running) transitions_is)
    ∙ sym (now_rendered x is) in
    let leaf = c.args.leaf in
    let handed_now_is : option_copied c.as_ref.result ≡ unless_leaf leaf (handed_now x) =
    c.as_ref.ensures.value ∙ c.in_ok-current.ensures.handed ∙ ap (λ s. unless_leaf leaf (handed_down (now_parent x.parent) s)) now_is in
    let handed_after_is : option_copied c.as_ref-handed.result ≡ unless_leaf leaf (handed_after x) =
    c.as_ref-handed.ensures.value ∙ c.handed_unless_leaf-handed.ensures ∙ ap (λ p. unless_leaf leaf (handed_down p c.in_ok-after.after)) above_after
    ∙ ap (unless_leaf leaf) (ap (handed_down (after_parent x.parent)) after_is ∙ handed_after_rendered x is) in
    record {
      now = now_is;
      transitions = transitions_is;
      gone =
          c.in_ok-changes.ensures.gone ∙ ap (λ a. cancelled_from x.entry.rendered (change_to a) x.entry.effects.transitions) after_is
          ∙ sym (cancelled_rendered x is);
      settled =
          c.in_ok-current.ensures.settled
          ∙ ap (λ l. (length l == 0) && list_all (has_ended x.event.time.0) x.animations && have_same_values c.in_ok-after.after now)
          c.running-running.ensures.value
          ∙ settled_is x changes.transitions c.in_ok-after.after now transitions_is (after_is ∙ sym (after_rendered x is)) now_is;
      down =
          c.hand_down_told-down.ensures
          ∙ told_is leaf x changes.before (option_copied c.as_ref-handed.result) (option_copied c.as_ref.result) true c.in_ok-changes.ensures.before handed_after_is
          handed_now_is (sym is);
    }
