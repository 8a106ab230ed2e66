use Rattle.std.proofs.Common.{◌≡◌, ◌∙◌, ap, sym}
use Rattle.std.specs.Prelude.{[], false, option_copied}
use Rattle.change_styles.specs.Inheritance.{handed_down}
use Rattle.change_styles.specs.ThreeStyles.{current_style, no_animations}
use Rattle.element_step.proofs.Rendered.{cancelled_unrendered, handed_after_unrendered, now_unrendered, settled_unrendered, told_is, transitions_unrendered}
use Rattle.element_step.proofs.restyle.restyle_unrendered.Goals as goal
use Rattle.element_step.specs.Updates.{element_update, handed_now, now_of, now_parent, unless_leaf}

pub returns : goal.returns
returns g c =
    let x = element_update c.args.entry.now c.args.declared.now (option_copied c.args.parent) (g.A.Sampling.animated_value c.args.old.now)
    (g.B.Sampling.animated_value c.args.new.now) c.args.animations.now c.args.root_size c.args.event in
    let isnt = c.requires.rendered in
    let above = c.now_parent-above.ensures in
    let leaf = c.args.leaf in
    let handed = option_copied c.as_ref-handed.result in
    let now_is : c.in_ok-now.now ≡ now_of x =
    c.in_ok-now.ensures ∙ ap (current_style x.declared no_animations [] x.event.time.0) above ∙ sym (now_unrendered x isnt) in
    let handed_is : handed ≡ unless_leaf leaf (handed_now x) =
    c.as_ref-handed.ensures.value ∙ c.handed_unless_leaf-handed.ensures
    ∙ ap (unless_leaf leaf) (ap (λ p. handed_down p c.in_ok-now.now) above ∙ ap (handed_down (now_parent x.parent)) now_is) in
    record {
      now = now_is;
      transitions = c.new.ensures ∙ sym (transitions_unrendered x isnt);
      gone = c.in_ok-gone.ensures ∙ sym (cancelled_unrendered x isnt);
      settled = c.have_ended.ensures ∙ settled_unrendered x isnt;
      down =
          c.hand_down_told-down.ensures
          ∙ told_is leaf x c.in_ok-before.before handed handed false c.in_ok-before.ensures
          (handed_is ∙ ap (unless_leaf leaf) (handed_after_unrendered x isnt)) handed_is (sym isnt);
    }
