use Rattle.std.proofs.Common.{◌≡◌, ◌∙◌, ap, sym}
use Rattle.std.specs.Prelude.{◌==◌, length, option_copied}
use Rattle.std.specs.List.{list_all}
use Rattle.computed_style.specs.Styles.{ComputedStyle, style_with}
use Rattle.change_styles.proofs.OnTop.{current-over_after}
use Rattle.change_styles.specs.ThreeStyles.{transitioned_at}
use Rattle.element_step.proofs.Unchanged.{handed_alike, settled_by}
use Rattle.element_step.proofs.Working.{empty_of}
use Rattle.element_step.proofs.restyle.current_of.Goals as goal
use Rattle.element_step.specs.Settling.{has_ended}
use Rattle.element_step.specs.Updates.{after_parent, now_parent, unless_leaf}

pub returns-then-keep_font_size-clause-now : goal.returns-then-keep_font_size-clause-now
returns-then-keep_font_size-clause-now g c =
    let inherits : now_parent (option_copied c.args.parent) ≡ after_parent (option_copied c.args.parent) =
    sym c.now_parent-above_now.ensures ∙ c.if-inherit_alike.ensures ∙ c.after_parent-above_after.ensures in
    c.in_ok-now.ensures
    ∙ ap (λ (s : ComputedStyle). style_with s (transitioned_at c.args.running.now c.args.t.0)) c.requires.after
    ∙ current-over_after c.args.declared.now (g.A.Sampling.animated_value c.args.old.now) (g.B.Sampling.animated_value c.args.new.now) c.args.running.now
    c.args.t.0 (now_parent (option_copied c.args.parent)) (after_parent (option_copied c.args.parent)) inherits c.if-gives_nothing.ensures
    c.if-gives_nothing-2.ensures c.if-keep_font_size.ensures

pub returns-then-keep_font_size-clause-settled : goal.returns-then-keep_font_size-clause-settled
returns-then-keep_font_size-clause-settled g c =
    c.have_all_ended.ensures
    ∙ settled_by c.args.running.now (list_all (has_ended c.args.t.0) c.args.animations.now) c.args.t.0 c.args.after.now c.in_ok-now.now
    (length c.args.running.now == 0) (empty_of c.args.running.now) c.in_ok-now.ensures

pub handed_alike-handed-requires : goal.handed_alike-handed-requires
handed_alike-handed-requires g c = λ none.
    c.requires.handed
    ∙ ap (unless_leaf c.args.leaf)
    (handed_alike c.args.declared.now (g.A.Sampling.animated_value c.args.old.now) (after_parent (option_copied c.args.parent)) c.args.after.now c.in_ok-now.now
    c.args.running.now c.args.t.0 c.requires.after c.in_ok-now.ensures none (option_copied c.now_parent-above_now.result)
    (c.if-inherit_alike.ensures ∙ c.after_parent-above_after.ensures))
