use Rattle.std.proofs.Common.{◌≡◌, ◌∙◌, ap, subst, sym}
use Rattle.std.specs.Prelude.{None, option_copied}
use Rattle.value_types.specs.declared.property.PropertyId.TheVariants.{FontSize}
use Rattle.computed_style.specs.ByProperty.{kept_for}
use Rattle.computed_style.specs.Styles.{ComputedStyle, style_with}
use Rattle.change_styles.proofs.OnTop.{before-on_top}
use Rattle.change_styles.specs.Inheritance.{handed_down}
use Rattle.change_styles.specs.ThreeStyles.{before_change_style, transitioned_at}
use Rattle.transition_update.specs.Idle.{AreOthersSame}
use Rattle.element_step.proofs.Unchanged.{handed_alike, others_same}
use Rattle.element_step.proofs.restyle.before_change.Goals as goal
use Rattle.element_step.specs.Updates.{after_parent, before_parent, unless_leaf}

pub returns-then-keep_font_size : goal.returns-then-keep_font_size
returns-then-keep_font_size g c =
    let old = g.A.Sampling.animated_value c.args.old.now in
    let ts = c.args.entry.now.effects.transitions in
    let above = after_parent (option_copied c.args.parent) in
    let unchanged = c.if-is_unchanged.ensures in
    let keeps : kept_for FontSize ts.running ≡ None = ap (kept_for FontSize) (sym c.running.ensures.value) ∙ c.if-keep_font_size.ensures in
    let on_top : c.in_ok-style.style ≡ style_with c.args.after.now (transitioned_at ts.running c.args.t.0) =
    c.in_ok-style.ensures ∙ ap (λ rs. style_with c.args.after.now (transitioned_at rs c.args.t.0)) c.running-then-keep_font_size.ensures.value in
    let before_is : c.in_ok-style.style ≡ before_change_style c.args.entry.now old c.args.t.0 (before_parent (option_copied c.args.parent)) =
    on_top ∙ ap (λ (s : ComputedStyle). style_with s (transitioned_at ts.running c.args.t.0)) c.requires.after
    ∙ before-on_top c.args.entry.now c.args.declared.now old c.args.t.0 (before_parent (option_copied c.args.parent)) above unchanged.declared
    unchanged.inherited keeps in
    record {
      style = before_is;
      others = λ is.
          subst (λ (s : ComputedStyle). AreOthersSame s c.args.after.now ts) (sym on_top)
          (others_same c.args.declared.now old above c.args.after.now ts c.args.t.0 c.requires.after);
      handed =
          c.handed_alike-handed.ensures
          ∙ ap (unless_leaf c.args.leaf)
          (ap (λ i. handed_down i c.in_ok-style.style) c.before_parent-above.ensures ∙ ap (handed_down (before_parent (option_copied c.args.parent))) before_is);
    }

pub handed_alike-handed-requires : goal.handed_alike-handed-requires
handed_alike-handed-requires g c = λ none.
    c.requires.handed
    ∙ ap (unless_leaf c.args.leaf)
    (handed_alike c.args.declared.now (g.A.Sampling.animated_value c.args.old.now) (after_parent (option_copied c.args.parent)) c.args.after.now
    c.in_ok-style.style c.running-then-keep_font_size-2.result.now c.args.t.0 c.requires.after
    (c.in_ok-style.ensures
    ∙ ap (λ rs. style_with c.args.after.now (transitioned_at rs c.args.t.0)) (c.running-then-keep_font_size.ensures.value ∙ sym c.running-then-keep_font_size-2.ensures.value))
    none (option_copied c.before_parent-above.result) (c.before_parent-above.ensures ∙ c.if-is_unchanged.ensures.inherited))
