use Rattle.std.proofs.Common.{◌∙◌, ap, sym}
use Rattle.std.specs.Prelude.{Bool, None, if◌then◌else◌, option_copied}
use Rattle.change_styles.specs.Inheritance.{handed_down}
use Rattle.change_styles.specs.ThreeStyles.{before_change_style}
use Rattle.element_step.proofs.Unchanged.{all_left, handed_on, none_gone}
use Rattle.element_step.proofs.restyle.change_transitions.Goals as goal
use Rattle.element_step.specs.Updates.{before_parent, unless_leaf}

pub returns-then-is_unchanged-clause-transitions : goal.returns-then-is_unchanged-clause-transitions
returns-then-is_unchanged-clause-transitions g c =
    c.in_ok-copy_transitions.ensures
    ∙ all_left c.args.entry.now c.args.declared.now (g.A.Sampling.animated_value c.args.old.now) (option_copied c.args.parent) c.args.after.now c.args.event
    (sym c.rendered.ensures ∙ c.if-not-rendered.false) c.if-is_unchanged.ensures c.if-run_on.ensures c.requires.after

pub returns-then-is_unchanged-clause-gone : goal.returns-then-is_unchanged-clause-gone
returns-then-is_unchanged-clause-gone g c =
    c.new-then-is_unchanged.ensures.items
    ∙ none_gone c.args.entry.now c.args.declared.now (g.A.Sampling.animated_value c.args.old.now) (option_copied c.args.parent) c.args.after.now c.args.event
    (sym c.rendered.ensures ∙ c.if-not-rendered.false) c.if-is_unchanged.ensures c.if-run_on.ensures c.requires.after

pub returns-then-is_unchanged-clause-before : goal.returns-then-is_unchanged-clause-before
returns-then-is_unchanged-clause-before g c =
    let old = g.A.Sampling.animated_value c.args.old.now in
    let parent = option_copied c.args.parent in
    let t = c.args.event.time.0 in
    let leaf = c.args.leaf in
    c.copied.ensures ∙ c.requires.handed
    ∙ ap (unless_leaf leaf) (handed_on c.args.entry.now c.args.declared.now old t parent c.args.after.now c.if-is_unchanged.ensures c.if-run_on.ensures c.requires.after)
    ∙ ap (λ (b : Bool). if b then unless_leaf leaf (handed_down (before_parent parent) (before_change_style c.args.entry.now old t (before_parent parent))) else None)
    (sym (sym c.rendered.ensures ∙ c.if-not-rendered.false))
