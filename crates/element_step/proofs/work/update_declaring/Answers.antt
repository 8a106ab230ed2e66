use Rattle.std.proofs.Common.{◌∙◌, ap}
use Rattle.pass_core.specs.Work.{asked}
use Rattle.pass_core.specs.declared.step.Step.TheVariants.{Updated}
use Rattle.element_step.specs.Updates.{unless_leaf}
use Rattle.element_step.specs.Works.{entry_with, from_parent, handed_with}
use Rattle.element_step.proofs.Working.{inside_is}
use Rattle.element_step.proofs.work.update_declaring.Goals as goal

pub returns : goal.returns
returns c =
    let w = c.args.work.now in
    let n = c.args.element in
    let entry = c.args.entry.now in
    let d = c.args.declared in
    let leaf = c.args.leaf in
    let parent_is = c.from_parent-parent.ensures in
    ap (λ e. Updated e c.in_ok-updated.updated.down) (c.in_ok-updated.ensures.entry ∙ ap (entry_with w n entry d) parent_is)
    ∙ ap (λ x. Updated (entry_with w n entry d (from_parent w n c.args.down.now)) x) (c.in_ok-updated.ensures.down ∙ ap (λ p. unless_leaf leaf (handed_with w n entry d p)) parent_is)
    ∙ ap (asked leaf) (inside_is w n entry d c.args.down.now c.requires)
