use Rattle.std.proofs.Common.{◌∙◌, ap, Bool}
use Rattle.element_step.specs.Updates.{changed_from, down_with}
use Rattle.element_step.proofs.downs.hand_down.Goals as goal

pub returns : goal.returns
unfolding down_with
returns c =
    ap (λ (v : Bool). record { before = c.args.before; after = c.args.after; now = c.args.now; rendered = c.args.rendered; changed = v })
    (c.is_changed.ensures ∙ ap (λ b. changed_from c.args.entry.now c.args.root_size b c.args.after c.args.now c.args.rendered) c.as_ref.ensures.value)
