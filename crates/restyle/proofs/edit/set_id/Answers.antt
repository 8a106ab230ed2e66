use Rattle.std.proofs.Common.{◌∙◌, ap, refl}
use Rattle.std.specs.Prelude.{option_copied}
use Rattle.doc_tree.specs.Change.{with_id}
use Rattle.script_text.specs.declared.command.Command.TheVariants.{Id}
use Rattle.restyle.proofs.WorldEdits.{accepted_removal, changed}
use Rattle.restyle.proofs.edit.set_id.Goals as goal

pub returns-in-Ok-clause-answer : goal.returns-in-Ok-clause-answer
returns-in-Ok-clause-answer c =
    (changed c.worlds_stay_distinct.ensures.edit c.args.state.now c.touch.new.state c.set_id.new.self (Id c.args.node (option_copied c.args.name)) c.args.node (λ e. record e { id = option_copied c.args.name }) c.requires.kept
    c.len.ensures.tree (λ e. refl) (λ e. refl) (accepted_removal c.args.state.now.tree c.args.node _ c.in-Ok.ensures.fault) (c.in-Ok.ensures.ok ∙ ap (with_id c.args.state.now.tree c.args.node) c.id_text.ensures) refl c.touch.ensures).0

pub returns-in-Ok-clause-kept : goal.returns-in-Ok-clause-kept
returns-in-Ok-clause-kept c =
    (changed c.worlds_stay_distinct.ensures.edit c.args.state.now c.touch.new.state c.set_id.new.self (Id c.args.node (option_copied c.args.name)) c.args.node (λ e. record e { id = option_copied c.args.name }) c.requires.kept
    c.len.ensures.tree (λ e. refl) (λ e. refl) (accepted_removal c.args.state.now.tree c.args.node _ c.in-Ok.ensures.fault) (c.in-Ok.ensures.ok ∙ ap (with_id c.args.state.now.tree c.args.node) c.id_text.ensures) refl c.touch.ensures).1
