use Rattle.std.proofs.Common.{refl}
use Rattle.script_text.specs.declared.command.Command.TheVariants.{Style}
use Rattle.restyle.proofs.WorldEdits.{changed}
use Rattle.restyle.proofs.edit.set_style.Goals as goal

pub returns-in-Ok-clause-answer : goal.returns-in-Ok-clause-answer
returns-in-Ok-clause-answer c =
    (changed c.worlds_stay_distinct.ensures.edit c.args.state.now c.touch.new.state c.set_style.new.self (Style c.args.node c.args.text.now) c.args.node (λ e. record e { style = c.args.text.now }) c.requires.kept c.len.ensures.tree
    (λ e. refl) (λ e. refl) c.in_default.ensures.ok c.in-Ok.ensures.ok refl c.touch.ensures).0

pub returns-in-Ok-clause-kept : goal.returns-in-Ok-clause-kept
returns-in-Ok-clause-kept c =
    (changed c.worlds_stay_distinct.ensures.edit c.args.state.now c.touch.new.state c.set_style.new.self (Style c.args.node c.args.text.now) c.args.node (λ e. record e { style = c.args.text.now }) c.requires.kept c.len.ensures.tree
    (λ e. refl) (λ e. refl) c.in_default.ensures.ok c.in-Ok.ensures.ok refl c.touch.ensures).1
