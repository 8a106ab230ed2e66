use Rattle.std.proofs.Common.{◌≡◌, ◌∙◌, ap, refl, sym, map}
use Rattle.doc_tree.specs.Change.{each_once, with_classes}
use Rattle.doc_tree.specs.Fault.{fault_of_classes}
use Rattle.script_text.specs.declared.command.Command.TheVariants.{Class}
use Rattle.restyle.proofs.WorldEdits.{accepted_as, changed}
use Rattle.restyle.proofs.edit.set_classes.Goals as goal

pub returns-in-Ok-set_class-clause-answer : goal.returns-in-Ok-set_class-clause-answer
returns-in-Ok-set_class-clause-answer c =
    let names : map (λ text. text.now) c.as_slice.result.now ≡ c.args.names.now = ap (map (λ text. text.now)) c.as_slice.ensures.value ∙ c.in-Ok.ensures in
    (changed c.worlds_stay_distinct.ensures.edit c.args.state.now c.touch.new.state c.set_class.new.self (Class c.args.node c.args.names.now) c.args.node (λ e. record e { classes = each_once c.args.names.now }) c.requires.kept
    c.len.ensures.tree (λ e. refl) (λ e. refl) (accepted_as (ap (fault_of_classes c.args.state.now.tree.elements c.args.node) (sym names)) c.in-Ok-set_class.ensures.fault)
    (c.in-Ok-set_class.ensures.ok ∙ ap (with_classes c.args.state.now.tree c.args.node) names) refl c.touch.ensures).0

pub returns-in-Ok-set_class-clause-kept : goal.returns-in-Ok-set_class-clause-kept
returns-in-Ok-set_class-clause-kept c =
    let names : map (λ text. text.now) c.as_slice.result.now ≡ c.args.names.now = ap (map (λ text. text.now)) c.as_slice.ensures.value ∙ c.in-Ok.ensures in
    (changed c.worlds_stay_distinct.ensures.edit c.args.state.now c.touch.new.state c.set_class.new.self (Class c.args.node c.args.names.now) c.args.node (λ e. record e { classes = each_once c.args.names.now }) c.requires.kept
    c.len.ensures.tree (λ e. refl) (λ e. refl) (accepted_as (ap (fault_of_classes c.args.state.now.tree.elements c.args.node) (sym names)) c.in-Ok-set_class.ensures.fault)
    (c.in-Ok-set_class.ensures.ok ∙ ap (with_classes c.args.state.now.tree c.args.node) names) refl c.touch.ensures).1
