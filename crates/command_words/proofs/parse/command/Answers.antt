use Rattle.std.proofs.Common.{rules, ap, ap₂, codes, true, ◌≡◌, ◌∙◌}
use Rattle.std.proofs.lemmas.Result.{IfOk-weaker}
use Rattle.clap.specs.Words.{App, Shape, app_of, rule_of, with_rule}
use Rattle.clap.specs.declared.builder.command.Command.{Command}
use Rattle.clap.specs.declared.builder.command.Command.TheViews.{out-Command}
use Rattle.clap.specs.declared.builder.command.Command.TheOpen.{Command-F}
use Rattle.clap.specs.Simple.{app_of_fields, on_top}
use Rattle.command_words.specs.Parse.{app, bare, option_rule}
use Rattle.command_words.proofs.parse.command.Goals as goal

abbrev named : App → App
named = on_top (λ (s : Shape). record s { no_binary_name = true })

abbrev helpless : App → App
helpless = on_top (λ (s : Shape). record s { disable_help_flag = true })

named-app : (f g : Command-F Command) → g ≡ record f { no_binary_name = true } → app_of_fields g ≡ named (app_of_fields f)
named-app f g h = ap app_of_fields h

helpless-app : (f g : Command-F Command) → g ≡ record f { disable_help_flag = true } → app_of_fields g ≡ helpless (app_of_fields f)
helpless-app f g h = ap app_of_fields h

pub returns : goal.returns
unfolding app
returns c =
    let workers_is : rule_of c.long.result ≡ option_rule (codes "workers") = search rules in
    let demo_is : rule_of c.long-2.result ≡ option_rule (codes "demo") = search rules in
    let named_is : app_of c.no_binary_name.result ≡ named (app_of c.new.result) = named-app (out-Command c.new.result) (out-Command c.no_binary_name.result) c.no_binary_name.ensures in
    let helpless_is : app_of c.disable_help_flag.result ≡ helpless (app_of c.no_binary_name.result) = helpless-app (out-Command c.no_binary_name.result) (out-Command c.disable_help_flag.result) c.disable_help_flag.ensures in
    let bare_is : app_of c.disable_help_flag.result ≡ bare = helpless_is ∙ ap helpless (named_is ∙ ap named c.new.ensures.app) in
    let first_is : app_of c.in_ok-arg.field-0 ≡ with_rule bare (option_rule (codes "workers")) = c.in_ok-arg.ensures.shape (search rules) ∙ ap₂ with_rule bare_is workers_is in
    IfOk-weaker c.arg-2.result _ _ (λ r h. h.shape (search rules) ∙ ap₂ with_rule first_is demo_is) c.arg-2.ensures
