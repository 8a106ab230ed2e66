use Rattle.std.proofs.Common.{ℕ, ◌≤◌, arith, subst, sym, length}
use Rattle.script_text.specs.Commands.{IsCommand, IsNoLongerThan}
use Rattle.script_text.specs.declared.command.Command.{Command}
use Rattle.script_text.specs.declared.command.Command.TheVariants.{Blank, Add, Insert, Remove, Id, Class, Style, Sheet, At, Frame, Get, List as Listing}
use Rattle.script_text.proofs.CommandLemmas.{command_told}
use Rattle.script_text.proofs.LineLemmas.{text_within}
use Rattle.tests_world.proofs.workers.command_of.Goals as goal

no_longer : (m n : ℕ) (c : Command) → m ≤ n → IsNoLongerThan m c → IsNoLongerThan n c
no_longer m n (Style k text) h short = omega (arith, h, short)
no_longer m n (Sheet k text) h short = omega (arith, h, short)
no_longer m n Blank h short = tt
no_longer m n (Add k parent tag) h short = tt
no_longer m n (Insert k sibling tag) h short = tt
no_longer m n (Remove k) h short = tt
no_longer m n (Id k name) h short = tt
no_longer m n (Class k names) h short = tt
no_longer m n (At t) h short = tt
no_longer m n Frame h short = tt
no_longer m n (Get k p) h short = tt
no_longer m n (Listing k) h short = tt

pub returns-in-Ok-clause-text : goal.returns-in-Ok-clause-text
returns-in-Ok-clause-text c =
    let line = c.as_bytes.result.now in
    let is : IsCommand line c.in-Ok.command = command_told line c.in-Ok.command c.in-Ok.ensures in
    no_longer (length line) _ c.in-Ok.command (omega (arith, c.as_bytes.ensures.len, c.if-line-gt-MAX_STYLE_BYTES.false))
    (subst (λ (x : Command). IsNoLongerThan (length line) x) (sym is.3) (text_within line is.0 is.1))
