-- What a command that was read keeps.
use Rattle.std.proofs.Common.{◌≡◌, ℕ, ◌≤◌, arith, subst, sym, List, length}
use Rattle.std.specs.Prelude.{Result, Ok, Err, IfOk}
use Rattle.script_text.specs.Commands.{AreInBounds, IsCommand, IsNoLongerThan}
use Rattle.script_text.specs.Reading.{AnswersReading, command_of}
use Rattle.script_text.specs.declared.command.Command.{Command}
use Rattle.script_text.specs.declared.command.Command.TheVariants.{Blank, Add, Insert, Remove, Id, Class, Style, Sheet, At, Frame, Get, List as Listing}
use Rattle.script_text.specs.declared.refusal.ReadCommandFault.{ReadCommandFault}
use Rattle.script_text.proofs.BoundLemmas.{numbers_kept}
use Rattle.script_text.proofs.CommandLemmas.{command_told}
use Rattle.script_text.proofs.LineLemmas.{text_within}

no_longer : (m n : ℕ) (c : Command) → m ≤ n → IsNoLongerThan m c → IsNoLongerThan n c
no_longer m n (Style k text) h short = omega (arith, h, short)
no_longer m n (Sheet k text) h short = omega (arith, h, short)
no_longer m n Blank h short = tt
no_longer m n (Add k parent tag) h short = tt
no_longer m n (Insert k sibling tag) h short = tt
no_longer m n (Remove k) h short = tt
no_longer m n (Id k name) h short = tt
no_longer m n (Class k names) h short = tt
no_longer m n (At t) h short = tt
no_longer m n Frame h short = tt
no_longer m n (Get k p) h short = tt
no_longer m n (Listing k) h short = tt

pub numbers_in_bounds : (line : List ℕ) (r : Result Command ReadCommandFault) → AnswersReading (command_of line) r → IfOk r AreInBounds
numbers_in_bounds line (Ok c) e =
    let is : IsCommand line c = command_told line c e in subst (λ (x : Command). AreInBounds x) (sym is.3) (numbers_kept is.0 is.2)
numbers_in_bounds line (Err fault) e = tt

pub text_in_bounds : (line : List ℕ) (most : ℕ) (r : Result Command ReadCommandFault) → length line ≤ most → AnswersReading (command_of line) r → IfOk r (IsNoLongerThan most)
text_in_bounds line most (Ok c) short e =
    let is : IsCommand line c = command_told line c e in
    no_longer (length line) most c short (subst (λ (x : Command). IsNoLongerThan (length line) x) (sym is.3) (text_within line is.0 is.1))
text_in_bounds line most (Err fault) short e = tt
