use Rattle.std.proofs.Common.{◌≡◌, ℕ, List, [], ◌∷◌, ◌++◌, ap, refl, sym, inl, inr}
use Rattle.std.specs.Prelude.{Ok}
use Rattle.std.proofs.lemmas.List.{append-nil}
use Rattle.script_text.specs.declared.command.Command.TheVariants.{Blank}
use Rattle.script_text.specs.Reading.{command_of, judged_statement}
use Rattle.script_text.specs.Statements.{IsBlank, IsStatement, Statement, Nothing}
use Rattle.script_text.specs.Commands.{command_from}
use Rattle.script_text.proofs.CommandLemmas.{command_told}
use Rattle.script_text.proofs.CompleteLemmas.{statement_is}
use Rattle.script_text.proofs.LineLemmas.{nothing_said}
use Rattle.script_text.proofs.laws.blank_lines_do_nothing.Goals as goal

blank_is_read : (line : List ℕ) → IsBlank line → command_of line ≡ Ok Blank
blank_is_read line h = ap judged_statement (statement_is line Nothing (inl (h, refl)))

blank_of_statement : (line : List ℕ) (s : Statement) → IsStatement line s → Blank ≡ command_from s → IsBlank line
blank_of_statement line s (inl h) e = h.0
blank_of_statement line s (inr h) e = absurd (nothing_said h.1.0 h.1.1 s h.1.3 e)

pub returns : goal.returns
returns c = record {
  blank = λ line. (blank_is_read line, λ e. let told = command_told line Blank e in blank_of_statement line told.0 told.1 told.3);
  comment = λ front comment f. blank_is_read (front ++ 35 ∷ comment) (front, 35 ∷ comment, f, refl, inr (comment, refl));
  spaces = λ line f. blank_is_read line (line, [], f, sym (append-nil line), inl refl);
}
