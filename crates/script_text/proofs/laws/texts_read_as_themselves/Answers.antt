use Rattle.std.proofs.Common.{[], ◌∷◌, refl, inr}
use Rattle.std.specs.Prelude.{codes}
use Rattle.script_text.specs.declared.command.Command.TheVariants as command
use Rattle.script_text.specs.Statements.{Style, Sheet}
use Rattle.script_text.proofs.CommandLemmas.{command_is}
use Rattle.script_text.proofs.FormLemmas.{name_is_utf8}
use Rattle.script_text.proofs.LineLemmas.{line_of_texts, numeral_is_utf8}
use Rattle.script_text.proofs.laws.texts_read_as_themselves.Goals as goal

pub returns : goal.returns
returns c = record {
  style = λ line number text n h digits bound u.
      let utf8 = line_of_texts line (codes "style" ∷ number ∷ []) text h (name_is_utf8 (codes "style") refl, (numeral_is_utf8 number digits.digits, tt)) u in
      command_is line (command.Style n text) (Style n text, inr (utf8, (codes "style" ∷ number ∷ [], text, h, (number, refl, refl, digits))), bound, refl);
  sheet = λ line number text k h digits bound u.
      let utf8 = line_of_texts line (codes "sheet" ∷ number ∷ []) text h (name_is_utf8 (codes "sheet") refl, (numeral_is_utf8 number digits.digits, tt)) u in
      command_is line (command.Sheet k text) (Sheet k text, inr (utf8, (codes "sheet" ∷ number ∷ [], text, h, (number, refl, refl, digits))), bound, refl);
}
