use Rattle.std.proofs.Common.{◌≡◌, ◌∙◌, sym}
use Rattle.std.specs.Prelude.{Ok, Err}
use Rattle.script_text.proofs.CommandLemmas.{command_is, either, refused_is}
use Rattle.script_text.proofs.laws.a_command_or_a_refusal.Goals as goal

pub returns : goal.returns
returns c = record {
  either = either;
  never_both = λ line command r h k. let no : Ok command ≡ Err r = sym (command_is line command h) ∙ refused_is line r k in cc;
  one_command = λ line command other h k. let same : Ok command ≡ Ok other = sym (command_is line command h) ∙ command_is line other k in cc;
  one_refusal = λ line r other h k. let same : Err r ≡ Err other = sym (refused_is line r h) ∙ refused_is line other k in cc;
}
