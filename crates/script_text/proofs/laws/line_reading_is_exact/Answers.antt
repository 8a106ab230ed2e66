use Rattle.script_text.proofs.CommandLemmas.{command_is, command_told, refused_is, refused_told}
use Rattle.script_text.proofs.laws.line_reading_is_exact.Goals as goal

pub returns : goal.returns
returns c = record {
  command = λ line command. (command_is line command, command_told line command);
  refused = λ line r. (refused_is line r, refused_told line r);
}
