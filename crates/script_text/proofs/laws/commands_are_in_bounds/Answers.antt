use Rattle.std.proofs.Common.{length, subst, sym}
use Rattle.script_text.specs.declared.command.Command.{Command}
use Rattle.script_text.specs.Commands.{AreInBounds, IsNoLongerThan}
use Rattle.script_text.proofs.BoundLemmas.{numbers_kept}
use Rattle.script_text.proofs.LineLemmas.{text_within}
use Rattle.script_text.proofs.laws.commands_are_in_bounds.Goals as goal

pub returns : goal.returns
returns c = record {
  numbers = λ line k h. subst (λ (x : Command). AreInBounds x) (sym h.3) (numbers_kept h.0 h.2);
  text = λ line k h. subst (λ (x : Command). IsNoLongerThan (length line) x) (sym h.3) (text_within line h.0 h.1);
}
