use Rattle.std.proofs.Common.{sym, ◌∙◌}
use Rattle.std.specs.Prelude.{option_copied}
use Rattle.mini_cascade.proofs.Validity.{inherited_value-other, initial_valid}
use Rattle.mini_cascade.proofs.values.inherited_value.Goals as goal

pub returns-in_default-p : goal.returns-in_default-p
returns-in_default-p c = record {
  value =
      c.initial_value-in_default-p.ensures
      ∙ sym (inherited_value-other (option_copied c.args.parent) c.args.p c.in_default-p.not-Color c.in_default-p.not-FontSize c.in_default-p.not-LetterSpacing c.in_default-p.not-Visibility);
  valid = rw c.initial_value-in_default-p.ensures (initial_valid c.args.p);
}
