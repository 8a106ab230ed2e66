use Rattle.std.proofs.Common.{ap, ◌∙◌}
use Rattle.shorthand_text.proofs.NameLemmas.{first_known, known_by, known_by_lowercase, known_has_name}
use Rattle.shorthand_text.proofs.laws.known_names_read_back.Goals as goal

pub returns : goal.returns
returns c = λ text n. (known_has_name text n, λ is. known_by_lowercase text ∙ ap known_by is ∙ first_known n)
