use Rattle.css_token.proofs.Reading.{parts_of}
use Rattle.css_token.proofs.laws.dimension_parts.Goals as goal

pub returns : goal.returns
returns c = parts_of
