use Rattle.value_text.specs.Reading.{declared_reading}
use Rattle.value_text.proofs.ValueLemmas.{answer_is, reading_is}
use Rattle.value_text.proofs.laws.reading_is_exact.Goals as goal

pub returns : goal.returns
returns c = λ p parts. answer_is p parts (declared_reading p parts) (reading_is p parts)
