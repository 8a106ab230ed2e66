use Rattle.sheet_rules.proofs.StyleReadings.{faulty_style_is_read, read_faulty_style, read_style, style_is_read}
use Rattle.sheet_rules.proofs.laws.style_reading_is_exact.Goals as goal

pub returns-clause-style : goal.returns-clause-style
returns-clause-style c = λ text ds. (style_is_read text ds, read_style text ds)

pub returns-clause-fault : goal.returns-clause-fault
returns-clause-fault c = λ text fault. (faulty_style_is_read text fault, read_faulty_style text fault)
