use Rattle.sheet_rules.proofs.SheetReadings.{faulty_sheet_is_read, read_is_faulty_sheet, read_is_sheet, sheet_is_read}
use Rattle.sheet_rules.proofs.laws.sheet_reading_is_exact.Goals as goal

pub returns-clause-sheet : goal.returns-clause-sheet
returns-clause-sheet c = λ text sheet. (sheet_is_read text sheet, read_is_sheet text sheet)

pub returns-clause-fault : goal.returns-clause-fault
returns-clause-fault c = λ text fault. (faulty_sheet_is_read text fault, read_is_faulty_sheet text fault)
