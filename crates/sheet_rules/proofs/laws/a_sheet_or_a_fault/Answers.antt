use Rattle.sheet_rules.proofs.SheetReadings.{a_sheet_or_fault, faulty_sheet_is_read, sheet_is_read}
use Rattle.sheet_rules.proofs.laws.a_sheet_or_a_fault.Goals as goal

pub returns-clause-either : goal.returns-clause-either
returns-clause-either c = a_sheet_or_fault

pub returns-clause-never_both : goal.returns-clause-never_both
returns-clause-never_both c = λ text sheet fault is faulty. let e = sheet_is_read text sheet is in let f = faulty_sheet_is_read text fault faulty in cc

pub returns-clause-one_sheet : goal.returns-clause-one_sheet
returns-clause-one_sheet c = λ text sheet other is others. let e = sheet_is_read text sheet is in let f = sheet_is_read text other others in cc

pub returns-clause-one_fault : goal.returns-clause-one_fault
returns-clause-one_fault c = λ text fault other is others. let e = faulty_sheet_is_read text fault is in let f = faulty_sheet_is_read text other others in cc
