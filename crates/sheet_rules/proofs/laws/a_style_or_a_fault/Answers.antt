use Rattle.sheet_rules.proofs.StyleReadings.{a_style_or_fault, faulty_style_is_read, style_is_read}
use Rattle.sheet_rules.proofs.laws.a_style_or_a_fault.Goals as goal

pub returns-clause-either : goal.returns-clause-either
returns-clause-either c = a_style_or_fault

pub returns-clause-never_both : goal.returns-clause-never_both
returns-clause-never_both c = λ text ds fault is faulty. let e = style_is_read text ds is in let f = faulty_style_is_read text fault faulty in cc

pub returns-clause-one_style : goal.returns-clause-one_style
returns-clause-one_style c = λ text ds others is other. let e = style_is_read text ds is in let f = style_is_read text others other in cc

pub returns-clause-one_fault : goal.returns-clause-one_fault
returns-clause-one_fault c = λ text fault other is others. let e = faulty_style_is_read text fault is in let f = faulty_style_is_read text other others in cc
