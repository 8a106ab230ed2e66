use Rattle.fix_num.proofs.RoundedReadingLemmas.{far_from, far_told, near_from, near_told, never_fine, none_from, none_told}
use Rattle.fix_num.proofs.laws.rounded_reading_is_exact.Goals as goal

pub returns-clause-number : goal.returns-clause-number
returns-clause-number c = λ places limit text v. (near_told places limit text v, near_from places limit text v)

pub returns-clause-syntax : goal.returns-clause-syntax
returns-clause-syntax c = λ places limit text. (none_told places limit text, none_from places limit text)

pub returns-clause-too_large : goal.returns-clause-too_large
returns-clause-too_large c = λ places limit text. (far_told places limit text, far_from places limit text)

pub returns-clause-never_too_fine : goal.returns-clause-never_too_fine
returns-clause-never_too_fine c = never_fine
