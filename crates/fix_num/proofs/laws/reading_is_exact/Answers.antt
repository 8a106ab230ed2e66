use Rattle.fix_num.proofs.ReadingLemmas.{number_from, number_told, syntax_from, syntax_told, too_fine_from, too_fine_told, too_large_from, too_large_told}
use Rattle.fix_num.proofs.laws.reading_is_exact.Goals as goal

pub returns-clause-number : goal.returns-clause-number
returns-clause-number c = λ places limit text v. (number_told places limit text v, number_from places limit text v)

pub returns-clause-syntax : goal.returns-clause-syntax
returns-clause-syntax c = λ places limit text. (syntax_told places limit text, syntax_from places limit text)

pub returns-clause-too_fine : goal.returns-clause-too_fine
returns-clause-too_fine c = λ places limit text. (too_fine_told places limit text, too_fine_from places limit text)

pub returns-clause-too_large : goal.returns-clause-too_large
returns-clause-too_large c = λ places limit text. (too_large_told places limit text, too_large_from places limit text)
