use Rattle.fix_num.proofs.PrintedLemmas.{printed_stands}
use Rattle.fix_num.proofs.ReadingLemmas.{number_from}
use Rattle.fix_num.specs.Print.{decimal_text}
use Rattle.fix_num.proofs.laws.printed_reads_back.Goals as goal

pub returns : goal.returns
returns c = λ places limit v within small. number_from places limit (decimal_text places v) v (printed_stands places v small, within)
