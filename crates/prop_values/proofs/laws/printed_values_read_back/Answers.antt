use Rattle.prop_values.proofs.PrintedLemmas.{printed_back, read_without_sum}
use Rattle.prop_values.proofs.laws.printed_values_read_back.Goals as goal

pub returns : goal.returns
returns c = record { same = printed_back; only = read_without_sum }
