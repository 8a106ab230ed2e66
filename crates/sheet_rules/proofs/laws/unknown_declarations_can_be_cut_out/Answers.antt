use Rattle.sheet_rules.proofs.Unknown.{unknown_cut}
use Rattle.sheet_rules.proofs.laws.unknown_declarations_can_be_cut_out.Goals as goal

pub returns : goal.returns
returns c = λ block text place ts name after ds rest is_name unknown h. unknown_cut block text h name after is_name unknown
