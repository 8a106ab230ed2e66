use Rattle.sheet_rules.proofs.AlikeRules as alike
use Rattle.sheet_rules.proofs.laws.white_space_counts_once.Goals as goal

pub returns : goal.returns
returns c = record {
  sheet = λ text other ts us sheet a h. alike.rules_alike text other h us a;
  block = λ block text other ts us ds rest a h. alike.block_alike text other h us a;
}
