use Rattle.command_words.proofs.Readings.{one-saying}
use Rattle.command_words.proofs.laws.words_say_one_thing.Goals as goal

pub returns : goal.returns
returns c = one-saying
