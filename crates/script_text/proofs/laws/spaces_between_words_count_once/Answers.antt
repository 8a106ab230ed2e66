use Rattle.std.proofs.Common.{ap}
use Rattle.script_text.specs.Reading.{judged_statement}
use Rattle.script_text.proofs.LineLemmas.{two_alike, words_alike}
use Rattle.script_text.proofs.laws.spaces_between_words_count_once.Goals as goal

pub returns : goal.returns
returns c = record {
  words = λ line other words text s h k u says. ap judged_statement (words_alike line other words text s h k u says);
  two_words = λ line other first second text h k. ap judged_statement (two_alike line other first second text h k);
}
