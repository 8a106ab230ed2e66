use Rattle.std.proofs.Common.{◌∙◌, ℕ, List, ap, subst, sym}
use Rattle.std.specs.Str.{IsUtf8}
use Rattle.std.proofs.lemmas.Str.{IsUtf8-from_is_utf8}
use Rattle.script_text.specs.Words.{after_word}
use Rattle.script_text.proofs.TextLemmas.{rest_is_utf8}
use Rattle.script_text.proofs.reading.read_command.Goals as goal

pub read_words-requires-clause-utf8 : goal.read_words-requires-clause-utf8
read_words-requires-clause-utf8 c =
    let P : List ℕ → Type 0 = λ bytes. IsUtf8 bytes in
    subst P (sym (c.split_word-2.ensures.after ∙ ap after_word (c.split_word.ensures.after ∙ ap after_word c.trimmed-body.ensures)))
    (rest_is_utf8 c.args.line.now (IsUtf8-from_is_utf8 c.args.line.now (sym c.is_utf8.ensures ∙ c.if-not-is_utf8.false)))
