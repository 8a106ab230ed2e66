use Rattle.std.proofs.Common.{◌∙◌, [], ◌∷◌, ◌++◌, ap, refl, sym}
use Rattle.script_text.proofs.NameLemmas.{kept_fault, kept_more}
use Rattle.script_text.proofs.WordLemmas.{some_bytes}
use Rattle.script_text.proofs.reading.names.Goals as goal

pub returns-then-not-is_script_name : goal.returns-then-not-is_script_name
returns-then-not-is_script_name c =
    let some = some_bytes c.words.rest.now (sym c.is_empty.ensures ∙ c.words-test.true) in (
      kept_fault c.args.text.now c.words.rest.now c.split_word.result.0.now c.words.names.items c.words.invariant some c.split_word.ensures.word
          (sym c.is_script_name.ensures ∙ c.if-not-is_script_name.true),
      refl,
    )

pub words-preserved : goal.words-preserved
words-preserved c =
    let some = some_bytes c.words.rest.now (sym c.is_empty.ensures ∙ c.words-test.true) in
    kept_more c.args.text.now c.words.rest.now c.split_word.result.0.now c.split_word.result.1.now c.words.names.items c.push.new.self.items c.words.invariant some
    c.split_word.ensures.word c.split_word.ensures.after c.split_word.ensures.solid (sym c.is_script_name.ensures ∙ c.if-not-is_script_name.false)
    (c.in-Ok.ensures.items ∙ ap (λ word. c.words.names.items ++ word ∷ []) c.in_ok-name.ensures)
