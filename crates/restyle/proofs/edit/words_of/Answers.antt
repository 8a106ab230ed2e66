use Rattle.std.proofs.Common.{◌∙◌, ap, sym, arith, take, map, [], ◌∷◌, ◌++◌}
use Rattle.std.proofs.lemmas.List.{map-append, take_all, take_more}
use Rattle.restyle.proofs.edit.words_of.Goals as goal

pub loop-name-preserved : goal.loop-name-preserved
loop-name-preserved c =
    ap (map (λ word. word.now)) c.in_ok-push.ensures.items ∙ map-append (λ word. word.now) c.loop-name.words.items (c.as_str.result ∷ [])
    ∙ ap (λ texts. texts ++ c.as_str.result.now ∷ []) c.loop-name.invariant
    ∙ ap (λ text. take c.loop-name.name-index c.args.names.now ++ text ∷ []) (c.as_str.ensures.value ∙ c.name-item.is)
    ∙ sym (take_more c.args.names.now c.loop-name.name-index c.name-item.result c.loop-name-test.true)

pub returns : goal.returns
returns c = c.loop-name.invariant ∙ take_all c.loop-name.name-index c.args.names.now (omega (arith, c.loop-name-test.false))
