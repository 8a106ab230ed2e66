use Rattle.std.proofs.Common.{List, ℕ, ap, subst, sym, ◌∙◌}
use Rattle.css_token.specs.Productions.{IsIdentifier}
use Rattle.css_token.specs.TokenLists.{LiesWithin, bytes_of}
use Rattle.sheet_rules.proofs.Within.{Lie, lie_solid, lone_word_is}
use Rattle.sheet_rules.proofs.keyframes.name_in.Goals as goal

pub bytes_of-requires : goal.bytes_of-requires
bytes_of-requires c =
    let lie = subst (Lie c.args.text.now) (sym (c.as_slice.ensures.value ∙ c.in-Ok.ensures)) (lie_solid c.args.text.now c.args.tokens.now c.requires) in
    let word = lone_word_is c.args.text.now c.as_slice.result.now c.in-Some.word (sym c.lone_word.ensures ∙ c.in-Some.is) lie in
    subst (λ (text : List ℕ). LiesWithin text c.in-Some.word) (sym c.as_bytes.ensures.value) word.0.within

pub from_bytes-requires : goal.from_bytes-requires
from_bytes-requires c =
    let lie = subst (Lie c.args.text.now) (sym (c.as_slice.ensures.value ∙ c.in-Ok.ensures)) (lie_solid c.args.text.now c.args.tokens.now c.requires) in
    let word = lone_word_is c.args.text.now c.as_slice.result.now c.in-Some.word (sym c.lone_word.ensures ∙ c.in-Some.is) lie in
    subst IsIdentifier (sym (c.bytes_of.ensures ∙ ap (λ text. bytes_of text c.in-Some.word) c.as_bytes.ensures.value)) word.1
