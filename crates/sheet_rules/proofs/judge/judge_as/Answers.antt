use Rattle.std.proofs.Common.{List, ℕ, ap, subst, sym, ◌∙◌}
use Rattle.sheet_rules.specs.Declarations.{ends_important, read_as, solid, unmarked}
use Rattle.sheet_rules.specs.Faults.{GivesMore}
use Rattle.sheet_rules.proofs.MarkLemmas.{read_is_judged}
use Rattle.sheet_rules.proofs.judge.judge_as.Goals as goal

pub returns-in-Property : goal.returns-in-Property
returns-in-Property c =
    let i = c.importance-important in
    let judged = read_is_judged c.args.block c.args.place c.args.at c.args.text.now c.args.tokens.now i.result.1.now c.args.name i.result.0
    (i.ensures.important ∙ ap (λ (text : List ℕ). ends_important text (solid c.args.tokens.now)) c.as_bytes.ensures.value)
    (i.ensures.value ∙ ap (λ (text : List ℕ). unmarked text (solid c.args.tokens.now)) c.as_bytes.ensures.value)
    (sym c.is_dropped.ensures ∙ c.if-is_dropped.false) in
    subst (GivesMore c.args.found.now.items c.read_property.new.found.items c.read_property.result)
    (ap (read_as c.args.place c.args.at i.result.0 c.args.text.now i.result.1.now) (sym c.in-Property.is) ∙ judged) c.read_property.ensures

pub returns-in_default : goal.returns-in_default
returns-in_default c =
    let i = c.importance-important in
    let judged = read_is_judged c.args.block c.args.place c.args.at c.args.text.now c.args.tokens.now i.result.1.now c.args.name i.result.0
    (i.ensures.important ∙ ap (λ (text : List ℕ). ends_important text (solid c.args.tokens.now)) c.as_bytes.ensures.value)
    (i.ensures.value ∙ ap (λ (text : List ℕ). unmarked text (solid c.args.tokens.now)) c.as_bytes.ensures.value)
    (sym c.is_dropped.ensures ∙ c.if-is_dropped.false) in
    subst (GivesMore c.args.found.now.items c.read_name.new.found.items c.read_name.result) judged c.read_name.ensures
