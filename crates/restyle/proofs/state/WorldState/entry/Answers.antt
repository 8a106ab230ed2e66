use Rattle.std.proofs.Common.{◌∙◌, sym}
use Rattle.restyle.proofs.Questions.{answered, entry_found, if_ok, never_styled}
use Rattle.restyle.proofs.state.WorldState.entry.Goals as goal

pub returns-in-None-clause-refusal : goal.returns-in-None-clause-refusal
returns-in-None-clause-refusal c =
    never_styled c.args.self.now c.args.n (sym c.contains.ensures ∙ c.if-contains.true) (sym c.in-None.ensures)

pub returns-in-Some-clause-value : goal.returns-in-Some-clause-value
returns-in-Some-clause-value c =
    if_ok c.styled_entry.result (λ e is. is ∙ sym (entry_found c.args.self.now c.args.n (sym c.contains.ensures ∙ c.if-contains.true) c.in-Some.entry.now (sym c.in-Some.ensures))) c.styled_entry.ensures.value

pub returns-in-Some-clause-refusal : goal.returns-in-Some-clause-refusal
returns-in-Some-clause-refusal c =
    answered c.args.self.now c.args.n (sym c.contains.ensures ∙ c.if-contains.true) c.in-Some.entry.now c.styled_entry.result (sym c.in-Some.ensures) c.styled_entry.ensures.styled c.styled_entry.ensures.refusal
