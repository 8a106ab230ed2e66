use Rattle.script_gen.proofs.FormLemmas.{first-form, others-form}
use Rattle.script_gen.proofs.laws.lines_have_a_form.Goals as goal

pub returns-clause-sheet : goal.returns-clause-sheet
returns-clause-sheet c = first-form

pub returns-clause-others : goal.returns-clause-others
returns-clause-others c = others-form
