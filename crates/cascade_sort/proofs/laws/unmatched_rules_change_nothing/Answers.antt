use Rattle.std.proofs.Common.{◌∷◌, ◌++◌, refl}
use Rattle.doc_tree.specs.Element.{inclusive_ancestors}
use Rattle.sheet_types.specs.Sheets.{sheet_rules}
use Rattle.cascade_sort.specs.Applying.{style_declarations, style_text}
use Rattle.cascade_sort.proofs.Unmatched.{unmatched_rule}
use Rattle.cascade_sort.proofs.laws.unmatched_rules_change_nothing.Goals as goal

pub returns : goal.returns
returns c = λ sheets es n k before after r keyframes never.
    unmatched_rule (inclusive_ancestors es n) sheets (style_declarations (style_text es n)) k before after r (sheet_rules (before ++ after) keyframes)
    (sheet_rules (before ++ r ∷ after) keyframes) refl refl never
