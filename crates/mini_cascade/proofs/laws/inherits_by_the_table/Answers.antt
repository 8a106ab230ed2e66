use Rattle.value_types.specs.declared.property.PropertyId.TheVariants.{Color, FontSize, LetterSpacing, Visibility}
use Rattle.std.proofs.Common.{refl, ap}
use Rattle.computed_style.specs.Styles.{pixels_of_length}
use Rattle.mini_cascade.proofs.Validity.{inherited_by_table}
use Rattle.mini_cascade.proofs.laws.inherits_by_the_table.Goals as goal

pub returns-clause-value : goal.returns-clause-value
returns-clause-value c = inherited_by_table

pub returns-clause-alone : goal.returns-clause-alone
returns-clause-alone c = λ a b root_size same.
    rw (same Color refl, same LetterSpacing refl, same Visibility refl, ap pixels_of_length (same FontSize refl)) refl
