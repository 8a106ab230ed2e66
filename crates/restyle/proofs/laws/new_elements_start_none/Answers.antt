use Rattle.std.proofs.Common.{ap}
use Rattle.std.specs.Prelude.{option_map}
use Rattle.style_data.specs.Entries.{EntryParts}
use Rattle.restyle.specs.StyleChanges.{ancestors_of, entry_for, inherited_above, styles_along}
use Rattle.restyle.proofs.FirstEvents.{none_at}
use Rattle.restyle.proofs.laws.new_elements_start_none.Goals as goal

pub returns-clause-new : goal.returns-clause-new
returns-clause-new c = λ w entries n fresh.
    none_at w n (entry_for entries n) (option_map inherited_above (styles_along w entries (ancestors_of w.document n))) (ap (λ (e : EntryParts). e.rendered) fresh)

pub returns-clause-unrendered : goal.returns-clause-unrendered
returns-clause-unrendered c = λ w entries n off.
    none_at w n (entry_for entries n) (option_map inherited_above (styles_along w entries (ancestors_of w.document n))) off
