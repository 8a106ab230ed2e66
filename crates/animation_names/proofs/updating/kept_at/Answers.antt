use Rattle.std.proofs.Common.{rules, tests, ◌∙◌, ap, reverse}
use Rattle.std.specs.Prelude.{filter, slice_get}
use Rattle.std.proofs.lemmas.Iterator.Consumers.{YieldsList-from_filter, nth_from_yields_List}
use Rattle.std.proofs.lemmas.Iterator.Adapters.{YieldsList-from_rev_slice}
use Rattle.animation_names.specs.NameLists.{is_called}
use Rattle.animation_names.proofs.updating.kept_at.Goals as goal

pub returns : goal.returns
returns c =
    nth_from_yields_List c.nth.result c.nth.new.self c.places_after.result c.nth.ensures.ran
    (YieldsList-from_filter _ (is_called c.args.name.now) (YieldsList-from_rev_slice c.args.old.now cc) c.filter.ensures.closure (λ x b q k. search (rules, tests)))
    ∙ ap (slice_get (filter (is_called c.args.name.now) (reverse c.args.old.now))) c.places_after.ensures
