use Rattle.std.proofs.Common.{ap, sym, ◌∙◌}
use Rattle.std.specs.Global.{Vec}
use Rattle.sheet_types.specs.declared.selector_place.SelectorPlace.{SelectorPlace}
use Rattle.sheet_types.proofs.NameLists.{held_absent, held_present}
use Rattle.sheet_types.proofs.name_index.NameIndex.get.Goals as goal

pub returns-in-Some : goal.returns-in-Some
returns-in-Some c =
    c.as_slice.ensures.value ∙ ap (λ (v : Vec SelectorPlace). v.items) c.index.ensures
    ∙ sym (held_present c.args.self.now.names.keys c.args.self.now.lists.items c.args.name.now c.in-Some.at c.index.result.now c.requires (sym c.in-Some.ensures.index))

pub returns-in-None : goal.returns-in-None
returns-in-None c = sym (held_absent c.args.self.now.names.keys c.args.self.now.lists.items c.args.name.now c.requires (sym c.in-None.ensures.index))
