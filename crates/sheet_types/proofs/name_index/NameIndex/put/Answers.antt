use Rattle.std.proofs.Common.{◌∷◌, [], ◌++◌, ap, sym, ◌∙◌}
use Rattle.std.specs.Global.{Vec}
use Rattle.sheet_types.specs.declared.selector_place.SelectorPlace.{SelectorPlace}
use Rattle.sheet_types.proofs.NameLists.{put_present}
use Rattle.sheet_types.proofs.name_index.NameIndex.put.Goals as goal

pub returns-in_ok-push-in-Some-clause-value : goal.returns-in_ok-push-in-Some-clause-value
returns-in_ok-push-in-Some-clause-value c = λ other.
    put_present c.args.self.now.names.keys c.args.self.now.lists.items c.args.name.now other c.in-Some.at c.push.new.self c.index_mut.result.now c.args.place
    c.requires (sym c.in-Some.ensures.index)
    (c.in_ok-push-in-Some.ensures.items ∙ ap (λ (v : Vec SelectorPlace). v.items ++ c.args.place ∷ []) c.index_mut.ensures.value)
