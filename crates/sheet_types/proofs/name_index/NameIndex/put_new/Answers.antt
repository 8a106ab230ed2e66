use Rattle.std.proofs.Common.{◌∷◌, [], ◌++◌, ap, sym, ◌∙◌, length, arith}
use Rattle.std.proofs.lemmas.List.{length-append}
use Rattle.sheet_types.specs.Index.{held_in}
use Rattle.sheet_types.proofs.NameLists.{added_key, put_absent}
use Rattle.sheet_types.proofs.name_index.NameIndex.put_new.Goals as goal

pub returns-clause-aligned : goal.returns-clause-aligned
returns-clause-aligned c =
    let keys = c.in-Ok.ensures.keys ∙ added_key c.args.self.now.names.keys c.in_ok-key.key c.args.name.now c.in_ok-key.ensures.items c.requires.absent in
    let more = length-append c.args.self.now.names.keys (c.in_ok-key.key ∷ []) in
    let lists = length-append c.args.self.now.lists.items (c.in_ok-list.list ∷ []) in
    let aligned = c.requires.aligned in
    ap length keys ∙ (omega (arith, more, lists, aligned)) ∙ sym (ap length c.in_ok-push.ensures.items)

pub returns-clause-value : goal.returns-clause-value
returns-clause-value c = λ other.
    let keys = c.in-Ok.ensures.keys ∙ added_key c.args.self.now.names.keys c.in_ok-key.key c.args.name.now c.in_ok-key.ensures.items c.requires.absent in
    ap (λ ks. held_in ks c.push.new.self.items other) keys
    ∙ ap (λ ls. held_in (c.args.self.now.names.keys ++ c.in_ok-key.key ∷ []) ls other) c.in_ok-push.ensures.items
    ∙ put_absent c.args.self.now.names.keys c.args.self.now.lists.items c.in_ok-key.key c.args.name.now other c.in_ok-list.list c.args.place
    c.requires.aligned c.requires.absent c.in_ok-key.ensures.items c.in_ok-list.ensures.items
