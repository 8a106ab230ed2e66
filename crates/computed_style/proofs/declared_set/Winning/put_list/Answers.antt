use Rattle.std.specs.Prelude.{◌≡◌, ◌∷◌}
use Rattle.computed_style.proofs.DeclarationLemmas.{OnOk-then, put_important_list, put_normal_list}
use Rattle.computed_style.proofs.declared_set.Winning.put_list.Goals as goal

pub returns-then-important-clause-ok : goal.returns-then-important-clause-ok
returns-then-important-clause-ok c =
    OnOk-then c.put_first.result
    (λ (first : c.put_first.new.list.items ≡ (c.args.name, c.args.value) ∷ c.self.inside.important_lists.items). rw (first, c.if-important.true, ← c.self.view_is) (put_important_list c.self.inside.important.items c.self.inside.normal.items c.self.inside.important_lists.items c.self.inside.normal_lists.items c.args.name c.args.value))
    c.put_first.ensures.ok

pub returns-else-important-clause-ok : goal.returns-else-important-clause-ok
returns-else-important-clause-ok c =
    OnOk-then c.put_first-else-important.result
    (λ (first : c.put_first-else-important.new.list.items ≡ (c.args.name, c.args.value) ∷ c.self.inside.normal_lists.items). rw (first, c.if-important.false, ← c.self.view_is) (put_normal_list c.self.inside.important.items c.self.inside.normal.items c.self.inside.important_lists.items c.self.inside.normal_lists.items c.args.name c.args.value))
    c.put_first-else-important.ensures.ok
