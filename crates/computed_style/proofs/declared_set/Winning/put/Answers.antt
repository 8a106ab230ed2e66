use Rattle.computed_style.proofs.DeclarationLemmas.{put_important, put_normal}
use Rattle.computed_style.proofs.declared_set.Winning.put.Goals as goal

pub returns-in_ok-put_first-clause-ok : goal.returns-in_ok-put_first-clause-ok
returns-in_ok-put_first-clause-ok c =
    rw (c.in_ok-put_first.ensures.ok, c.if-important.true, ← c.self.view_is)
    (put_important c.self.inside.important.items c.self.inside.normal.items c.self.inside.important_lists.items c.self.inside.normal_lists.items c.args.p c.args.declared)

pub returns-in_ok-put_first-2-clause-ok : goal.returns-in_ok-put_first-2-clause-ok
returns-in_ok-put_first-2-clause-ok c =
    rw (c.in_ok-put_first-2.ensures.ok, c.if-important.false, ← c.self.view_is)
    (put_normal c.self.inside.important.items c.self.inside.normal.items c.self.inside.important_lists.items c.self.inside.normal_lists.items c.args.p c.args.declared)
