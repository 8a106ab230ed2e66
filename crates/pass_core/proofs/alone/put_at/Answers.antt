use Rattle.std.proofs.Common.{◌∙◌, ap, set, sym}
use Rattle.pass_core.proofs.Indexes.{stands_at}
use Rattle.pass_core.proofs.alone.put_at.Goals as goal

pub returns-clause-entries : goal.returns-clause-entries
returns-clause-entries g c =
    ap (set c.args.entries.now.items c.args.at) c.replace-before.ensures.after
    ∙ sym ((stands_at c.args.entries.now.items c.args.at c.args.element (c.args.element, c.args.entry) c.requires.distinct c.requires.within
    (c.requires.here (c.args.element, c.args.entry))).writes c.args.entry)
