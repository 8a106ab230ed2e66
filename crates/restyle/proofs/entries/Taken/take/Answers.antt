use Rattle.std.proofs.Common.{refl, sym}
use Rattle.restyle.proofs.Lookups.{others_left}
use Rattle.restyle.proofs.entries.Taken.take.Goals as goal

pub returns-in-Some-clause-others : goal.returns-in-Some-clause-others
returns-in-Some-clause-others c =
    others_left c.args.self.now (record { numbers = c.args.self.now.numbers; left = c.take_at.new.left }) c.args.n c.in-Some.at (sym c.in-Some.ensures.index) refl c.take_at.ensures.others
