use Rattle.std.proofs.Common.{◌≡◌, rules}
use Rattle.interpolation.specs.Equality.{is_same}
use Rattle.interpolation.proofs.EqualityLemmas.{same_tells}
use Rattle.interpolation.proofs.interpolable.same.Goals as goal

pub returns-clause-equal : goal.returns-clause-equal
returns-clause-equal c =
    let e : c.eq.result ≡ is_same c.args.a c.args.b = search rules in
    rw e (same_tells c.args.a c.args.b)
