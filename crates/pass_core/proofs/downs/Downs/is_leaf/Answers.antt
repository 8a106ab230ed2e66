use Rattle.std.proofs.Common.{eqb, ◌+◌, ◌∙◌, ap}
use Rattle.pass_core.specs.Downs.{is_leaf}
use Rattle.pass_core.proofs.downs.Downs.is_leaf.Goals as goal

pub returns : goal.returns
returns g c = ap (λ n. eqb c.args.place.end (n + 1)) (c.len.ensures ∙ c.self.inside.seats.ok.0) ∙ ap (λ s. is_leaf s c.args.place) c.self.view_is
