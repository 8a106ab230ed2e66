use Rattle.std.proofs.Common.{rules}
use Rattle.std.specs.Prelude.{◌-ℤ◌}
use Rattle.std.specs.Int.{w64, w128}
use Rattle.std.proofs.lemmas.Int.{to_z-of_z}
use mir.Val.{SFits}
use Rattle.transition_start.proofs.Times.{difference_fits, elapsed_fits}
use Rattle.transition_start.specs.Sampling.{output_at}
use Rattle.transition_start.proofs.sample.output_at.Goals as goal

pub returns-clause-value : goal.returns-clause-value
unfolding output_at
returns-clause-value c =
    let end : SFits w64 c.args.r.end.0 = search rules in
    let start : SFits w64 c.args.r.start.0 = search rules in
    let t : SFits w64 c.args.t.0 = search rules in
    let lasting : SFits w64 (c.args.r.end.0 -ℤ c.args.r.start.0) = difference_fits c.args.r.end.0 c.args.r.start.0 c.requires.end c.requires.start in
    let not_after = simp to_z-of_z at c.if-r-t.false in
    let not_before = simp to_z-of_z at c.if-t-r.false in
    let elapsed : SFits w64 (c.args.t.0 -ℤ c.args.r.start.0) = elapsed_fits c.args.t.0 c.args.r.start.0 c.args.r.end.0 not_after not_before c.requires.start c.requires.end in
    let elapsed_wide : SFits w128 (c.args.t.0 -ℤ c.args.r.start.0) = search rules in
    let lasting_wide : SFits w128 (c.args.r.end.0 -ℤ c.args.r.start.0) = search rules in
    let num = simp to_z-of_z at c.from.ensures in
    let den = simp to_z-of_z at c.from-2.ensures in
    rw (not_after, not_before) (simp (num, den, to_z-of_z) at c.output.ensures.value)
