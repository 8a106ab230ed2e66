use Rattle.std.proofs.Common.{refl, rules}
use Rattle.std.specs.Prelude.{◌+ℤ◌}
use Rattle.std.specs.Int.{w64}
use Rattle.std.proofs.lemmas.Int.{to_z-of_z}
use mir.Val.{SFits}
use Rattle.reversing.proofs.times.reversed_times.Goals as goal

pub returns-clause-end : goal.returns-clause-end
returns-clause-end c =
    let t : SFits w64 c.args.t.0 = search rules in
    let delay : SFits w64 c.args.delay.0 = search rules in
    let duration : SFits w64 c.args.duration.0 = search rules in
    let f : SFits w64 c.args.f.0 = search rules in
    let before : SFits w64 c.reversed_delay.result = record { sfits = c.reversed_delay.type_inv } in
    let lasting : SFits w64 c.part.result = record { sfits = c.part.type_inv } in
    let start : SFits w64 (c.args.t.0 +ℤ c.reversed_delay.result) = search rules in
    let end : SFits w64 ((c.args.t.0 +ℤ c.reversed_delay.result) +ℤ c.part.result) = search rules in
    let first = simp to_z-of_z at c.reversed_delay.ensures.value in
    let second = simp to_z-of_z at c.part.ensures.value in
    simp to_z-of_z (rw (first, second) refl)
