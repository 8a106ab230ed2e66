use Rattle.std.proofs.Common.{◌≡◌, ◌∙◌, ap, sym, rules}
use Rattle.std.specs.Prelude.{pos, Some, ◌+ℤ◌}
use Rattle.std.specs.Int.{int_max, w64, w128}
use Rattle.std.proofs.lemmas.Int.{to_z-of_z}
use mir.Val.{SFits}
use Rattle.anim_timing.specs.Durations.{active_duration}
use Rattle.anim_timing.proofs.Bounds.{after_boundary_at, end_fits_at}
use Rattle.anim_timing.proofs.phases.active_after_boundary.Goals as goal

pub overflow_add-from : goal.overflow_add-from
overflow_add-from c =
    let delay : SFits w64 c.args.t.delay.0 = search rules in
    let from : SFits w128 c.from.result = record { sfits = c.from.type_inv } in
    let lasting : SFits w128 c.in-Some.lasting = search rules in
    let is : c.from.result ≡ c.args.t.delay.0 = simp to_z-of_z at c.from.ensures in
    let lasting_is : active_duration c.args.t ≡ Some c.in-Some.lasting = sym c.requires.lasting ∙ c.in-Some.is in
    simp to_z-of_z (rw is (end_fits_at c.args.t c.in-Some.lasting c.requires.timing lasting_is))

pub returns-in-Some : goal.returns-in-Some
returns-in-Some c =
    let delay : SFits w64 c.args.t.delay.0 = search rules in
    let from : SFits w128 c.from.result = record { sfits = c.from.type_inv } in
    let lasting : SFits w128 c.in-Some.lasting = search rules in
    let result : SFits w128 c.not_negative.result = record { sfits = c.not_negative.type_inv } in
    let is : c.from.result ≡ c.args.t.delay.0 = simp to_z-of_z at c.from.ensures in
    let lasting_is : active_duration c.args.t ≡ Some c.in-Some.lasting = sym c.requires.lasting ∙ c.in-Some.is in
    let sum : SFits w128 (c.from.result +ℤ c.in-Some.lasting) = rw is (end_fits_at c.args.t c.in-Some.lasting c.requires.timing lasting_is) in
    let value = simp to_z-of_z at c.not_negative.ensures in
    rw (to_z-of_z w128 c.not_negative.result result)
    (ap Some (value ∙ ap (λ v. int_max (v +ℤ c.in-Some.lasting) (pos 0)) is) ∙ sym (after_boundary_at c.args.t c.in-Some.lasting lasting_is))
