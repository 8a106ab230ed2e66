use Rattle.std.proofs.Common.{◌≡◌, ◌∙◌, ap, length, refl, subst, sym, Some}
use Rattle.std.specs.Prelude.{IfSome}
use Rattle.std.proofs.lemmas.Option.{slice_get_read}
use Rattle.work_split.proofs.Earlier.{index_same, last_gives, value_lent}
use Rattle.work_split.proofs.steps.sibling_of.Goals as goal

pub returns : goal.returns
returns g c = λ m downs down zipped handed.
    let at = c.in_ok-get.ensures.lookup in
    let x = c.in_ok-get.field-0.now in
    let s = c.in_ok-seat.seat.now in
    let gave =
    last_gives m c.args.entries.now downs c.args.seats.now c.args.steps.now c.args.above s x _ _ down zipped
    (sym c.in_ok-seat.ensures.value) (sym c.in_ok-after.ensures.value ∙ ap Some c.in-Updated.is)
    (slice_get_read c.args.entries.now (length c.args.entries.now) s.row x refl at.3.0 at.1) (index_same s.above c.args.above c.if-ne.ensures) handed in
    record { handed = gave.handed; outcome_is = gave.step_is; handed_is = value_lent c.as_ref.result (λ d. d ≡ gave.handed) (subst (λ o. IfSome o (λ d. d ≡ gave.handed)) (sym c.as_ref.ensures.value) gave.told_is) }
