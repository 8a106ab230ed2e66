use Rattle.std.proofs.Common.{arith, sym}
use Rattle.std.specs.Int.{w64}
use Rattle.std.proofs.lemmas.Int.{ints, to_z-of_z}
use mir.Val.{SFits}
use Rattle.list_text.proofs.NumberLemmas.{far_value, fair_value, unread, unfine}
use Rattle.list_text.proofs.number.clamped.Goals as goal

pub returns-in-Ok : goal.returns-in-Ok
returns-in-Ok c =
    let limit : SFits w64 c.args.limit = c.ranges.limit in
    let read = simp to_z-of_z at c.in-Ok.ensures in
    fair_value c.args.places _ c.args.text.now c.in-Ok.number (omega (arith, ints)) read

pub returns-in-Err-TooLarge : goal.returns-in-Err-TooLarge
returns-in-Err-TooLarge c =
    let limit : SFits w64 c.args.limit = c.ranges.limit in
    let read = simp (to_z-of_z, c.in-Err-TooLarge.field-0-is) at c.in-Err-TooLarge.ensures in
    let is = simp to_z-of_z at c.past.ensures in
    far_value c.args.places _ c.args.text.now c.past.result (omega (arith, ints)) is read

pub returns-in-Err-Syntax : goal.returns-in-Err-Syntax
returns-in-Err-Syntax c =
    let limit : SFits w64 c.args.limit = c.ranges.limit in
    let read = simp (to_z-of_z, c.in-Err-Syntax.field-0-is) at c.in-Err-Syntax.ensures in
    sym (unread _ _ _ (sym read))

pub returns-in-Err-TooFine : goal.returns-in-Err-TooFine
returns-in-Err-TooFine c =
    let limit : SFits w64 c.args.limit = c.ranges.limit in
    let read = simp (to_z-of_z, c.in-Err-TooFine.field-0-is) at c.in-Err-TooFine.ensures in
    sym (unfine _ _ _ (sym read))
