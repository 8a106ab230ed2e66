use Rattle.std.proofs.Common.{◌∙◌, ap, sym, rules}
use Rattle.std.specs.Int.{w64}
use Rattle.std.specs.Prelude.{Err}
use Rattle.std.proofs.lemmas.Int.{to_z-of_z}
use mir.Val.{SFits}
use Rattle.script_text.proofs.NumberLemmas.{judged_reading, no_time, time_reading}
use Rattle.script_text.proofs.number.time.Goals as goal

pub returns-then-not-begins_with_digit : goal.returns-then-not-begins_with_digit
returns-then-not-begins_with_digit c = sym (no_time c.args.word.now (sym c.begins_with_digit.ensures ∙ c.if-not-begins_with_digit.true))

pub returns-in-Ok : goal.returns-in-Ok
returns-in-Ok c =
    let fits : SFits w64 c.in-Ok.time = search rules in
    let read = time_reading c.args.word.now (sym c.begins_with_digit.ensures ∙ c.if-not-begins_with_digit.false) in
    rw (to_z-of_z w64 c.in-Ok.time fits) (ap judged_reading c.in-Ok.ensures ∙ sym read)

pub returns-in-Err : goal.returns-in-Err
returns-in-Err c =
    let read = time_reading c.args.word.now (sym c.begins_with_digit.ensures ∙ c.if-not-begins_with_digit.false) in
    ap Err c.fault_of_time.ensures ∙ ap judged_reading c.in-Err.ensures ∙ sym read
