use Rattle.std.proofs.Common.{◌≡◌, ◌≤◌, ◌^◌, min, drop}
use Rattle.std.specs.Str.Parse.{digits_value_after}
use Rattle.fix_num.proofs.decimal.with_digits.Given as goal

-- what the digits that are left make of the value is what all of them make of the start
abbrev pub invariant-loop-digit : goal.invariant-loop-digit
invariant-loop-digit l = record {
  bound : l.value ≤ 2 ^ 63;
  same : min (digits_value_after 10 l.value (drop l.digit-index l.digits)) (2 ^ 63) ≡ min (digits_value_after 10 l.fn.start l.digits) (2 ^ 63);
}
