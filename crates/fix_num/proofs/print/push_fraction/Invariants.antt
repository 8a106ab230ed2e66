use Rattle.std.proofs.Common.{◌≡◌, ◌≤◌, ◌<◌, ◌^◌, ◌++◌}
use Rattle.std.specs.Io.{StartsWith}
use Rattle.fix_num.specs.Print.{fraction_of}
use Rattle.fix_num.proofs.print.push_fraction.Given as goal

-- the digits so far and those of what is left are those of all
abbrev pub invariant-loop-left : goal.invariant-loop-left
invariant-loop-left l = record {
  few : l.place ≤ 9;
  starts : StartsWith l.out.items l.initial.out.items;
  below : l.left < 10 ^ l.place;
  digits : l.out.items ++ fraction_of l.place l.left ≡ l.initial.out.items ++ fraction_of l.places l.rest;
}

abbrev pub decreases-loop-left : goal.decreases-loop-left
decreases-loop-left l = l.place
