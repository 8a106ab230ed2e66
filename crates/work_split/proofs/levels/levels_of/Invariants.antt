use Rattle.std.proofs.Common.{◌≤◌, length, map}
use Rattle.work_split.proofs.Seating.{Seated}
use Rattle.work_split.proofs.Slots.{Slotted}
use Rattle.work_split.proofs.levels.levels_of.Given as goal

abbrev pub invariant-loop-at : goal.invariant-loop-at
invariant-loop-at g l = record {
  seated : Seated l.places (map (λ x. x.0) l.entries) l.seats.items l.depths.items l.slots.items l.at;
  slotted : Slotted l.places l.slots.items l.inner l.at;
  next : l.next ≤ length l.entries;
}
