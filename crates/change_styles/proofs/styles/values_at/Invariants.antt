use Rattle.std.proofs.Common.{◌≡◌, take}
use Rattle.computed_style.specs.Styles.{AreGiven}
use Rattle.change_styles.specs.ThreeStyles.{transitioned_at}
use Rattle.change_styles.proofs.styles.values_at.Given as goal

-- the values of the transitions so far, each valid for its property
abbrev pub invariant-loop-item : goal.invariant-loop-item
invariant-loop-item l = record {
  value : l.given.items ≡ transitioned_at (take l.item-index l.running) l.t.0;
  valid : AreGiven l.given.items;
}
