use Rattle.std.proofs.Common.{arith}
use Rattle.std.specs.Prelude.{pos}
use Rattle.std.specs.Int.{w32}
use Rattle.std.proofs.lemmas.Bool.{false≢true}
use Rattle.std.proofs.lemmas.Int.{to_z-of_z}
use mir.Val.{SFits}
use Rattle.easing.proofs.Halving.{moved_down}
use Rattle.easing.proofs.curve.parameter.Goals as goal

pub loop-beyond-preserved : goal.loop-beyond-preserved
loop-beyond-preserved c =
    let first : SFits w32 c.args.x1 = c.ranges.x1 in
    let second : SFits w32 c.args.x2 = c.ranges.x2 in
    let before = simp to_z-of_z at c.loop-beyond.invariant in
    let told = simp to_z-of_z at c.if-is_reached.ensures in
    let o = before.order in
    simp to_z-of_z (moved_down c.args.x1 c.args.x2 (pos c.args.x) c.loop-beyond.reached c.loop-beyond.beyond _ c.requires.first c.requires.second
    before (omega arith) (omega arith) (λ h. false≢true (told.1 h)))
