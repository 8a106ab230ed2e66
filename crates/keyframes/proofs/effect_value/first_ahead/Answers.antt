use Rattle.std.proofs.Common.{◌≡◌, ◌∙◌, sym, subst}
use Rattle.std.specs.Prelude.{Option, IfSome, find}
use Rattle.std.specs.Int.{w128}
use Rattle.std.proofs.lemmas.Int.{to_z-of_z}
use mir.Val.{SFits}
use Rattle.value_types.specs.declared.frame.Frame.{Frame}
use Rattle.keyframes.specs.PropertyKeyframes.{frames_of, gives}
use Rattle.keyframes.specs.Validity.{IsFrameOf}
use Rattle.keyframes.proofs.KeyframeLemmas.{ahead}
use Rattle.keyframes.proofs.ListLemmas.{find-filter}
use Rattle.keyframes.proofs.SampleLemmas.{next_frame}
use Rattle.keyframes.proofs.effect_value.first_ahead.Goals as goal

value : (c : goal.After-first_where) → c.first_where.result ≡ find (ahead c.args.num c.args.den) (frames_of c.args.p c.args.frames.now)
value c =
    let num : SFits w128 c.args.num = c.ranges.num in
    let den : SFits w128 c.args.den = c.ranges.den in
    let found = simp to_z-of_z at c.first_where.ensures in
    found ∙ sym (find-filter (gives c.args.p) (ahead c.args.num c.args.den) c.args.frames.now)

pub returns-clause-value : goal.returns-clause-value
returns-clause-value c = value c

pub returns-clause-bounds : goal.returns-clause-bounds
returns-clause-bounds c =
    subst (λ (o : Option Frame). IfSome o (IsFrameOf c.args.p)) (sym (value c)) (next_frame c.args.p c.args.num c.args.den c.args.frames.now c.requires.frames)
