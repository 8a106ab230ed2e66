use Rattle.std.proofs.Common.{◌≡◌, ◌∙◌, sym, subst}
use Rattle.std.specs.Prelude.{Option, IfSome}
use Rattle.std.specs.Int.{w128}
use Rattle.std.proofs.lemmas.Int.{to_z-of_z}
use mir.Val.{SFits}
use Rattle.value_types.specs.declared.frame.Frame.{Frame}
use Rattle.keyframes.specs.Last.{last_passing}
use Rattle.keyframes.specs.PropertyKeyframes.{frames_of, gives}
use Rattle.keyframes.specs.Validity.{IsFrameOf}
use Rattle.keyframes.proofs.KeyframeLemmas.{reaches}
use Rattle.keyframes.proofs.ListLemmas.{find-reverse, last_passing-filter}
use Rattle.keyframes.proofs.SampleLemmas.{last_frame}
use Rattle.keyframes.proofs.effect_value.last_reached.Goals as goal

value : (c : goal.After-last_where) → c.last_where.result ≡ last_passing (reaches c.args.num c.args.den) (frames_of c.args.p c.args.frames.now)
value c =
    let num : SFits w128 c.args.num = c.ranges.num in
    let den : SFits w128 c.args.den = c.ranges.den in
    let found = simp to_z-of_z at c.last_where.ensures in
    found ∙ find-reverse _ c.args.frames.now ∙ sym (last_passing-filter (gives c.args.p) (reaches c.args.num c.args.den) c.args.frames.now)

pub returns-clause-value : goal.returns-clause-value
returns-clause-value c = value c

pub returns-clause-bounds : goal.returns-clause-bounds
returns-clause-bounds c =
    subst (λ (o : Option Frame). IfSome o (IsFrameOf c.args.p)) (sym (value c)) (last_frame c.args.p c.args.num c.args.den c.args.frames.now c.requires.frames)
