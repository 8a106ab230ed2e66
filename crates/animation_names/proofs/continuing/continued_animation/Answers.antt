use Rattle.std.proofs.Common.{◌≡◌, ◌∙◌, ℕ, Bool, ap}
use Rattle.anim_timing.specs.Playing.{played}
use Rattle.fix_num.specs.declared.units.Micros.{Micros}
use Rattle.style_data.specs.declared.animation.AnimationState.{AnimationState}
use Rattle.style_data.specs.declared.timing.AnimationTiming.{AnimationTiming}
use Rattle.timing_types.specs.TimingLists.{AnimationValues}
use Rattle.animation_names.specs.Continuing.{continued_animation, is_paused_at, timing_at}
use Rattle.animation_names.proofs.continuing.continued_animation.Goals as goal

-- step by step: the copy has the place and its timing, and then pauses or runs
played-there : (lists : AnimationValues) (time : Micros) (i : ℕ) (a copy there new : AnimationState) (timing : AnimationTiming) (paused : Bool) → copy ≡ a → timing ≡ timing_at lists i
    → there ≡ record copy { place = i; timing = timing } → paused ≡ is_paused_at lists i → new ≡ played there paused time.0 → new ≡ continued_animation lists time i a
unfolding continued_animation
played-there lists time i a copy there new timing paused copied timed stands state plays =
    plays ∙ ap (λ s. played s paused time.0) (stands ∙ (ap (λ (s : AnimationState). record s { place = i; timing = timing }) copied ∙ ap {B = AnimationState} (λ k. record a { place = i; timing = k }) timed))
    ∙ ap (λ b. played (record a { place = i; timing = timing_at lists i }) b time.0) state

pub returns : goal.returns
returns c =
    played-there c.args.lists.now c.args.t c.args.i c.args.a.now c.in_ok-state.state c.new-animation.result c.pause_or_run.new.a c.timing_at-state.result c.is_paused_at.result
    (c.in_ok-state.ensures ∙ c.get.ensures.value) c.timing_at-state.ensures c.new-animation.ensures c.is_paused_at.ensures c.pause_or_run.ensures
