use Rattle.std.proofs.Common.{◌≡◌, ◌∙◌, ℕ, List, ap}
use Rattle.anim_timing.specs.Playing.{elapsed_at_cancel}
use Rattle.fix_num.specs.declared.units.Micros.{Micros}
use Rattle.style_data.specs.declared.animation.AnimationState.{AnimationState}
use Rattle.style_data.specs.declared.gone.Gone.{Gone}
use Rattle.style_data.specs.declared.gone.Subject.TheVariants.{Animation}
use Rattle.animation_names.specs.Continuing.{cancelled_animation}
use Rattle.animation_names.proofs.continuing.cancelled_animation.Goals as goal

-- the item of a state, with a copy of its name and this elapsed time
abbrev item_of : Micros → AnimationState → List ℕ → Micros → Gone
item_of time a name elapsed = record {
  subject = Animation name;
  place = a.first_place;
  cancelled = time;
  elapsed = elapsed;
  generation = a.generation;
  position = a.position;
  seen = a.seen;
}

item-there : (time : Micros) (a state : AnimationState) (name : List ℕ) (elapsed : Micros) → state ≡ a → name ≡ state.name → elapsed.0 ≡ elapsed_at_cancel a time.0
    → item_of time state name elapsed ≡ cancelled_animation time a
unfolding cancelled_animation
item-there time a state name elapsed read named told =
    ap (λ n. item_of time state n elapsed) named ∙ ap (λ (s : AnimationState). item_of time s s.name elapsed) read
    ∙ ap (λ e. item_of time a a.name (record { 0 = e })) told

pub returns : goal.returns
returns c =
    item-there c.args.t c.args.a.now c.get-state.result.now c.in_ok-copy.field-0 c.cancel_elapsed.result c.get-state.ensures.value c.in_ok-copy.ensures c.cancel_elapsed.ensures
