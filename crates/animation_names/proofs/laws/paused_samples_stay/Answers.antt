use Rattle.std.proofs.Common.{◌≡◌, ◌∙◌, refl, ap}
use Rattle.std.specs.Prelude.{ℤ, List, [], ◌∷◌, All, IsSome, Option, None, Some, option_map}
use Rattle.std.specs.List.{cons_option, filter_map}
use Rattle.std.specs.Option.{option_and_then, option_map_or}
use Rattle.std.proofs.lemmas.Bool.{false≢true}
use Rattle.std.proofs.lemmas.List.Elements.{All-head, All-tail}
use Rattle.anim_timing.specs.Playing.{local_time}
use Rattle.anim_timing.specs.Progresses.{progress_of}
use Rattle.fix_num.specs.declared.units.Micros.{Micros}
use Rattle.sheet_types.specs.Sheets.{SheetRules}
use Rattle.style_data.specs.declared.animation.AnimationState.{AnimationState}
use Rattle.animation_names.specs.Samples.{frames_named, sample_of_animation, sample_with, samples_of}
use Rattle.animation_names.proofs.laws.paused_samples_stay.Goals as goal

held : (h : Option Micros) (s t : ℤ) → IsSome h → option_map_or (λ x. x.0) h s ≡ option_map_or (λ x. x.0) h t
held None s t is = absurd (false≢true is)
held (Some x) s t is = refl

module _ (sheets : List (Option SheetRules)) (t later : ℤ) where
  local_stays : (a : AnimationState) → IsSome a.hold → local_time a later ≡ local_time a t
  local_stays a is = held a.hold _ _ is

  sample_stays : (a : AnimationState) → IsSome a.hold → sample_of_animation sheets later a ≡ sample_of_animation sheets t a
  sample_stays a is =
      ap (λ l. option_and_then (λ frames. option_map (sample_with a frames) (progress_of a.timing l)) (frames_named a.name sheets)) (local_stays a is)

  samples_stay : (animations : List AnimationState) → All (λ a. IsSome a.hold) animations → samples_of animations sheets later ≡ samples_of animations sheets t
  samples_stay [] all = refl
  samples_stay (a ∷ animations) all =
      ap (λ o. cons_option o (filter_map (sample_of_animation sheets later) animations)) (sample_stays a (All-head (λ x. IsSome x.hold) a animations all))
      ∙ ap (cons_option (sample_of_animation sheets t a)) (samples_stay animations (All-tail (λ x. IsSome x.hold) a animations all))

pub returns : goal.returns
returns c = λ animations sheets t later. samples_stay sheets t later animations
