-- The samples of an element's animations at a moment (CSS Animations Level 1, "Keyframes"; Web Animations Level 1, "The effect value of a
-- keyframe effect").
use Rattle.std.specs.Prelude.{◌≢◌, ℕ, ℤ, List, All, Option, IfSome, option_map}
use Rattle.std.specs.List.{filter_map}
use Rattle.std.specs.Option.{option_and_then}
use Rattle.anim_timing.specs.Progresses.{progress_at}
use Rattle.anim_timing.specs.declared.progress.Progress.{Progress}
use Rattle.keyframes.specs.declared.animation_sample.SampleParts.{SampleParts}
use Rattle.sheet_types.specs.Sheets.{SheetRules, keyframes_in}
use Rattle.style_data.specs.declared.animation.AnimationState.{AnimationState}
use Rattle.value_types.specs.declared.frame.Frame.{Frame}

-- the frames of the last keyframes rule of the name, by sheet and by place in it
abbrev pub frames_named : List ℕ → List (Option SheetRules) → Option (List Frame)
frames_named name sheets = option_map (λ rule. rule.frames) (keyframes_in name sheets)

-- the sheet, where there is one, has no keyframes rule of the name
abbrev pub HasNoRule : List ℕ → Option SheetRules → Type 0
HasNoRule name sheet = IfSome sheet (λ s. All (λ rule. rule.name ≢ name) s.keyframes)

-- the sample of an animation with these frames at a progress
abbrev pub sample_with : AnimationState → List Frame → Progress → SampleParts
sample_with a frames p = record { frames = frames; easing = a.timing.easing; num = p.num; den = p.den }

-- the sample of an animation: none where its name has no keyframes rule, or where it has no progress
abbrev pub sample_of_animation : List (Option SheetRules) → ℤ → AnimationState → Option SampleParts
sample_of_animation sheets t a = option_and_then (λ frames. option_map (sample_with a frames) (progress_at a t)) (frames_named a.name sheets)

-- the samples of animations, in the order of their list
abbrev pub samples_of : List AnimationState → List (Option SheetRules) → ℤ → List SampleParts
samples_of animations sheets t = filter_map (sample_of_animation sheets t) animations
