-- Elements that change no more by time alone.
use Rattle.std.specs.Prelude.{Bool, true, false, ◌&&◌, ℤ}
use Rattle.std.specs.Ordering.{int_eq}
use Rattle.std.specs.List.{list_all}
use Rattle.anim_timing.specs.Phases.{phase_of}
use Rattle.anim_timing.specs.Playing.{local_time}
use Rattle.computed_style.specs.Styles.{ComputedStyle, value_of}
use Rattle.computed_style.specs.declared.inherited.InheritedValues.{InheritedValues}
use Rattle.interpolation.specs.Equality.{is_same}
use Rattle.style_data.specs.declared.animation.AnimationState.{AnimationState}
use Rattle.style_data.specs.declared.transition.Phase.{Phase}
use Rattle.style_data.specs.declared.transition.Phase.TheVariants.{After}
use Rattle.value_types.specs.Properties.{all_properties}

-- the styles have the same value of each property
abbrev pub have_same_values : ComputedStyle → ComputedStyle → Bool
have_same_values a b = list_all (λ p. is_same (value_of a p) (value_of b p)) all_properties

abbrev pub is_after : Phase → Bool
is_after After = true
is_after phase = false

-- the animation has come to its after phase
abbrev pub has_ended : ℤ → AnimationState → Bool
has_ended t a = is_after (phase_of a.timing (local_time a t))

-- what is handed down by both is the same
abbrev pub is_same_inherited : InheritedValues → InheritedValues → Bool
is_same_inherited a b =
    is_same a.color b.color && int_eq a.font_size.0 b.font_size.0 && is_same a.letter_spacing b.letter_spacing && is_same a.visibility b.visibility
    && int_eq a.root_size.0 b.root_size.0
