-- The keyframes of one property (CSS Animations Level 1, "Keyframes"; Web Animations Level 1, "The effect value of a keyframe
-- effect").
use Rattle.std.specs.Prelude.{pos, Bool, nat_eq, List, [], ◌∷◌, ◌++◌, map, filter, Option, unwrap_or, if◌then◌else◌}
use Rattle.std.specs.List.{list_any}
use Rattle.std.specs.Option.{option_map_or}
use Rattle.std.specs.Ordering.{int_eq}
use Rattle.computed_value.specs.Absolute.{absolute_of}
use Rattle.fix_num.specs.declared.units.Bill.{Bill}
use Rattle.fix_num.specs.declared.units.Fix.{Fix}
use Rattle.fix_num.specs.declared.units.TheConstants.Bill.{ONE}
use Rattle.timing_types.specs.declared.easing.Easing.{Easing}
use Rattle.value_types.specs.Properties.{number_of}
use Rattle.value_types.specs.declared.declared.Declared.{Declared}
use Rattle.value_types.specs.declared.declared.Declared.TheVariants.{Inherit}
use Rattle.value_types.specs.declared.frame.Frame.{Frame}
use Rattle.value_types.specs.declared.property.PropertyId.{PropertyId}
use Rattle.value_types.specs.declared.value.Value.{Value}
use Rattle.keyframes.specs.declared.keyframe.EffectContext.{EffectContext}
use Rattle.keyframes.specs.declared.keyframe.Keyframe.{Keyframe}

-- whether a frame gives the property a value
abbrev pub gives : PropertyId → Frame → Bool
gives p f = nat_eq (number_of f.property) (number_of p)

-- the frames that give the property a value
abbrev pub frames_of : PropertyId → List Frame → List Frame
frames_of p frames = filter (gives p) frames

-- the value that a frame gives: its declared value, made absolute; inherit stands for the underlying value
abbrev pub value_given : EffectContext → Declared → Value
value_given x Inherit = x.under
value_given x d = absolute_of x.property d x.parent_size x.own_size x.root_size

-- the keyframe of a frame; where that names no easing it has the animation's
abbrev pub keyframe_of : EffectContext → Frame → Keyframe
keyframe_of x f = record { offset = f.offset; value = value_given x f.declared; easing = unwrap_or f.easing x.easing }

-- a keyframe of the underlying value
abbrev pub underlying_at : EffectContext → Bill → Keyframe
underlying_at x offset = record { offset = offset; value = x.under; easing = x.easing }

-- whether a frame stands at an offset
abbrev pub has_frame_at : Bill → List Frame → Bool
has_frame_at offset frames = list_any (λ f. int_eq f.offset.0 offset.0) frames

-- a keyframe of the underlying value at an offset at which no frame stands
abbrev pub constructed_at : EffectContext → List Frame → Bill → List Keyframe
constructed_at x frames offset = (if has_frame_at offset frames then [] else underlying_at x offset ∷ [])

-- 0, in billionths
abbrev pub zero_offset : Bill
zero_offset = record { 0 = pos 0 }

-- the keyframes of frames of the property, in their order, with those that are missing at 0 and at 1
abbrev pub with_ends : EffectContext → List Frame → List Keyframe
with_ends x frames = constructed_at x frames zero_offset ++ map (keyframe_of x) frames ++ constructed_at x frames ONE

-- the property-specific keyframes
abbrev pub keyframes_of : EffectContext → List Frame → List Keyframe
keyframes_of x frames = with_ends x (frames_of x.property frames)

-- what a property is sampled over: the easing of the animation, the font sizes of the parent, of the element and of the root, and
-- the underlying value
abbrev pub effect_context : PropertyId → Easing → Fix → Fix → Fix → Value → EffectContext
effect_context p easing parent own root under = record {
  property = p;
  easing = easing;
  parent_size = parent;
  own_size = own;
  root_size = root;
  under = under;
}

-- the keyframe of a frame, or one of the underlying value where there is none
abbrev pub keyframe_or : EffectContext → Option Frame → Bill → Keyframe
keyframe_or x f offset = option_map_or (keyframe_of x) f (underlying_at x offset)
