-- The names that a declaration may have: properties, timing lists, and the shorthands of either.
use Rattle.std.specs.Prelude.{ℕ, Bool, List, [], ◌∷◌, codes, find, Option, option_map}
use Rattle.std.specs.Str.{str_eq_ignore_ascii_case}
use Rattle.value_types.specs.ListValues.{timing_lists}
use Rattle.value_types.specs.Properties.{name_of, property_named}
use Rattle.value_types.specs.declared.list_value.ListName.{ListName}
use Rattle.value_types.specs.declared.list_value.ListName.TheVariants as list
use Rattle.value_types.specs.declared.shorthand.Shorthand.{Shorthand}
use Rattle.value_types.specs.declared.shorthand.Shorthand.TheVariants as short
use Rattle.shorthand_text.specs.Components.{first_some}
use Rattle.shorthand_text.specs.declared.known_name.KnownName.{KnownName}
use Rattle.shorthand_text.specs.declared.known_name.KnownName.TheVariants as known

-- the name of a timing list (CSS Transitions 1, section 2; CSS Animations 1, section 4)
abbrev pub name_of_list : ListName → List ℕ
name_of_list list.TransitionProperty = codes "transition-property"
name_of_list list.TransitionDuration = codes "transition-duration"
name_of_list list.TransitionDelay = codes "transition-delay"
name_of_list list.TransitionEasing = codes "transition-timing-function"
name_of_list list.AnimationName = codes "animation-name"
name_of_list list.AnimationDuration = codes "animation-duration"
name_of_list list.AnimationDelay = codes "animation-delay"
name_of_list list.AnimationEasing = codes "animation-timing-function"
name_of_list list.AnimationCount = codes "animation-iteration-count"
name_of_list list.AnimationDirection = codes "animation-direction"
name_of_list list.AnimationFill = codes "animation-fill-mode"
name_of_list list.AnimationPlayState = codes "animation-play-state"

-- the name of a shorthand of properties
abbrev pub name_of_shorthand : Shorthand → List ℕ
name_of_shorthand short.All = codes "all"
name_of_shorthand short.Background = codes "background"
name_of_shorthand short.Inset = codes "inset"
name_of_shorthand short.Margin = codes "margin"
name_of_shorthand short.Padding = codes "padding"

-- a known name in lower case
abbrev pub text_of_name : KnownName → List ℕ
text_of_name (known.Property p) = name_of p
text_of_name (known.List n) = name_of_list n
text_of_name (known.Short s) = name_of_shorthand s
text_of_name known.Transition = codes "transition"
text_of_name known.Animation = codes "animation"

-- the shorthands
abbrev pub all_shorthands : List KnownName
all_shorthands =
    known.Short short.All ∷ known.Short short.Background ∷ known.Short short.Inset ∷ known.Short short.Margin ∷ known.Short short.Padding
    ∷ known.Transition ∷ known.Animation ∷ []

-- the text is the name, whatever the ASCII case of its letters
abbrev pub is_text_of : List ℕ → KnownName → Bool
is_text_of text name = str_eq_ignore_ascii_case text (text_of_name name)

-- the property, else the timing list, else the shorthand of this name
unfoldable pub known_name : List ℕ → Option KnownName
known_name text =
    first_some (option_map known.Property (property_named text))
    (first_some (option_map known.List (find (λ n. str_eq_ignore_ascii_case text (name_of_list n)) timing_lists))
    (find (is_text_of text) all_shorthands))
