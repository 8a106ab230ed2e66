-- The shorthands (CSS Cascade 5, "Shorthand Properties"; CSS Backgrounds 3; CSS Box 3; CSS Logical 1).
use Rattle.std.specs.Prelude.{List, [], ◌∷◌}
use Rattle.value_types.specs.declared.property.PropertyId.{PropertyId}
use Rattle.value_types.specs.declared.property.PropertyId.TheVariants.{BackgroundColor, Bottom, Left, MarginBottom, MarginLeft, MarginRight, MarginTop, PaddingBottom, PaddingLeft, PaddingRight, PaddingTop, Right, Top}
use Rattle.value_types.specs.declared.shorthand.Shorthand.{Shorthand}
use Rattle.value_types.specs.declared.shorthand.Shorthand.TheVariants.{All, Background, Inset, Margin, Padding}
use Rattle.value_types.specs.Properties.{all_properties}

-- the properties that a shorthand stands for, by number
abbrev pub longhands_of : Shorthand → List PropertyId
longhands_of All = all_properties
longhands_of Background = BackgroundColor ∷ []
longhands_of Inset = Bottom ∷ Left ∷ Right ∷ Top ∷ []
longhands_of Margin = MarginBottom ∷ MarginLeft ∷ MarginRight ∷ MarginTop ∷ []
longhands_of Padding = PaddingBottom ∷ PaddingLeft ∷ PaddingRight ∷ PaddingTop ∷ []
