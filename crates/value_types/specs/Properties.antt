-- The properties of the profile (CSS Backgrounds 3, CSS Box 3, CSS Color 4, CSS Display 3, CSS Fonts 4, CSS Position 3,
-- CSS Sizing 3, CSS Text 3, CSS Transforms 2, CSS 2.2), by name and number.
use Rattle.std.specs.Prelude.{ℕ, Bool, List, [], ◌∷◌, codes, find, Option}
use Rattle.std.specs.Str.{str_eq_ignore_ascii_case}
use Rattle.value_types.specs.declared.property.PropertyId.{PropertyId}
use Rattle.value_types.specs.declared.property.PropertyId.TheVariants.{BackgroundColor, Bottom, Color, Display, FontSize, Height, Left, LetterSpacing, MarginBottom, MarginLeft, MarginRight, MarginTop, Opacity, PaddingBottom, PaddingLeft, PaddingRight, PaddingTop, Right, Rotate, Top, Translate, Visibility, Width, ZIndex}

-- the name of a property
abbrev pub name_of : PropertyId → List ℕ
name_of BackgroundColor = codes "background-color"
name_of Bottom = codes "bottom"
name_of Color = codes "color"
name_of Display = codes "display"
name_of FontSize = codes "font-size"
name_of Height = codes "height"
name_of Left = codes "left"
name_of LetterSpacing = codes "letter-spacing"
name_of MarginBottom = codes "margin-bottom"
name_of MarginLeft = codes "margin-left"
name_of MarginRight = codes "margin-right"
name_of MarginTop = codes "margin-top"
name_of Opacity = codes "opacity"
name_of PaddingBottom = codes "padding-bottom"
name_of PaddingLeft = codes "padding-left"
name_of PaddingRight = codes "padding-right"
name_of PaddingTop = codes "padding-top"
name_of Right = codes "right"
name_of Rotate = codes "rotate"
name_of Top = codes "top"
name_of Translate = codes "translate"
name_of Visibility = codes "visibility"
name_of Width = codes "width"
name_of ZIndex = codes "z-index"

-- its number: the place of its name in the order by code point
abbrev pub number_of : PropertyId → ℕ
number_of BackgroundColor = 0
number_of Bottom = 1
number_of Color = 2
number_of Display = 3
number_of FontSize = 4
number_of Height = 5
number_of Left = 6
number_of LetterSpacing = 7
number_of MarginBottom = 8
number_of MarginLeft = 9
number_of MarginRight = 10
number_of MarginTop = 11
number_of Opacity = 12
number_of PaddingBottom = 13
number_of PaddingLeft = 14
number_of PaddingRight = 15
number_of PaddingTop = 16
number_of Right = 17
number_of Rotate = 18
number_of Top = 19
number_of Translate = 20
number_of Visibility = 21
number_of Width = 22
number_of ZIndex = 23

-- every property, by number
abbrev pub all_properties : List PropertyId
all_properties =
    BackgroundColor ∷ Bottom ∷ Color ∷ Display ∷ FontSize ∷ Height ∷ Left ∷ LetterSpacing ∷ MarginBottom ∷ MarginLeft ∷ MarginRight ∷ MarginTop ∷ Opacity ∷ PaddingBottom ∷ PaddingLeft ∷ PaddingRight ∷ PaddingTop ∷ Right ∷ Rotate ∷ Top ∷ Translate ∷ Visibility ∷ Width ∷ ZIndex ∷ []

-- the text is the property's name, whatever the ASCII case of its letters (CSS Syntax 3, "ASCII case-insensitive")
abbrev pub is_named : List ℕ → PropertyId → Bool
is_named text p = str_eq_ignore_ascii_case text (name_of p)

-- the property of this name
unfoldable pub property_named : List ℕ → Option PropertyId
property_named text = find (is_named text) all_properties
