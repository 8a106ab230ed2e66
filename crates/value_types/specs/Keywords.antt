-- The keywords of visibility and of display (CSS Display 3, "Invisibility: the visibility property", "Box Layout Modes: the
-- display property").
use Rattle.std.specs.Prelude.{ℕ, List, [], ◌∷◌, codes, find, Option}
use Rattle.std.specs.Str.{str_eq_ignore_ascii_case}
use Rattle.value_types.specs.declared.value.Display.{Display}
use Rattle.value_types.specs.declared.value.Display.TheVariants as display
use Rattle.value_types.specs.declared.value.Visibility.{Visibility}
use Rattle.value_types.specs.declared.value.Visibility.TheVariants as visibility

-- the keyword of a visibility
abbrev pub keyword_of_visibility : Visibility → List ℕ
keyword_of_visibility visibility.Visible = codes "visible"
keyword_of_visibility visibility.Hidden = codes "hidden"
keyword_of_visibility visibility.Collapse = codes "collapse"

-- every visibility
abbrev pub all_visibilities : List Visibility
all_visibilities = visibility.Visible ∷ visibility.Hidden ∷ visibility.Collapse ∷ []

-- the visibility of this keyword, whatever the ASCII case of its letters
abbrev pub visibility_named : List ℕ → Option Visibility
visibility_named word = find (λ v. str_eq_ignore_ascii_case word (keyword_of_visibility v)) all_visibilities

-- the keyword of a display
abbrev pub keyword_of_display : Display → List ℕ
keyword_of_display display.Nothing = codes "none"
keyword_of_display display.Block = codes "block"
keyword_of_display display.Inline = codes "inline"
keyword_of_display display.InlineBlock = codes "inline-block"
keyword_of_display display.FlowRoot = codes "flow-root"
keyword_of_display display.ListItem = codes "list-item"
keyword_of_display display.Flex = codes "flex"
keyword_of_display display.InlineFlex = codes "inline-flex"
keyword_of_display display.Grid = codes "grid"
keyword_of_display display.InlineGrid = codes "inline-grid"
keyword_of_display display.Table = codes "table"
keyword_of_display display.Contents = codes "contents"

-- every display
abbrev pub all_displays : List Display
all_displays =
    display.Nothing ∷ display.Block ∷ display.Inline ∷ display.InlineBlock ∷ display.FlowRoot ∷ display.ListItem ∷ display.Flex
    ∷ display.InlineFlex ∷ display.Grid ∷ display.InlineGrid ∷ display.Table ∷ display.Contents ∷ []

-- the display of this keyword, whatever the ASCII case of its letters
abbrev pub display_named : List ℕ → Option Display
display_named word = find (λ d. str_eq_ignore_ascii_case word (keyword_of_display d)) all_displays
