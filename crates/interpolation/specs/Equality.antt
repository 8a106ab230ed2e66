-- Equality of computed values.
use Rattle.std.specs.Prelude.{ℕ, ◌==◌, Bool, true, false, ◌&&◌}
use Rattle.std.specs.Ordering.{int_eq}
use Rattle.value_types.specs.declared.value.Value.{Value}
use Rattle.value_types.specs.declared.value.Value.TheVariants as value
use Rattle.value_types.specs.declared.value.Visibility.{Visibility}
use Rattle.value_types.specs.declared.value.Visibility.TheVariants.{Visible, Hidden, Collapse}
use Rattle.value_types.specs.declared.value.Display.{Display}
use Rattle.value_types.specs.declared.value.Display.TheVariants as display

-- the place of a keyword of visibility in its list
abbrev pub visibility_number : Visibility → ℕ
visibility_number Visible = 0
visibility_number Hidden = 1
visibility_number Collapse = 2

-- the place of a keyword of display in its list
abbrev pub display_number : Display → ℕ
display_number display.Nothing = 0
display_number display.Block = 1
display_number display.Inline = 2
display_number display.InlineBlock = 3
display_number display.FlowRoot = 4
display_number display.ListItem = 5
display_number display.Flex = 6
display_number display.InlineFlex = 7
display_number display.Grid = 8
display_number display.InlineGrid = 9
display_number display.Table = 10
display_number display.Contents = 11

-- whether two values agree in all their parts
abbrev pub is_same : Value → Value → Bool
is_same (value.Number m) (value.Number n) = int_eq m.0 n.0
is_same (value.Length px pct) (value.Length px' pct') = int_eq px.0 px'.0 && int_eq pct.0 pct'.0
is_same value.Auto value.Auto = true
is_same (value.Int i) (value.Int j) = int_eq i j
is_same (value.Color r g b a) (value.Color r' g' b' a') = r == r' && g == g' && b == b' && int_eq a.0 a'.0
is_same (value.Angle m) (value.Angle n) = int_eq m.0 n.0
is_same (value.Pair x xp y yp) (value.Pair x' xp' y' yp') =
    int_eq x.0 x'.0 && int_eq xp.0 xp'.0 && int_eq y.0 y'.0 && int_eq yp.0 yp'.0
is_same value.Absent value.Absent = true
is_same (value.Visible v) (value.Visible w) = visibility_number v == visibility_number w
is_same (value.Display d) (value.Display e) = display_number d == display_number e
is_same _ _ = false
