-- Interpolation of computed values (Web Animations Level 1, "animating properties"; the "animation type" lines of the properties).
use Rattle.std.specs.Prelude.{ℕ, ℤ, pos, ◌≤ℤ◌, int_lt, Bool, true, false, ◌&&◌, ◌||◌, if◌then◌else◌, List, [], ◌∷◌, slice_index_or}
use Rattle.std.specs.Int.{int_min, int_max}
use Rattle.std.specs.Ordering.{int_eq}
use Rattle.fix_num.specs.declared.units.TheConstants.Bill.{ONE}
use Rattle.value_types.specs.Table.{fix, takes}
use Rattle.value_types.specs.declared.property.PropertyId.{PropertyId}
use Rattle.value_types.specs.declared.table.ValueKind.{ValueKind}
use Rattle.value_types.specs.declared.table.ValueKind.TheVariants as kind
use Rattle.value_types.specs.declared.value.Value.{Value}
use Rattle.value_types.specs.declared.value.Value.TheVariants as value
use Rattle.value_types.specs.declared.value.Visibility.{Visibility}
use Rattle.value_types.specs.declared.value.Visibility.TheVariants.{Visible, Hidden, Collapse}
use Rattle.interpolation.specs.Colors.{alpha_between, color_with}
use Rattle.interpolation.specs.Equality.{is_same}
use Rattle.interpolation.specs.Numbers.{number_between, integer_between}

-- ---- which values can be interpolated

-- the kind of a value
abbrev pub kind_of_value : Value → ValueKind
kind_of_value (value.Number n) = kind.Number
kind_of_value (value.Length px pct) = kind.Length
kind_of_value value.Auto = kind.Auto
kind_of_value (value.Int i) = kind.Int
kind_of_value (value.Color r g b a) = kind.Color
kind_of_value (value.Angle n) = kind.Angle
kind_of_value (value.Pair x_px x_pct y_px y_pct) = kind.Pair
kind_of_value value.Absent = kind.Absent
kind_of_value (value.Visible v) = kind.Visibility
kind_of_value (value.Display d) = kind.Display

-- not hidden and not collapsed
abbrev pub is_visible : Visibility → Bool
is_visible Visible = true
is_visible Hidden = false
is_visible Collapse = false

-- whether values of these kinds have a value on the way: numbers of one kind, none with an angle or a pair, colours, and
-- visibilities of which one is visible; auto, keywords of display and values of different kinds have none
abbrev pub are_interpolable : Value → Value → Bool
are_interpolable (value.Number m) (value.Number n) = true
are_interpolable (value.Length px pct) (value.Length px' pct') = true
are_interpolable (value.Int i) (value.Int j) = true
are_interpolable (value.Color r g b a) (value.Color r' g' b' a') = true
are_interpolable (value.Angle m) (value.Angle n) = true
are_interpolable (value.Angle m) value.Absent = true
are_interpolable (value.Pair x xp y yp) (value.Pair x' xp' y' yp') = true
are_interpolable (value.Pair x xp y yp) value.Absent = true
are_interpolable value.Absent (value.Angle n) = true
are_interpolable value.Absent (value.Pair x' xp' y' yp') = true
are_interpolable value.Absent value.Absent = true
are_interpolable (value.Visible v) (value.Visible w) = is_visible v || is_visible w
are_interpolable _ _ = false

-- whether two values of the property can be interpolated; what is no value of the property can't
abbrev pub is_interpolable : PropertyId → Value → Value → Bool
is_interpolable p a b = takes p (kind_of_value a) && takes p (kind_of_value b) && are_interpolable a b

-- ---- the value at an output

-- v beside w: none counts as the zero of w's kind (CSS Transforms 2, interpolation of translate and rotate)
abbrev pub counted_beside : Value → Value → Value
counted_beside (value.Angle n) value.Absent = value.Angle (fix 0)
counted_beside (value.Pair x xp y yp) value.Absent = value.Pair (fix 0) (fix 0) (fix 0) (fix 0)
counted_beside w v = v

-- visible all the way between the ends (Web Animations Level 1, animation of visibility)
abbrev pub visibility_between : Visibility → Visibility → ℤ → Visibility
visibility_between v w q = (if int_lt q (pos 0) then v else if int_lt ONE.0 q then w else Visible)

-- the value at output q between values of one kind, by their parts; other values stay: they are equal or can't be interpolated
abbrev pub by_parts : PropertyId → Value → Value → ℤ → Value
by_parts p (value.Number m) (value.Number n) q = value.Number (number_between p m n q)
by_parts p (value.Length px pct) (value.Length px' pct') q = value.Length (number_between p px px' q) (number_between p pct pct' q)
by_parts p (value.Int i) (value.Int j) q = value.Int (integer_between i j q)
by_parts p (value.Color r g b a) (value.Color r' g' b' a') q = color_with r g b a r' g' b' a' q (alpha_between a a' q)
by_parts p (value.Angle m) (value.Angle n) q = value.Angle (number_between p m n q)
by_parts p (value.Pair x xp y yp) (value.Pair x' xp' y' yp') q =
    value.Pair (number_between p x x' q) (number_between p xp xp' q) (number_between p y y' q) (number_between p yp yp' q)
by_parts p (value.Visible v) (value.Visible w) q = value.Visible (visibility_between v w q)
by_parts p a b q = a

-- the value of the property at output q, in billionths, between a and b: the ends at the ends, else by parts
unfoldable pub value_between : PropertyId → Value → Value → ℤ → Value
value_between p a b q =
    (if int_eq q (pos 0) || is_same a b then a
    else if int_eq q ONE.0 then b
    else by_parts p (counted_beside b a) (counted_beside a b) q)

-- ---- what lies between the ends

-- the numbers of a value: a colour's is its alpha, and keywords have none
abbrev pub components_of : Value → List ℤ
components_of (value.Number n) = n.0 ∷ []
components_of (value.Length px pct) = px.0 ∷ pct.0 ∷ []
components_of (value.Int i) = i ∷ []
components_of (value.Color r g b a) = a.0 ∷ []
components_of (value.Angle n) = n.0 ∷ []
components_of (value.Pair x_px x_pct y_px y_pct) = x_px.0 ∷ x_pct.0 ∷ y_px.0 ∷ y_pct.0 ∷ []
components_of _ = []

-- the k-th number of a value, or 0: so none counts as zero
abbrev pub component_at : ℕ → Value → ℤ
component_at k v = slice_index_or (components_of v) k (pos 0)

-- v lies between a and b
pub record IsBetween (a b v : ℤ) : Type 0 where
  pub low : int_min a b ≤ℤ v
  pub high : v ≤ℤ int_max a b
