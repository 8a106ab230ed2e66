-- The shorthands of properties (CSS Cascade 5, "Shorthand Properties"; CSS Box 4, "Margin Shorthand: the margin property").
use Rattle.std.specs.Prelude.{nat_lt, if◌then◌else◌, List, [], ◌∷◌, ◌++◌, length, map, Option, None, Some, option_map, Result, Err}
use Rattle.token_parts.specs.Parts.{TokenPart}
use Rattle.token_parts.specs.declared.fault.ValueFault.{ValueFault}
use Rattle.token_parts.specs.declared.fault.ValueFault.TheVariants.{Unsupported}
use Rattle.value_types.specs.ListValues.{timing_lists}
use Rattle.value_types.specs.Shorthands.{longhands_of}
use Rattle.value_types.specs.Table.{is_inherited}
use Rattle.value_types.specs.declared.declared.Declared.{Declared}
use Rattle.value_types.specs.declared.list_value.ListName.{ListName}
use Rattle.value_types.specs.declared.list_value.ListValue.TheVariants.{Initial}
use Rattle.value_types.specs.declared.property.PropertyId.{PropertyId}
use Rattle.value_types.specs.declared.property.PropertyId.TheVariants.{BackgroundColor}
use Rattle.value_types.specs.declared.shorthand.Shorthand.{Shorthand}
use Rattle.value_types.specs.declared.shorthand.Shorthand.TheVariants as short
use Rattle.value_text.specs.Reading.{or_unsupported, value_in}
use Rattle.value_text.specs.Spelling.{cascade_keyword, declared_by}
use Rattle.value_text.specs.declared.cascade.Keyword.{Keyword}
use Rattle.shorthand_text.specs.Outcomes.{all_given, outcome_map, outcome_then}
use Rattle.shorthand_text.specs.declared.longhand.Longhand.{Longhand}
use Rattle.shorthand_text.specs.declared.longhand.Longhand.TheVariants as given
use Rattle.shorthand_text.specs.declared.sides.Sides.{Sides}

-- ---- keywords of the cascade

-- the property by the keyword, which it may not take
abbrev pub property_by : Keyword → PropertyId → Result Longhand ValueFault
property_by k p = or_unsupported (option_map (given.Property p) (declared_by (is_inherited p) k))

-- each list as it is initially: no list is inherited
abbrev pub initial_lists : List ListName → List Longhand
initial_lists names = map (λ name. given.List name Initial) names

-- `all` stands for the timing lists too
abbrev pub lists_in : Shorthand → List ListName
lists_in short.All = timing_lists
lists_in _ = []

-- a keyword of the cascade is given to each longhand, where each may take it
unfoldable pub keyword_in_all : Shorthand → Keyword → Result (List Longhand) ValueFault
keyword_in_all s k = outcome_map (λ given. given ++ initial_lists (lists_in s)) (all_given (map (property_by k) (longhands_of s)))

-- ---- the sides of a box

-- the values by side: one is that of all four; two are vertical and horizontal; three are top, horizontal, bottom; four are top, right,
-- bottom, left
abbrev pub sides_of : List Declared → Option Sides
sides_of (a ∷ []) = Some (record { bottom = a; left = a; right = a; top = a })
sides_of (v ∷ h ∷ []) = Some (record { bottom = v; left = h; right = h; top = v })
sides_of (t ∷ h ∷ b ∷ []) = Some (record { bottom = b; left = h; right = h; top = t })
sides_of (t ∷ r ∷ b ∷ l ∷ []) = Some (record { bottom = b; left = l; right = r; top = t })
sides_of _ = None

-- the value of a side, which is no keyword of the cascade: that stands alone
abbrev pub side_from : PropertyId → TokenPart → Option Keyword → Result Declared ValueFault
side_from p part (Some k) = Err Unsupported
side_from p part None = value_in p (part ∷ [])

-- the value that one part is for the property
abbrev pub side_in : PropertyId → TokenPart → Result Declared ValueFault
side_in p part = side_from p part (cascade_keyword (part ∷ []))

-- the values that the parts are, at most four
unfoldable pub sides_in : PropertyId → List TokenPart → Result Sides ValueFault
sides_in p parts =
    (if nat_lt 4 (length parts) then Err Unsupported
    else outcome_then (all_given (map (side_in p) parts)) (λ values. or_unsupported (sides_of values)))

-- the values of these properties, which are those of the bottom, left, right and top side, and have one row
abbrev pub box_in : List PropertyId → List TokenPart → Result (List Longhand) ValueFault
box_in (bottom ∷ left ∷ right ∷ top ∷ []) parts =
    outcome_map (λ s. given.Property bottom s.bottom ∷ given.Property left s.left ∷ given.Property right s.right ∷ given.Property top s.top ∷ [])
    (sides_in top parts)
box_in _ parts = Err Unsupported

-- ---- all shorthands of properties

-- what the parts declare, where they are no keyword of the cascade: `all` takes nothing else, `background` one colour
abbrev pub value_in_all : Shorthand → List TokenPart → Result (List Longhand) ValueFault
value_in_all short.All parts = Err Unsupported
value_in_all short.Background parts = outcome_map (λ d. given.Property BackgroundColor d ∷ []) (value_in BackgroundColor parts)
value_in_all s parts = box_in (longhands_of s) parts

-- what the parts declare, given the keyword of the cascade that they are
abbrev pub shorthand_from : Shorthand → List TokenPart → Option Keyword → Result (List Longhand) ValueFault
shorthand_from s parts (Some k) = keyword_in_all s k
shorthand_from s parts None = value_in_all s parts

-- what the parts declare of the longhands
unfoldable pub shorthand_in : Shorthand → List TokenPart → Result (List Longhand) ValueFault
shorthand_in s parts = shorthand_from s parts (cascade_keyword parts)
