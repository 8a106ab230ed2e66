-- The bounds of a line's numbers.
use Rattle.std.specs.Prelude.{ℕ, ◌≤◌, Bool, true, ◌&&◌, nat_le, IsTrue, IfSome, Option, Some, None}
use Rattle.fix_num.specs.Decimal.{is_exact, units_of}
use Rattle.fix_num.specs.declared.limits.TheConstants.{MAX_TIME}
use Rattle.script_text.specs.declared.limits.TheConstants.{MAX_NODE, MAX_SHEET}
use Rattle.script_text.specs.Statements.{Statement, Nothing, Add, Insert, Remove, Id, Class, Style, Sheet, At, Frame, Get, Listing}

abbrev pub IsNodeNumber : ℕ → Type 0
IsNodeNumber n = (1 ≤ n) × (n ≤ MAX_NODE)

abbrev pub IsSheetNumber : ℕ → Type 0
IsSheetNumber k = (1 ≤ k) × (k ≤ MAX_SHEET)

-- each number of a node and of a sheet is one, and the time is a whole number of microseconds that is not too large
abbrev pub IsInBounds : Statement → Type 0
IsInBounds Nothing = Unit {0}
IsInBounds (Add n parent tag) = IsNodeNumber n × IfSome parent IsNodeNumber
IsInBounds (Insert n sibling tag) = IsNodeNumber n × IsNodeNumber sibling
IsInBounds (Remove n) = IsNodeNumber n
IsInBounds (Id n name) = IsNodeNumber n
IsInBounds (Class n names) = IsNodeNumber n
IsInBounds (Style n text) = IsNodeNumber n
IsInBounds (Sheet k text) = IsSheetNumber k
IsInBounds (At time) = IsTrue (is_exact 3 time) × (units_of 3 time ≤ MAX_TIME)
IsInBounds Frame = Unit {0}
IsInBounds (Get n p) = IsNodeNumber n
IsInBounds (Listing n) = IsNodeNumber n

-- ---- the same as functions

abbrev pub is_from_one_to : ℕ → ℕ → Bool
is_from_one_to most n = nat_le 1 n && nat_le n most

abbrev pub is_node_number : ℕ → Bool
is_node_number n = is_from_one_to MAX_NODE n

abbrev pub is_parent_number : Option ℕ → Bool
is_parent_number None = true
is_parent_number (Some n) = is_node_number n

abbrev pub is_in_bounds : Statement → Bool
is_in_bounds Nothing = true
is_in_bounds (Add n parent tag) = is_node_number n && is_parent_number parent
is_in_bounds (Insert n sibling tag) = is_node_number n && is_node_number sibling
is_in_bounds (Remove n) = is_node_number n
is_in_bounds (Id n name) = is_node_number n
is_in_bounds (Class n names) = is_node_number n
is_in_bounds (Style n text) = is_node_number n
is_in_bounds (Sheet k text) = is_from_one_to MAX_SHEET k
is_in_bounds (At time) = is_exact 3 time && nat_le (units_of 3 time) MAX_TIME
is_in_bounds Frame = true
is_in_bounds (Get n p) = is_node_number n
is_in_bounds (Listing n) = is_node_number n
