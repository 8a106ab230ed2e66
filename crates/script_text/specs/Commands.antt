-- Which command a line is, and why another line is none.
use Rattle.std.specs.Prelude.{◌≡◌, ◌≤◌, ◌≤ℤ◌, ℕ, pos, List, length, IfSome}
use Rattle.script_text.specs.declared.command.Command.{Command}
use Rattle.script_text.specs.declared.command.Command.TheVariants as command
use Rattle.script_text.specs.declared.refusal.Refusal.{Refusal}
use Rattle.script_text.specs.declared.refusal.Refusal.TheVariants.{Syntax, BoundNumber}
use Rattle.fix_num.specs.Decimal.{units_of}
use Rattle.fix_num.specs.declared.limits.TheConstants.{MAX_TIME}
use Rattle.script_text.specs.Bounds.{IsInBounds, IsNodeNumber, IsSheetNumber}
use Rattle.script_text.specs.Statements.{IsStatement, Statement, Nothing, Add, Insert, Remove, Id, Class, Style, Sheet, At, Frame, Get, Listing}

-- the command that a statement within its bounds is, its time in microseconds
abbrev pub command_from : Statement → Command
command_from Nothing = command.Blank
command_from (Add n parent tag) = command.Add n parent tag
command_from (Insert n sibling tag) = command.Insert n sibling tag
command_from (Remove n) = command.Remove n
command_from (Id n name) = command.Id n name
command_from (Class n names) = command.Class n names
command_from (Style n text) = command.Style n text
command_from (Sheet k text) = command.Sheet k text
command_from (At time) = command.At (record { 0 = pos (units_of 3 time) })
command_from Frame = command.Frame
command_from (Get n p) = command.Get n p
command_from (Listing n) = command.List n

-- the line is that command
abbrev pub IsCommand : List ℕ → Command → Type 0
IsCommand line c = (s : Statement) × IsStatement line s × IsInBounds s × (c ≡ command_from s)

-- the line is none: it isn't in the grammar, or one of its numbers is out of its bounds
abbrev pub IsRefused : List ℕ → Refusal → Type 0
IsRefused line Syntax = (s : Statement) → IsStatement line s → ⊥
IsRefused line BoundNumber = (s : Statement) × IsStatement line s × (IsInBounds s → ⊥)
IsRefused line _ = ⊥

-- ---- what holds of every command

-- each number of a node is 1 to MAX_NODE, that of a sheet 1 to MAX_SHEET, and the time 0 to MAX_TIME
abbrev pub AreInBounds : Command → Type 0
AreInBounds command.Blank = Unit {0}
AreInBounds (command.Add n parent tag) = IsNodeNumber n × IfSome parent IsNodeNumber
AreInBounds (command.Insert n sibling tag) = IsNodeNumber n × IsNodeNumber sibling
AreInBounds (command.Remove n) = IsNodeNumber n
AreInBounds (command.Id n name) = IsNodeNumber n
AreInBounds (command.Class n names) = IsNodeNumber n
AreInBounds (command.Style n text) = IsNodeNumber n
AreInBounds (command.Sheet k text) = IsSheetNumber k
AreInBounds (command.At time) = (pos 0 ≤ℤ time.0) × (time.0 ≤ℤ pos MAX_TIME)
AreInBounds command.Frame = Unit {0}
AreInBounds (command.Get n p) = IsNodeNumber n
AreInBounds (command.List n) = IsNodeNumber n

-- its text, if it has one, has at most so many bytes
abbrev pub IsNoLongerThan : ℕ → Command → Type 0
IsNoLongerThan most (command.Style n text) = length text ≤ most
IsNoLongerThan most (command.Sheet k text) = length text ≤ most
IsNoLongerThan most _ = Unit {0}
