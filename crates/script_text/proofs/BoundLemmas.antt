-- The bounds as tests.
use Rattle.std.proofs.Common.{◌≡◌, ℕ, ◌≤◌, true, refl, arith}
use Rattle.std.specs.Prelude.{IfSome, Option, Some, None}
use Rattle.std.proofs.lemmas.Bool.{and_from, and_parts, le-leb, leb-true}
use Rattle.std.proofs.lemmas.Int.{ints}
use Rattle.fix_num.specs.Decimal.{units_of}
use Rattle.fix_num.specs.declared.limits.TheConstants.{MAX_TIME}
use Rattle.script_text.specs.declared.limits.TheConstants.{MAX_NODE, MAX_SHEET}
use Rattle.script_text.specs.Bounds.{IsInBounds, IsNodeNumber, is_from_one_to, is_in_bounds, is_parent_number}
use Rattle.script_text.specs.Commands.{AreInBounds, command_from}
use Rattle.script_text.specs.Statements.{Statement, Nothing, Add, Insert, Remove, Id, Class, Style, Sheet, At, Frame, Get, Listing}

range_told : (most n : ℕ) → is_from_one_to most n ≡ true → (1 ≤ n) × (n ≤ most)
range_told most n h = (leb-true 1 n (and_parts _ _ h).0, leb-true n most (and_parts _ _ h).1)

range_is : (most n : ℕ) → (1 ≤ n) × (n ≤ most) → is_from_one_to most n ≡ true
range_is most n h = and_from _ _ (le-leb 1 n h.0) (le-leb n most h.1)

parent_told : (parent : Option ℕ) → is_parent_number parent ≡ true → IfSome parent IsNodeNumber
parent_told None h = tt
parent_told (Some n) h = range_told MAX_NODE n h

parent_is : (parent : Option ℕ) → IfSome parent IsNodeNumber → is_parent_number parent ≡ true
parent_is None h = refl
parent_is (Some n) h = range_is MAX_NODE n h

pub bounds_told : (s : Statement) → is_in_bounds s ≡ true → IsInBounds s
bounds_told Nothing h = tt
bounds_told (Add n parent tag) h = (range_told MAX_NODE n (and_parts _ _ h).0, parent_told parent (and_parts _ _ h).1)
bounds_told (Insert n sibling tag) h = (range_told MAX_NODE n (and_parts _ _ h).0, range_told MAX_NODE sibling (and_parts _ _ h).1)
bounds_told (Remove n) h = range_told MAX_NODE n h
bounds_told (Id n name) h = range_told MAX_NODE n h
bounds_told (Class n names) h = range_told MAX_NODE n h
bounds_told (Style n text) h = range_told MAX_NODE n h
bounds_told (Sheet k text) h = range_told MAX_SHEET k h
bounds_told (At time) h = ((and_parts _ _ h).0, leb-true (units_of 3 time) MAX_TIME (and_parts _ _ h).1)
bounds_told Frame h = tt
bounds_told (Get n p) h = range_told MAX_NODE n h
bounds_told (Listing n) h = range_told MAX_NODE n h

pub bounds_are : (s : Statement) → IsInBounds s → is_in_bounds s ≡ true
bounds_are Nothing h = refl
bounds_are (Add n parent tag) h = and_from _ _ (range_is MAX_NODE n h.0) (parent_is parent h.1)
bounds_are (Insert n sibling tag) h = and_from _ _ (range_is MAX_NODE n h.0) (range_is MAX_NODE sibling h.1)
bounds_are (Remove n) h = range_is MAX_NODE n h
bounds_are (Id n name) h = range_is MAX_NODE n h
bounds_are (Class n names) h = range_is MAX_NODE n h
bounds_are (Style n text) h = range_is MAX_NODE n h
bounds_are (Sheet k text) h = range_is MAX_SHEET k h
bounds_are (At time) h = and_from _ _ h.0 (le-leb (units_of 3 time) MAX_TIME h.1)
bounds_are Frame h = refl
bounds_are (Get n p) h = range_is MAX_NODE n h
bounds_are (Listing n) h = range_is MAX_NODE n h

-- the numbers of the command of a statement within its bounds
pub numbers_kept : (s : Statement) → IsInBounds s → AreInBounds (command_from s)
numbers_kept Nothing h = tt
numbers_kept (Add n parent tag) h = h
numbers_kept (Insert n sibling tag) h = h
numbers_kept (Remove n) h = h
numbers_kept (Id n name) h = h
numbers_kept (Class n names) h = h
numbers_kept (Style n text) h = h
numbers_kept (Sheet k text) h = h
numbers_kept (At time) h = let small = h.1 in (omega (arith, ints), omega (arith, ints))
numbers_kept Frame h = tt
numbers_kept (Get n p) h = h
numbers_kept (Listing n) h = h
