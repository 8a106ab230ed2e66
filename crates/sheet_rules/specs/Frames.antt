-- The frames of a keyframes rule (CSS Animations 1, section 3, "Keyframes").
use Rattle.std.specs.Prelude.{ℕ, ◌*◌, ◌^◌, ◌≤ℤ◌, ◌==◌, not, ℤ, pos, negsuc, Bool, true, false, ◌||◌, ◌&&◌, nat_lt, nat_le, if◌then◌else◌, List, [], ◌∷◌, find, fold, slice_get, codes, Option, None, Some, Result, Ok, Err}
use Rattle.std.specs.Option.{option_map_or}
use Rattle.std.specs.Int.Signed.{lt_z}
use Rattle.std.specs.Ordering.{int_eq}
use Rattle.fix_num.specs.Rounded.{rounded_reading_of}
use Rattle.fix_num.specs.declared.decimal.NumFault.{NumFault}
use Rattle.fix_num.specs.declared.units.Bill.{Bill}
use Rattle.token_parts.specs.Keywords.{is_keyword}
use Rattle.token_parts.specs.Parts.{TokenPart, Ident, Percent, Comma}
use Rattle.value_types.specs.Properties.{number_of}
use Rattle.timing_types.specs.Timing.{ease}
use Rattle.timing_types.specs.declared.easing.Easing.{Easing}
use Rattle.value_types.specs.declared.frame.Frame.{Frame}
use Rattle.value_types.specs.declared.list_value.ListName.TheVariants.{AnimationEasing}
use Rattle.value_types.specs.declared.list_value.ListValue.{ListValue}
use Rattle.value_types.specs.declared.list_value.ListValue.TheVariants.{Initial, Easings}
use Rattle.value_types.specs.declared.property.PropertyId.{PropertyId}
use Rattle.value_types.specs.declared.property.PropertyId.TheVariants as property
use Rattle.shorthand_text.specs.declared.longhand.Longhand.{Longhand}
use Rattle.shorthand_text.specs.declared.longhand.Longhand.TheVariants as given
use Rattle.sheet_types.specs.declared.declaration.DeclarationParts.{DeclarationParts}

-- ---- offsets

-- so many millionths of a percent are ten times as many billionths
abbrev pub offset_in : Result ℤ NumFault → Option Bill
offset_in (Ok (pos n)) = if nat_le n 100000000 then Some (record { 0 = pos (10 * n) }) else None
offset_in (Ok (negsuc n)) = None
offset_in (Err fault) = None

-- from 0 to 1
abbrev pub IsOffset : Bill → Type 0
IsOffset o = (pos 0 ≤ℤ o.0) × (o.0 ≤ℤ pos (10 ^ 9))

-- `from` and `to`
abbrev pub offset_named : List ℕ → Option Bill
offset_named word =
    if is_keyword word (codes "from") then Some (record { 0 = pos 0 })
    else (if is_keyword word (codes "to") then Some (record { 0 = pos 1000000000 }) else None)

-- an offset: `from`, `to`, or a percent from 0 to 100
abbrev pub offset_of : TokenPart → Option Bill
offset_of (Ident word) = offset_named word
offset_of (Percent number) = offset_in (rounded_reading_of 6 100000000 number)
offset_of _ = None

-- an offset before others
abbrev pub offset_before : Option Bill → Option (List Bill) → Option (List Bill)
offset_before (Some x) (Some xs) = Some (x ∷ xs)
offset_before _ _ = None

abbrev pub is_comma : TokenPart → Bool
is_comma Comma = true
is_comma _ = false

-- offsets, with a comma between each and the next
unfoldable pub offsets_of : List TokenPart → Option (List Bill)
offsets_of [] = None
offsets_of (p ∷ []) = offset_before (offset_of p) (Some [])
offsets_of (p ∷ q ∷ ps) = offset_before (offset_of p) (if is_comma q then offsets_of ps else None)

-- ---- the easing of a block

-- what a list of timing functions gives: its first item, or the initial value
abbrev pub first_easing : ListValue → Option Easing → Option Easing
first_easing (Easings (e ∷ es)) other = Some e
first_easing Initial other = Some ease
first_easing _ other = other

abbrev pub easing_given : Longhand → Option Easing → Option Easing
easing_given (given.List AnimationEasing v) other = first_easing v other
easing_given _ other = other

-- the easing of the last of the declarations that gives one, else the other
abbrev pub easing_of : Option Easing → List DeclarationParts → Option Easing
easing_of other ds = fold (λ easing d. easing_given d.longhand easing) other ds

-- ---- the frames of a rule

-- at a smaller offset, or at the same one with a smaller property number
abbrev pub stands_before : Frame → Frame → Bool
stands_before f g = lt_z f.offset.0 g.offset.0 ||
    (not (lt_z g.offset.0 f.offset.0) && nat_lt (number_of f.property) (number_of g.property))

-- a frame stands at the place, and the frame doesn't stand before it
abbrev pub is_taken : Frame → List Frame → ℕ → Bool
is_taken f gs at = option_map_or (λ g. not (stands_before f g)) (slice_get gs at) false

-- the frames with one more, which takes the place of that of its offset and property
unfoldable pub put_frame : Frame → List Frame → List Frame
put_frame f [] = f ∷ []
put_frame f (g ∷ gs) =
    if stands_before g f then g ∷ put_frame f gs
    else (if stands_before f g then f ∷ g ∷ gs else f ∷ gs)

-- what a longhand gives the frames at an offset: display isn't animated
abbrev pub put_longhand : Bill → Option Easing → Longhand → List Frame → List Frame
put_longhand at easing (given.Property property.Display d) fs = fs
put_longhand at easing (given.Property p d) fs = put_frame
    (record { offset = at; property = p; declared = d; easing = easing }) fs
put_longhand at easing (given.List name v) fs = fs

-- the declarations of a block at one offset, one after another
abbrev pub put_block : Bill → Option Easing → List DeclarationParts → List Frame → List Frame
put_block at easing ds fs = fold (λ fs d. put_longhand at easing d.longhand fs) fs ds

-- and at each of its offsets
abbrev pub put_blocks : List Bill → Option Easing → List DeclarationParts → List Frame → List Frame
put_blocks offsets easing ds fs = fold (λ fs at. put_block at easing ds fs) fs offsets

-- ---- what frames give

abbrev pub is_of : Bill → PropertyId → Frame → Bool
is_of at p f = int_eq f.offset.0 at.0 && (number_of f.property == number_of p)

-- the frame of the offset and the property, where there is one
abbrev pub frame_of : Bill → PropertyId → List Frame → Option Frame
frame_of at p fs = find (is_of at p) fs
