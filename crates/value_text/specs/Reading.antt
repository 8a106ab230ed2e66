-- The spellings as functions of the parts.
use Rattle.std.specs.Prelude.{◌≡◌, ℕ, ◌==◌, ℤ, pos, negsuc, Bool, false, if◌then◌else◌, List, [], ◌∷◌, codes, find, Option, None, Some, Result, Ok, Err, option_map, ⊤}
use Rattle.fix_num.specs.declared.units.Fix.{Fix}
use Rattle.token_parts.specs.Keywords.{is_keyword, look_up}
use Rattle.token_parts.specs.Parts.{TokenPart, Ident, Function, Hash, Number, Percent, Dimension, Comma, Close, Other}
use Rattle.token_parts.specs.declared.fault.ValueFault.{ValueFault}
use Rattle.token_parts.specs.declared.fault.ValueFault.TheVariants.{Unsupported, BoundItems, Bound, NoMemory}
use Rattle.value_types.specs.Keywords.{display_named, visibility_named}
use Rattle.value_types.specs.Table.{takes, is_inherited}
use Rattle.value_types.specs.Validity.{declared_range_of}
use Rattle.value_types.specs.declared.declared.Declared.{Declared}
use Rattle.value_types.specs.declared.declared.Declared.TheVariants as declared
use Rattle.value_types.specs.declared.declared.Size.{Size}
use Rattle.value_types.specs.declared.declared.Unit.{«Unit»}
use Rattle.value_types.specs.declared.declared.Unit.TheVariants as unit
use Rattle.value_types.specs.declared.property.PropertyId.{PropertyId}
use Rattle.value_types.specs.declared.table.ValueKind.{ValueKind}
use Rattle.value_types.specs.declared.table.ValueKind.TheVariants as kind
use Rattle.value_types.specs.declared.range.ValueRange.{ValueRange}
use Rattle.value_types.specs.declared.range.ValueRange.TheVariants.{All}
use Rattle.value_text.specs.declared.cascade.Keyword.{Keyword}
use Rattle.value_text.specs.ColorReading.{color_of}
use Rattle.value_text.specs.NumberReading.{integer_in, number_in}
use Rattle.value_text.specs.Sizes.{length_units, zero_pixels}
use Rattle.value_text.specs.Spelling.{cascade_keyword, declared_color, declared_by, declared_percent}

-- ---- steps

-- what a reading gives, seen otherwise
abbrev pub reading_map : {A B : Type 0} → (A → B) → Result A ValueFault → Result B ValueFault
reading_map f (Ok x) = Ok (f x)
reading_map f (Err fault) = Err fault

-- a value, or nothing that is supported
abbrev pub or_unsupported : {A : Type 0} → Option A → Result A ValueFault
or_unsupported (Some x) = Ok x
or_unsupported None = Err Unsupported

-- two readings: what is unsupported in either comes before a bound
abbrev pub both : {A B C : Type 0} → (A → B → C) → Result A ValueFault → Result B ValueFault → Result C ValueFault
both f (Ok x) (Ok y) = Ok (f x y)
both f (Ok x) (Err fault) = Err fault
both f (Err fault) (Ok y) = Err fault
both f (Err Unsupported) (Err fault) = Err Unsupported
both f (Err BoundItems) (Err fault) = Err fault
both f (Err Bound) (Err fault) = Err fault
both f (Err NoMemory) (Err fault) = Err fault

-- ---- lengths and percents

-- so many millionths of the unit
abbrev pub size_of : «Unit» → Fix → Size
size_of u n = record { amount = n; unit = u }

-- the number with its unit, where the unit is one
abbrev pub with_unit : ValueRange → List ℕ → Option «Unit» → Result Size ValueFault
with_unit range text (Some u) = reading_map (size_of u) (number_in range text)
with_unit range text None = Err Unsupported

-- the number is 0
abbrev pub is_zero : ℤ → Bool
is_zero (pos n) = n == 0
is_zero (negsuc n) = false

-- the number 0 alone
abbrev pub zero_from : Result Fix ValueFault → Result Size ValueFault
zero_from (Ok n) = (if is_zero n.0 then Ok zero_pixels else Err Unsupported)
zero_from (Err fault) = Err Unsupported

-- the length that the part is
abbrev pub length_in : ValueRange → TokenPart → Result Size ValueFault
length_in range (Dimension text word) = with_unit range text (look_up length_units word)
length_in range (Number text) = zero_from (number_in range text)
length_in range _ = Err Unsupported

-- the percent that the part is
abbrev pub percent_in : ValueRange → TokenPart → Result Size ValueFault
percent_in range (Percent text) = reading_map (size_of unit.Percent) (number_in range text)
percent_in range _ = Err Unsupported

-- the part of a translation
abbrev pub part_in : TokenPart → Result Size ValueFault
part_in (Percent text) = percent_in All (Percent text)
part_in part = length_in All part

-- ---- values

-- the number that the parts are alone
abbrev pub lone_number : List TokenPart → Option (List ℕ)
lone_number (Number text ∷ []) = Some text
lone_number _ = None

-- the word that they are alone
abbrev pub lone_word : List TokenPart → Option (List ℕ)
lone_word (Ident word ∷ []) = Some word
lone_word _ = None

-- the part that they are alone
abbrev pub lone : List TokenPart → Option TokenPart
lone (part ∷ []) = Some part
lone _ = None

-- what is read of a part, where there is one
abbrev pub read_of : {A B : Type 0} → (A → Result B ValueFault) → Option A → Result B ValueFault
read_of f (Some x) = f x
read_of f None = Err Unsupported

-- a value that is the one keyword
abbrev pub keyword_in : List ℕ → Declared → List ℕ → Result Declared ValueFault
keyword_in keyword d word = (if is_keyword word keyword then Ok d else Err Unsupported)

-- the angle that the part is
abbrev pub angle_in : ValueRange → TokenPart → Result Declared ValueFault
angle_in range (Dimension text word) = (if is_keyword word (codes "deg") then reading_map declared.Angle (number_in range text) else Err Unsupported)
angle_in range _ = Err Unsupported

-- the one or two parts of a translation
abbrev pub pair_in : List TokenPart → Result Declared ValueFault
pair_in (x ∷ []) = reading_map (λ s. declared.Pair s zero_pixels) (part_in x)
pair_in (x ∷ y ∷ []) = both declared.Pair (part_in x) (part_in y)
pair_in _ = Err Unsupported

-- the value of this kind that the parts spell for the property
abbrev pub kind_in : PropertyId → ValueKind → List TokenPart → Result Declared ValueFault
kind_in p kind.Number parts = read_of (λ text. reading_map declared.Number (number_in (declared_range_of p) text)) (lone_number parts)
kind_in p kind.Length parts = read_of (λ part. reading_map declared.Length (length_in (declared_range_of p) part)) (lone parts)
kind_in p kind.Percent parts = read_of (λ part. reading_map (declared_percent p) (percent_in (declared_range_of p) part)) (lone parts)
kind_in p kind.Auto parts = read_of (keyword_in (codes "auto") declared.Auto) (lone_word parts)
kind_in p kind.Normal parts = read_of (keyword_in (codes "normal") (declared.Length zero_pixels)) (lone_word parts)
kind_in p kind.Int parts = read_of (λ text. reading_map declared.Int (integer_in text)) (lone_number parts)
kind_in p kind.Color parts = or_unsupported (option_map declared_color (color_of parts))
kind_in p kind.Angle parts = read_of (angle_in (declared_range_of p)) (lone parts)
kind_in p kind.Pair parts = pair_in parts
kind_in p kind.Absent parts = read_of (keyword_in (codes "none") declared.Absent) (lone_word parts)
kind_in p kind.Visibility parts = read_of (λ word. or_unsupported (option_map declared.Visible (visibility_named word))) (lone_word parts)
kind_in p kind.Display parts = read_of (λ word. or_unsupported (option_map declared.Display (display_named word))) (lone_word parts)

-- ---- the kind of a value

-- the kinds of values that begin with such a part
abbrev pub kinds_at : TokenPart → List ValueKind
kinds_at (Ident word) = kind.Auto ∷ kind.Normal ∷ kind.Color ∷ kind.Absent ∷ kind.Visibility ∷ kind.Display ∷ []
kinds_at (Function name) = kind.Color ∷ []
kinds_at (Hash name) = kind.Color ∷ []
kinds_at (Number text) = kind.Number ∷ kind.Length ∷ kind.Int ∷ kind.Pair ∷ []
kinds_at (Percent text) = kind.Percent ∷ kind.Pair ∷ []
kinds_at (Dimension text word) = kind.Length ∷ kind.Angle ∷ kind.Pair ∷ []
kinds_at Comma = []
kinds_at Close = []
kinds_at Other = []

-- the kind of value that the property's row names and that begins so
abbrev pub kind_at : PropertyId → List TokenPart → Option ValueKind
kind_at p [] = None
kind_at p (part ∷ ps) = find (takes p) (kinds_at part)

-- what the parts declare, where they are no keyword of the cascade
unfoldable pub value_in : PropertyId → List TokenPart → Result Declared ValueFault
value_in p parts = read_of (λ k. kind_in p k parts) (kind_at p parts)

-- what the parts declare, given the keyword of the cascade that they are
abbrev pub declared_in : PropertyId → List TokenPart → Option Keyword → Result Declared ValueFault
declared_in p parts (Some k) = or_unsupported (declared_by (is_inherited p) k)
declared_in p parts None = value_in p parts

-- what the parts declare
unfoldable pub declared_reading : PropertyId → List TokenPart → Result Declared ValueFault
declared_reading p parts = declared_in p parts (cascade_keyword parts)

-- the result is that reading, unless memory ran out
abbrev pub GivesReading : Result Declared ValueFault → Result Declared ValueFault → Type 0
GivesReading (Err NoMemory) reading = ⊤
GivesReading result reading = result ≡ reading
