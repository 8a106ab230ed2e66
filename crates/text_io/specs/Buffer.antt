-- The buffer of a reader of lines: what is read into it, and what is cut off its front.
use Rattle.std.specs.Prelude.{◌≡◌, ℕ, ◌+◌, ◌<◌, ◌≤◌, List, [], ◌++◌, length, take, slice_index, slice_range, Option, None, Some, ⊤}
use Rattle.std.specs.Io.KnownBytes.{Consumes}
use Rattle.text_io.specs.declared.buffer.Buffer.{Buffer}
use Rattle.text_io.specs.declared.buffer.TheConstants.{CAPACITY}
use Rattle.text_io.specs.declared.cut.Cut.{Cut}
use Rattle.text_io.specs.declared.cut.Cut.TheVariants.{Text, Long, End}
use Rattle.text_io.specs.declared.limits.TheConstants.{LINE_FEED, MAX_LINE}
use Rattle.text_io.specs.Lines.{HasNoFeed, lines_of}

-- the bytes that are in no line yet
abbrev pub pending_of : Buffer → List ℕ
pending_of buffer = slice_range buffer.bytes.items buffer.start buffer.end

-- the first line feed stands at this place
pub record IsFirstFeed (bytes : List ℕ) (at : ℕ) : Type 0 where
  pub within : at < length bytes
  pub clear : HasNoFeed (take at bytes)
  pub here : slice_index bytes at ≡ LINE_FEED

-- whatever follows them, the lines are the same
abbrev pub SameLines : List ℕ → List ℕ → Type 0
SameLines xs ys = (rest : List ℕ) → lines_of (xs ++ rest) ≡ lines_of (ys ++ rest)

-- a source with these bytes left before and now gave some more: they are counted, the lines are those of all bytes, and no
-- more bytes than these are kept
pub record Fills (old new : List ℕ) (taken taken' : ℕ) (before now : Option (List ℕ)) (given : List ℕ) : Type 0 where
  pub gives : Consumes before now given
  pub count : taken' ≡ taken + length given
  pub same : SameLines (old ++ given) new
  pub size : length new ≤ length old + length given

-- the line that was cut off, with its text in these bytes: None where there was none
abbrev pub line_of_cut : List ℕ → Cut → Option (Option (List ℕ))
line_of_cut bytes (Text span) = Some (Some (slice_range bytes span.from span.to))
line_of_cut bytes Long = Some None
line_of_cut bytes End = None

-- the text stands in the buffer, and is within a line's limit
abbrev pub IsWithin : Cut → Type 0
IsWithin (Text span) = (span.from ≤ span.to) × (span.to ≤ CAPACITY) × (span.to ≤ span.from + MAX_LINE)
IsWithin Long = ⊤
IsWithin End = ⊤
