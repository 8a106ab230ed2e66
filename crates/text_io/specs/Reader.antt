-- What a reader of lines is seen as, and what its calls do.
use Rattle.std.specs.Prelude.{◌≡◌, ◌⊎◌, ℕ, ◌+◌, ◌-◌, ◌*◌, List, [], ◌∷◌, ◌++◌, length, Option}
use Rattle.std.specs.Io.KnownBytes.{prepend_known}
use Rattle.text_io.specs.declared.limits.TheConstants.{MAX_INPUT}
use Rattle.text_io.specs.declared.fault.LineFault.{LineFault}
use Rattle.text_io.specs.Lines.{lines_of}

-- a reader: the bytes that it was given and that are in no line yet, how many it was given, the fault that it met, and the
-- text of the last line where its last answer was a text
pub record Reader : Type 0 where
  pub pending : List ℕ
  pub taken : ℕ
  pub fault : Option LineFault
  pub text : Option (List ℕ)

-- the bytes that are in no line yet: the reader's, and then those that the source has left, where it tells them
abbrev pub stream_of : Reader → Option (List ℕ) → Option (List ℕ)
stream_of reader left = prepend_known reader.pending left

-- the lines before are this line and then the lines after
abbrev pub GivesLine : Option (List ℕ) → List ℕ → List ℕ → Type 0
GivesLine line before after = lines_of before ≡ line ∷ lines_of after

-- the lines of these bytes are this line and then those of the rest, whatever follows both
abbrev pub BeginsWithLine : List ℕ → Option (List ℕ) → List ℕ → Type 0
BeginsWithLine bytes line rest = (more : List ℕ) → GivesLine line (bytes ++ more) (rest ++ more)

-- the source gave some bytes, which are counted; the lines of the reader's bytes and these are this line and then those of the reader's bytes now:
-- whatever follows, or where nothing is left
pub record TakesLine (line : Option (List ℕ)) (old new : List ℕ) (taken taken' : ℕ) (before after : List ℕ) : Type 0 where
  pub given : List ℕ
  pub gives : before ≡ given ++ after
  pub count : taken' ≡ taken + length given
  pub line_is : BeginsWithLine (old ++ given) line new ⊎ ((after ≡ []) × GivesLine line (old ++ given) new)

-- the source gave as many bytes as the count of taken bytes rose by
abbrev pub IsTaken : ℕ → ℕ → List ℕ → List ℕ → Type 0
IsTaken old now before after = (given : List ℕ) × (before ≡ given ++ after) × (now ≡ old + length given)

-- more than the calls that a reader can still answer by a line
abbrev pub steps_left : Reader → ℕ
steps_left reader = 2 * (MAX_INPUT + 1 - reader.taken) + length reader.pending
