-- A run between two lines.
use Rattle.std.specs.Prelude.{◌≡◌, ◌⊎◌, ℕ, ◌+◌, ◌*◌, ◌<◌, ◌≤◌, ⊤, Bool, List, [], ◌++◌, length, Option, None}
use Rattle.std.specs.Io.KnownBytes.{Appends}
use Rattle.restyle.specs.Worlds.{WorldParts, new_world}
use Rattle.text_io.specs.Causes.{Rose}
use Rattle.text_io.specs.Lines.{lines_of}
use Rattle.text_io.specs.Reader.{Reader, TakesLine, steps_left}
use Rattle.text_io.specs.Told.{Told}
use Rattle.text_io.specs.declared.limits.TheConstants.{MAX_INPUT}
use Rattle.transcript_cli.specs.declared.status.Status.{Status}
use Rattle.transcript_cli.specs.declared.status.Status.TheVariants.{Done, Refused, Usage, TooMuch, ReadFault, WriteFault, NoMemory}
use Rattle.transcript_cli.specs.Transcript.{Answer, answer_of, refuses_from, transcript_from, world_from}
use Rattle.transcript_cli.specs.Replay.{Ends}

-- ---- one line

-- this was answered: whether the line is refused, what it writes after what there was, and the world then
pub record IsAnswered (answer : Answer) (refused : Bool) (before after : List ℕ) (w : WorldParts) : Type 0 where
  pub refused_is : refused ≡ answer.refused
  pub piece_is : after ≡ before ++ answer.piece
  pub world_is : w ≡ answer.world

-- the next line was taken off the source's bytes and answered
abbrev pub AnswersLine : WorldParts → ℕ → Reader → Reader → Option (List ℕ) → Option (List ℕ) → Bool → List ℕ → WorldParts → Type 0
AnswersLine w number reader reader' before after refused piece w' =
    (line : Option (List ℕ)) × Told before after (TakesLine line reader.pending reader'.pending reader.taken reader'.taken)
    × IsAnswered (answer_of w number line) refused [] piece w'

-- why reading and answering a line ended the run
abbrev pub HasEnd : Status → ℕ → ℕ → ℕ → Type 0
HasEnd TooMuch taken faults_before faults_now = MAX_INPUT < taken
HasEnd ReadFault taken faults_before faults_now = (taken ≤ MAX_INPUT) × Rose faults_before faults_now
HasEnd NoMemory taken faults_before faults_now = ⊤
HasEnd Done taken faults_before faults_now = ⊥
HasEnd Refused taken faults_before faults_now = ⊥
HasEnd Usage taken faults_before faults_now = ⊥
HasEnd WriteFault taken faults_before faults_now = ⊥

-- ---- the lines so far

-- these lines were answered: what they write was written, and the world, the number of lines and whether one was refused are as they leave them
pub record AreAnswered (lines : List (Option (List ℕ))) (held_before held : Option (List ℕ)) (w : WorldParts) (number : ℕ) (refused : Bool) : Type 0 where
  pub written : Appends held_before held (transcript_from new_world 1 lines)
  pub world_is : w ≡ world_from new_world 1 lines
  pub number_is : number ≡ length lines
  pub refused_is : refused ≡ refuses_from new_world 1 lines

-- the lines of these bytes are the lines and then those of the rest, whatever follows both
abbrev pub BeginsWithLines : List ℕ → List (Option (List ℕ)) → List ℕ → Type 0
BeginsWithLines bytes lines rest = (more : List ℕ) → lines_of (bytes ++ more) ≡ lines ++ lines_of (rest ++ more)

-- the source gave some bytes of the script, whose lines are these and then those of the reader's bytes: whatever follows, or where nothing is left
pub record HasRead (lines : List (Option (List ℕ))) (reader : Reader) (script left : List ℕ) : Type 0 where
  pub given : List ℕ
  pub gives : script ≡ given ++ left
  pub count : reader.taken ≡ length given
  pub lines_are : BeginsWithLines given lines reader.pending ⊎ ((left ≡ []) × (lines_of given ≡ lines ++ lines_of reader.pending))

-- after so many lines, of which some were refused or none
pub record IsPlaying (script left : Option (List ℕ)) (reader : Reader) (w : WorldParts) (number : ℕ) (refused : Bool) (faults_before faults_now : ℕ) (before now : Ends) : Type 0 where
  pub lines : List (Option (List ℕ))
  pub answered : AreAnswered lines before.bytes now.bytes w number refused
  pub read : Told script left (HasRead lines reader)
  pub within : reader.taken ≤ MAX_INPUT
  pub frames : w.frames ≤ number
  pub count : number + steps_left reader ≤ 2 * (MAX_INPUT + 1)
  pub no_fault : reader.fault ≡ None
  pub source_later : faults_before ≤ faults_now
  pub faults_later : before.faults ≤ now.faults
  pub empty_writes_later : before.empty_writes ≤ now.empty_writes
