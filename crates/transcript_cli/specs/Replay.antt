-- What a whole run comes to.
use Rattle.std.specs.Prelude.{◌≡◌, ◌≢◌, ◌⊎◌, ℕ, ◌<◌, ◌≤◌, true, false, List, [], ◌∷◌, ◌++◌, length, take, IfSome, Option, Some}
use Rattle.std.specs.Io.{StartsWith}
use Rattle.std.specs.Io.KnownBytes.{Appends, Consumes}
use Rattle.text_io.specs.Causes.{Rose, RoseOrFull}
use Rattle.text_io.specs.Lines.{HasNoFeed}
use Rattle.text_io.specs.declared.limits.TheConstants.{LINE_FEED, MAX_INPUT}
use Rattle.transcript_cli.specs.declared.status.Status.{Status}
use Rattle.transcript_cli.specs.declared.status.Status.TheVariants.{Done, Refused, Usage, TooMuch, ReadFault, WriteFault, NoMemory}
use Rattle.transcript_cli.specs.Transcript.{transcript_of, has_refusal}

-- all was read and written
abbrev pub IsFinished : Status → Type 0
IsFinished status = (status ≡ Done) ⊎ (status ≡ Refused)

-- what a sink of this kind had before and has now: the bytes that it holds where it tells them, its count of faults, and its
-- count of empty writes
pub record Ends : Type 0 where
  pub bytes : Option (List ℕ)
  pub faults : ℕ
  pub empty_writes : ℕ

-- the first of these bytes were given and what was written are the first bytes of their transcript
pub record WritesPrefix (script rest : Option (List ℕ)) (before now : Option (List ℕ)) : Type 0 where
  pub given : List ℕ
  pub written : List ℕ
  pub gives : Consumes script rest given
  pub writes : Appends before now written
  pub prefix : StartsWith (transcript_of given) written

-- bytes that end in a line feed, or none
abbrev pub EndsLines : List ℕ → Type 0
EndsLines bytes = (bytes ≡ []) ⊎ ((body : List ℕ) × (bytes ≡ body ++ LINE_FEED ∷ []))

-- what was written is the transcript of the lines that end within the first bytes that may be read
pub record WritesWithin (script : List ℕ) (before now : Option (List ℕ)) : Type 0 where
  pub lines : List ℕ
  pub others : List ℕ
  pub split : take MAX_INPUT script ≡ lines ++ others
  pub ended : EndsLines lines
  pub unended : HasNoFeed others
  pub writes : Appends before now (transcript_of lines)

-- A run that read a source, which had this script left and now has the rest, where it tells its bytes, and wrote a sink.
pub record IsReplay (status : Status) (script rest : Option (List ℕ)) (source_before source_now : ℕ) (before now : Ends) : Type 0 where
  -- the order-independence theorem: what was written is the transcript of the script
  pub transcript : IsFinished status → IfSome script (λ bytes. Appends before.bytes now.bytes (transcript_of bytes))
  -- whether a line was refused
  pub done : status ≡ Done → IfSome script (λ bytes. has_refusal bytes ≡ false)
  pub refused : status ≡ Refused → IfSome script (λ bytes. has_refusal bytes ≡ true)
  -- all was read, and no more than may be
  pub read : IsFinished status → IfSome script (λ bytes. (rest ≡ Some []) × (length bytes ≤ MAX_INPUT))
  -- however it ended, what was written are the first bytes of the transcript of what was read
  pub prefix : IfSome script (λ bytes. WritesPrefix script rest before.bytes now.bytes)
  -- the source gave more than may be read, and the lines within the limit were answered
  pub too_much : status ≡ TooMuch → IfSome script (λ bytes. (given : List ℕ) × Consumes script rest given × (MAX_INPUT < length given))
  pub lines_within : status ≡ TooMuch → IfSome script (λ bytes. WritesWithin bytes before.bytes now.bytes)
  -- a fault has a cause
  pub read_fault : status ≡ ReadFault → Rose source_before source_now
  pub write_fault : status ≡ WriteFault → Rose before.faults now.faults ⊎ RoseOrFull before.empty_writes now.empty_writes
  -- and ends the run before the source gave more than may be read
  pub in_time : (status ≡ ReadFault) ⊎ (status ≡ WriteFault) → IfSome script (λ bytes. (given : List ℕ) × Consumes script rest given × (length given ≤ MAX_INPUT))
  -- with no cause of a fault, and no more than may be read, all is read and written unless memory runs out
  pub complete : status ≢ Usage → source_now ≡ source_before → now.faults ≡ before.faults → (RoseOrFull before.empty_writes now.empty_writes → ⊥)
      → IfSome script (λ bytes. length bytes ≤ MAX_INPUT → IsFinished status ⊎ (status ≡ NoMemory))
  -- no count falls
  pub source_later : source_before ≤ source_now
  pub faults_later : before.faults ≤ now.faults
  pub empty_writes_later : before.empty_writes ≤ now.empty_writes
