-- The demonstration: what the transcript of a generated script comes to, in one line.
use Rattle.std.specs.Prelude.{◌≡◌, ◌≢◌, ◌⊎◌, ℕ, ◌≤◌, ◌==◌, ◌&&◌, Bool, List, ◌++◌, length, take, codes, decimal}
use Rattle.std.specs.Io.KnownBytes.{Appends}
use Rattle.std.specs.List.{after_first, before_first, count_by}
use Rattle.std.specs.Str.{bytes_eq}
use Rattle.script_gen.specs.Forms.{is_frame_line}
use Rattle.script_gen.specs.Lines.{script_bytes, script_lines}
use Rattle.text_io.specs.Causes.{Rose, RoseOrFull}
use Rattle.text_io.specs.Lines.{cuts_of}
use Rattle.transcript_cli.specs.declared.status.Status.{Status}
use Rattle.transcript_cli.specs.declared.status.Status.TheVariants.{Done, WriteFault, NoMemory}
use Rattle.transcript_cli.specs.Replay.{Ends}
use Rattle.transcript_cli.specs.Transcript.{transcript_of}

-- ---- the events of a transcript

-- what stands before the first space of a line
abbrev pub before_space : List ℕ → List ℕ
before_space line = before_first (λ b. b == 32) line

-- what stands after it
abbrev pub after_space : List ℕ → List ℕ
after_space line = after_first (λ b. b == 32) line

-- the line tells an event: `event N KIND SUBJECT ELAPSED`
abbrev pub tells_event : List ℕ → Bool
tells_event line = bytes_eq (before_space line) (codes "event")

-- it tells an event of this kind
abbrev pub tells_event_of : List ℕ → List ℕ → Bool
tells_event_of kind line = tells_event line && bytes_eq (before_space (after_space (after_space line))) kind

-- how many lines of a transcript tell an event
abbrev pub event_count : List ℕ → ℕ
event_count transcript = count_by tells_event (cuts_of transcript)

-- how many tell one of this kind
abbrev pub event_count_of : List ℕ → List ℕ → ℕ
event_count_of kind transcript = count_by (tells_event_of kind) (cuts_of transcript)

-- ---- the line

-- `demo SEED frames F events E cancels C ends D`
abbrev pub line_of_demo : ℕ → ℕ → ℕ → ℕ → ℕ → List ℕ
line_of_demo seed frames events cancels ends =
    codes "demo " ++ decimal seed ++ codes " frames " ++ decimal frames ++ codes " events " ++ decimal events
    ++ codes " cancels " ++ decimal cancels ++ codes " ends " ++ decimal ends ++ codes "\n"

-- the line of a seed: the frames of its script, and of the script's transcript the events, those of them that tell that a
-- transition was cancelled, and those that tell that one ended
unfoldable pub demo_line : ℕ → List ℕ
demo_line seed =
    let transcript = transcript_of (script_bytes seed) in
    line_of_demo seed (count_by is_frame_line (script_lines seed)) (event_count transcript)
    (event_count_of (codes "transitioncancel") transcript) (event_count_of (codes "transitionend") transcript)

-- A demonstration that wrote a sink. It read nothing.
pub record IsDemo (seed : ℕ) (status : Status) (before now : Ends) : Type 0 where
  -- how it ends: no line of the script is refused
  pub ends : (status ≡ Done) ⊎ (status ≡ WriteFault) ⊎ (status ≡ NoMemory)
  -- the line was written
  pub done : status ≡ Done → Appends before.bytes now.bytes (demo_line seed)
  -- a prefix of it was written, with a cause
  pub prefix : status ≡ WriteFault → (n : ℕ) × (n ≤ length (demo_line seed)) × Appends before.bytes now.bytes (take n (demo_line seed))
  pub write_fault : status ≡ WriteFault → Rose before.faults now.faults ⊎ RoseOrFull before.empty_writes now.empty_writes
  -- nothing was written
  pub no_memory : status ≡ NoMemory → now ≡ before
  -- with no cause of a fault the line is written unless memory runs out
  pub complete : now.faults ≡ before.faults → (RoseOrFull before.empty_writes now.empty_writes → ⊥) → (status ≡ Done) ⊎ (status ≡ NoMemory)
  -- no count falls
  pub faults_later : before.faults ≤ now.faults
  pub empty_writes_later : before.empty_writes ≤ now.empty_writes
