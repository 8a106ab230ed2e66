-- What a run comes to, by the words of its command line.
use Rattle.std.specs.Prelude.{◌≡◌, ◌⊎◌, ℕ, List, Option, None, Some}
use Rattle.command_words.specs.CommandLine.{Say}
use Rattle.command_words.specs.declared.words.Words.{Words}
use Rattle.transcript_cli.specs.declared.status.Status.{Status}
use Rattle.transcript_cli.specs.declared.status.Status.TheVariants.{Usage, NoMemory}
use Rattle.transcript_cli.specs.Demo.{IsDemo}
use Rattle.transcript_cli.specs.Replay.{Ends, IsReplay}

-- the words are of no form that the program takes
abbrev pub SayNothing : List (List ℕ) → Type 0
SayNothing words = (w : Words) → Say words w → ⊥

-- whatever they say, they ask for no demonstration
abbrev pub AskForNoDemo : List (List ℕ) → Type 0
AskForNoDemo words = (w : Words) → Say words w → w.demo ≡ None

-- they ask for the demonstration of this seed
abbrev pub AskForDemo : List (List ℕ) → ℕ → Type 0
AskForDemo words seed = (w : Words) × Say words w × (w.demo ≡ Some seed)

-- A run with these words, of a source and a sink. However many workers they ask for, it is the replay, or the demonstration, of one thread.
pub record IsRun (words : List (List ℕ)) (status : Status) (script rest : Option (List ℕ)) (source_before source_now : ℕ) (before now : Ends) : Type 0 where
  -- of words that are of no form nothing comes
  pub usage : status ≡ Usage → SayNothing words
  pub no_form : SayNothing words → (status ≡ Usage) ⊎ (status ≡ NoMemory)
  pub replay : AskForNoDemo words → IsReplay status script rest source_before source_now before now
  pub demo : (seed : ℕ) → AskForDemo words seed → IsDemo seed status before now
