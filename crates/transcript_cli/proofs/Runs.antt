-- Runs by what the words ask for.
use Rattle.std.proofs.Common.{◌≡◌, ◌≤◌, ℕ, refl, sym, ◌∙◌, ap, subst, inl, inr, arith}
use Rattle.std.specs.Prelude.{◌≢◌, ◌⊎◌, List, Option, None, Some, Err}
use Rattle.command_words.proofs.Readings.{one-saying}
use Rattle.command_words.specs.CommandLine.{IsReadingOf, Say}
use Rattle.command_words.specs.declared.words.Words.{Words}
use Rattle.command_words.specs.declared.words.WordsFault.{WordsFault}
use Rattle.command_words.specs.declared.words.WordsFault.TheVariants as fault
use Rattle.transcript_cli.specs.declared.status.Status.{Status}
use Rattle.transcript_cli.specs.declared.status.Status.TheVariants.{Done, Usage, WriteFault, NoMemory}
use Rattle.transcript_cli.specs.Demo.{IsDemo}
use Rattle.transcript_cli.specs.Replay.{Ends, IsReplay}
use Rattle.transcript_cli.specs.Run.{AskForDemo, IsRun, SayNothing}
use Rattle.transcript_cli.proofs.Endings.{nothing_done}

-- words that ask for a demonstration don't ask for none
some_or_none : (a b : Option ℕ) (seed : ℕ) → a ≡ b → a ≡ Some seed → b ≡ None → ⊥
some_or_none a b seed same is isnt = cc

same_seed : (a b : Option ℕ) (seed other : ℕ) → a ≡ b → a ≡ Some seed → b ≡ Some other → seed ≡ other
same_seed a b seed other same is other_is = cc

-- words that ask for no demonstration don't ask for one
pub no_demo : (words : List (List ℕ)) (w : Words) (seed : ℕ) → Say words w → w.demo ≡ None → AskForDemo words seed → ⊥
no_demo words w seed says none (v, says', asks) = some_or_none v.demo w.demo seed (ap (λ (x : Words). x.demo) (one-saying words v w says' says)) asks none

-- words that are refused say nothing
pub refused_words : (words : List (List ℕ)) (f : WordsFault) → f ≡ fault.Usage → IsReadingOf words (Err f) → SayNothing words
refused_words words f is reading = subst (λ (x : WordsFault). IsReadingOf words (Err x)) is reading

not_usage : (status : Status) → (status ≡ Done) ⊎ (status ≡ WriteFault) ⊎ (status ≡ NoMemory) → status ≢ Usage
not_usage status (inl is) e = cc
not_usage status (inr (inl is)) e = cc
not_usage status (inr (inr is)) e = cc

-- words of no form
pub usage_run : (words : List (List ℕ)) (script : Option (List ℕ)) (faults : ℕ) (ends : Ends) → SayNothing words → IsRun words Usage script script faults faults ends ends
usage_run words script faults ends none = record {
  usage = λ _. none;
  no_form = λ _. inl refl;
  replay = λ _. nothing_done _ _ _ _ (inl refl);
  demo = λ seed (w, says, asks). absurd (none w says);
}

-- want of memory while the words are read
pub unread_run : (words : List (List ℕ)) (script : Option (List ℕ)) (faults : ℕ) (ends : Ends) → IsRun words NoMemory script script faults faults ends ends
unread_run words script faults ends = record {
  usage = λ e. absurd (cc);
  no_form = λ _. inr refl;
  replay = λ _. nothing_done _ _ _ _ (inr refl);
  demo = λ seed asks. record {
    ends = inr (inr refl);
    done = λ e. absurd (cc);
    prefix = λ e. absurd (cc);
    write_fault = λ e. absurd (cc);
    no_memory = λ e. refl;
    complete = λ faults empty. inr refl;
    faults_later = omega arith;
    empty_writes_later = omega arith;
  };
}

-- a replay
pub replay_run : (words : List (List ℕ)) (w : Words) (status : Status) (script rest : Option (List ℕ)) (faults faults' : ℕ) (before now : Ends) → Say words w → w.demo ≡ None
    → status ≢ Usage → IsReplay status script rest faults faults' before now → IsRun words status script rest faults faults' before now
replay_run words w status script rest faults faults' before now says none is_none replayed = record {
  usage = λ e. absurd (is_none e);
  no_form = λ nothing. absurd (nothing w says);
  replay = λ _. replayed;
  demo = λ seed asks. absurd (no_demo words w seed says none asks);
}

-- a demonstration
pub demo_run : (words : List (List ℕ)) (w : Words) (seed : ℕ) (status : Status) (script rest : Option (List ℕ)) (faults faults' : ℕ) (before now : Ends) → Say words w → w.demo ≡ Some seed
    → IsDemo seed status before now → IsRun words status script rest faults faults' before now
demo_run words w seed status script rest faults faults' before now says asks shown = record {
  usage = λ e. absurd (not_usage status shown.ends e);
  no_form = λ nothing. absurd (nothing w says);
  replay = λ without. absurd (some_or_none w.demo w.demo seed refl asks (without w says));
  demo = λ seed' (v, says', asks').
      subst (λ (s : ℕ). IsDemo s status before now) (same_seed w.demo v.demo seed seed' (ap (λ (x : Words). x.demo) (one-saying words w v says says')) asks asks') shown;
}
