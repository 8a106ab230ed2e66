-- A run from line to line, and how it ends.
use Rattle.std.proofs.Common.{◌≡◌, ◌≢◌, ℕ, ◌+◌, ◌-◌, ◌^◌, ◌<◌, ◌≤◌, min, refl, ap, sym, ◌∙◌, subst, arith, List, [], ◌∷◌, ◌++◌, append_assoc, append-nil, length, take, length-append, Bool, true, false, inl, inr, ◌⊎◌}
use Rattle.std.specs.Prelude.{◌||◌, Option, None, Some, IfSome}
use Rattle.std.specs.Io.KnownBytes.{Appends, Consumes}
use Rattle.std.proofs.KnownBytes.{Appends-nil}
use Rattle.restyle.specs.Worlds.{WorldParts, new_world}
use Rattle.text_io.specs.Causes.{Rose, RoseOrFull}
use Rattle.text_io.specs.Lines.{HasNoFeed, lines_of}
use Rattle.text_io.specs.Reader.{IsTaken, Reader, TakesLine, steps_left, stream_of}
use Rattle.text_io.specs.Told.{Told}
use Rattle.text_io.proofs.LineLemmas.{lines_of-nil}
use Rattle.text_io.proofs.ToldLemmas.{told_then}
use Rattle.transcript_cli.specs.declared.status.Status.{Status}
use Rattle.transcript_cli.specs.declared.status.Status.TheVariants.{Done, Refused, Usage, TooMuch, ReadFault, WriteFault, NoMemory}
use Rattle.transcript_cli.specs.Play.{AnswersLine, AreAnswered, BeginsWithLines, HasEnd, HasRead, IsPlaying}
use Rattle.transcript_cli.specs.Replay.{Ends, IsFinished, IsReplay, WritesPrefix}
use Rattle.transcript_cli.specs.Transcript.{answer_of, has_refusal, refuses_from, transcript_from, transcript_of}
use Rattle.transcript_cli.proofs.Frames.{frames_rise}
use Rattle.transcript_cli.proofs.Playing.{none_answered, none_before, none_behind, none_read, one_more_answered, one_more_read, piece_added}
use Rattle.transcript_cli.proofs.Prefixes.{begins, prefix_broken, prefix_kept, written_within}

-- at the start nothing was read
pub starts : (script : Option (List ℕ)) (reader : Reader) (w : WorldParts) (s : ℕ) (ends : Ends) → reader ≡ record { pending = []; taken = 0; fault = None; text = None } → w ≡ new_world
    → IsPlaying script script reader w 0 false s s ends ends
starts script reader w s ends reader_is world_is = record {
  lines = [];
  answered = subst (λ (x : WorldParts). AreAnswered [] ends.bytes ends.bytes x 0 false) (sym world_is) (none_answered ends.bytes);
  read = told script;
  within = omega (arith, taken);
  frames = omega (arith, ap (λ (x : WorldParts). x.frames) world_is);
  count = omega (arith, taken, ap (λ (r : Reader). length r.pending) reader_is);
  no_fault = ap (λ (r : Reader). r.fault) reader_is;
  source_later = omega arith;
  faults_later = omega arith;
  empty_writes_later = omega arith;
} where
  taken : reader.taken ≡ 0
  taken = ap (λ (r : Reader). r.taken) reader_is

  told : (bytes : Option (List ℕ)) → Told bytes bytes (HasRead [] reader)
  told None = tt
  told (Some bytes) = none_read bytes reader (ap (λ (r : Reader). r.pending) reader_is) taken

-- one line more
pub next : (script left left' : Option (List ℕ)) (reader reader' : Reader) (w w' : WorldParts) (number : ℕ) (refused is_refused : Bool) (piece : List ℕ) (s s' s'' : ℕ) (before now now' : Ends)
    → IsPlaying script left reader w number refused s s' before now
    → AnswersLine w (number + 1) reader reader' left left' is_refused piece w'
    → steps_left reader' < steps_left reader → reader'.fault ≡ None → reader'.taken ≤ 67108864 → s' ≤ s''
    → Appends now.bytes now'.bytes piece → now.faults ≤ now'.faults → now.empty_writes ≤ now'.empty_writes
    → IsPlaying script left' reader' w' (number + 1) (refused || is_refused) s s'' before now'
next script left left' reader reader' w w' number refused is_refused piece s s' s'' before now now' playing (line, takes, answer) shorter fault within later appends faults empties =
    record {
      lines = playing.lines ++ line ∷ [];
      answered = one_more_answered playing.lines line before.bytes now.bytes now'.bytes w w' number refused is_refused piece playing.answered answer appends;
      read = told_then script left left' (HasRead playing.lines reader) (TakesLine line reader.pending reader'.pending reader.taken reader'.taken) (HasRead (playing.lines ++ line ∷ []) reader')
          (λ x y z so_far took. one_more_read playing.lines line reader reader' x y z so_far took) playing.read takes;
      within = within;
      frames = let k = playing.frames in omega (arith, frames_rise w (number + 1) line, ap (λ (x : WorldParts). x.frames) answer.world_is);
      count = let k = playing.count in omega (arith, shorter);
      no_fault = fault;
      source_later = let k = playing.source_later in omega (arith, later);
      faults_later = let k = playing.faults_later in omega (arith, faults);
      empty_writes_later = let k = playing.empty_writes_later in omega (arith, empties);
    }

-- ---- what is known of the script, where the source tells it

always : {A : Type 0} (o : Option A) (Q : A → Type 0) → ((x : A) → Q x) → IfSome o Q
always None Q all = tt
always (Some x) Q all = all x

known : {A : Type 0} (o : Option A) (P Q : A → Type 0) → ((x : A) → P x → Q x) → IfSome o P → IfSome o Q
known None P Q step p = tt
known (Some x) P Q step p = step x p

-- the source gave so many bytes
abbrev Gave : ℕ → List ℕ → List ℕ → Type 0
Gave count before now = (given : List ℕ) × (before ≡ given ++ now) × (count ≡ length given)

gave : (lines : List (Option (List ℕ))) (reader reader' : Reader) (script left left' : Option (List ℕ)) → Told script left (HasRead lines reader)
    → Told left left' (IsTaken reader.taken reader'.taken) → Told script left' (Gave reader'.taken)
gave lines reader reader' script left left' read taken =
    told_then script left left' (HasRead lines reader) (IsTaken reader.taken reader'.taken) (Gave reader'.taken) (λ x y z so_far more. both x y z so_far more) read taken
  where
    both : (x y z : List ℕ) → HasRead lines reader x y → IsTaken reader.taken reader'.taken y z → Gave reader'.taken x z
    both x y z so_far (more, next, rise) = (
      so_far.given ++ more,
      so_far.gives ∙ ap (λ (rest : List ℕ). so_far.given ++ rest) next ∙ sym (append_assoc so_far.given more z),
      rise ∙ ap (λ (n : ℕ). n + length more) so_far.count ∙ sym (length-append so_far.given more),
    )

gave_in_time : (script left : Option (List ℕ)) (taken : ℕ) → taken ≤ 67108864 → Told script left (Gave taken)
    → IfSome script (λ bytes. (given : List ℕ) × Consumes script left given × (length given ≤ 67108864))
gave_in_time None left taken few told = tt
gave_in_time (Some script) None taken few told = absurd told
gave_in_time (Some script) (Some left) taken few (given, is, count) = (given, is, omega (arith, few, count))

gave_too_much : (script left : Option (List ℕ)) (taken : ℕ) → 67108864 < taken → Told script left (Gave taken)
    → IfSome script (λ bytes. (given : List ℕ) × Consumes script left given × (67108864 < length given))
gave_too_much None left taken more told = tt
gave_too_much (Some script) None taken more told = absurd told
gave_too_much (Some script) (Some left) taken more (given, is, count) = (given, is, omega (arith, more, count))

was_too_long : (script left : Option (List ℕ)) (taken : ℕ) (Q : Type 0) → 67108864 < taken → Told script left (Gave taken) → IfSome script (λ bytes. length bytes ≤ 67108864 → Q)
was_too_long None left taken Q more told = tt
was_too_long (Some script) None taken Q more told = absurd told
was_too_long (Some script) (Some left) taken Q more (given, is, count) = λ short. absurd (omega (arith, short, more, count, ap length is, length-append given left))

-- ---- the end of the script

-- all of the script was read, and these are its lines
record IsWhole (lines : List (Option (List ℕ))) (left : Option (List ℕ)) (taken : ℕ) (script : List ℕ) : Type 0 where
  lines_are : lines_of script ≡ lines
  none : left ≡ Some []
  count : taken ≡ length script

all_lines : (lines : List (Option (List ℕ))) (given pending left : List ℕ) → pending ≡ [] → BeginsWithLines given lines pending ⊎ ((left ≡ []) × (lines_of given ≡ lines ++ lines_of pending))
    → lines_of given ≡ lines
all_lines lines given pending left none (inl all) =
    ap lines_of (sym (append-nil given))
    ∙ all []
    ∙ ap (λ (ls : List (Option (List ℕ))). lines ++ ls) (ap lines_of (append-nil pending ∙ none) ∙ lines_of-nil)
    ∙ append-nil lines
all_lines lines given pending left none (inr ended) =
    ended.1 ∙ ap (λ (ls : List (Option (List ℕ))). lines ++ ls) (ap lines_of none ∙ lines_of-nil) ∙ append-nil lines

whole : (lines : List (Option (List ℕ))) (reader reader' : Reader) (script left left' : Option (List ℕ)) → Told script left (HasRead lines reader)
    → Told (stream_of reader left) (stream_of reader' left') (λ x y. (x ≡ []) × (y ≡ [])) → IfSome script (IsWhole lines left' reader.taken)
whole lines reader reader' None left left' read end = tt
whole lines reader reader' (Some script) None left' read end = absurd read
whole lines reader reader' (Some script) (Some left) None read end = absurd end
whole lines reader reader' (Some script) (Some left) (Some left') read end =
    let all : script ≡ read.given = read.gives ∙ ap (λ (bytes : List ℕ). read.given ++ bytes) (none_behind reader.pending left end.0) ∙ append-nil read.given in
    record {
      lines_are = ap lines_of all ∙ all_lines lines read.given reader.pending left (none_before reader.pending left end.0) read.lines_are;
      none = ap Some (none_behind reader'.pending left' end.1);
      count = read.count ∙ sym (ap length all);
    }

written_whole : (lines : List (Option (List ℕ))) (start held : Option (List ℕ)) (script : List ℕ) → lines_of script ≡ lines → Appends start held (transcript_from new_world 1 lines)
    → Appends start held (transcript_of script)
written_whole lines start held script e written = subst (λ (ls : List (Option (List ℕ))). Appends start held (transcript_from new_world 1 ls)) (sym e) written

prefix_whole : (lines : List (Option (List ℕ))) (taken : ℕ) (script left start held : Option (List ℕ)) → Appends start held (transcript_from new_world 1 lines)
    → IfSome script (IsWhole lines left taken) → IfSome script (λ bytes. WritesPrefix script left start held)
prefix_whole lines taken None left start held written all = tt
prefix_whole lines taken (Some script) left start held written all = record {
  given = script;
  written = transcript_of script;
  gives = subst (λ (rest : Option (List ℕ)). Consumes (Some script) rest script) (sym all.none) (sym (append-nil script));
  writes = written_whole lines start held script all.lines_are written;
  prefix = begins (transcript_of script) (transcript_of script) [] (sym (append-nil (transcript_of script)));
}

refusals_whole : (lines : List (Option (List ℕ))) (script : List ℕ) (refused told : Bool) → lines_of script ≡ lines → refused ≡ refuses_from new_world 1 lines → refused ≡ told
    → has_refusal script ≡ told
refusals_whole lines script refused told e is so = ap (refuses_from new_world 1) e ∙ sym is ∙ so

not_finished : (status : Status) → status ≢ Done → status ≢ Refused → IsFinished status → ⊥
not_finished status no_done no_refused (inl e) = no_done e
not_finished status no_done no_refused (inr e) = no_refused e

no_other : (status other : Status) → other ≢ Done → other ≢ Refused → IsFinished status → status ≡ other → ⊥
no_other status other no_done no_refused (inl e) is = no_done (sym is ∙ e)
no_other status other no_done no_refused (inr e) is = no_refused (sym is ∙ e)

no_line_left : (status : Status) → IsFinished status → (status ≡ ReadFault) ⊎ (status ≡ WriteFault) → ⊥
no_line_left status finished (inl e) = no_other status ReadFault (λ is. cc) (λ is. cc) finished e
no_line_left status finished (inr e) = no_other status WriteFault (λ is. cc) (λ is. cc) finished e

-- no line is left
pub finishes : (status : Status) (script left left' : Option (List ℕ)) (reader reader' : Reader) (w : WorldParts) (number : ℕ) (refused : Bool) (s s' s'' : ℕ) (before now : Ends)
    → IsPlaying script left reader w number refused s s' before now
    → Told (stream_of reader left) (stream_of reader' left') (λ x y. (x ≡ []) × (y ≡ [])) → s' ≤ s''
    → (status ≡ Refused → refused ≡ true) → (status ≡ Done → refused ≡ false) → IsFinished status
    → IsReplay status script left' s s'' before now
finishes status script left left' reader reader' w number refused s s' s'' before now playing end later is_refused is_done finished =
    let all = whole playing.lines reader reader' script left left' playing.read end in
    let written = playing.answered.written in
    let lines = playing.lines in
    let few = playing.within in
    record {
      transcript = λ _. known script (IsWhole lines left' reader.taken) _ (λ x is. written_whole lines before.bytes now.bytes x is.lines_are written) all;
      done = λ e. known script (IsWhole lines left' reader.taken) _ (λ x is. refusals_whole lines x refused false is.lines_are playing.answered.refused_is (is_done e)) all;
      refused = λ e. known script (IsWhole lines left' reader.taken) _ (λ x is. refusals_whole lines x refused true is.lines_are playing.answered.refused_is (is_refused e)) all;
      read = λ _. known script (IsWhole lines left' reader.taken) _ (λ x is. (is.none, omega (arith, is.count, few))) all;
      prefix = prefix_whole lines reader.taken script left' before.bytes now.bytes written all;
      too_much = λ e. absurd (no_other status TooMuch (λ is. cc) (λ is. cc) finished e);
      lines_within = λ e. absurd (no_other status TooMuch (λ is. cc) (λ is. cc) finished e);
      read_fault = λ e. absurd (no_other status ReadFault (λ is. cc) (λ is. cc) finished e);
      write_fault = λ e. absurd (no_other status WriteFault (λ is. cc) (λ is. cc) finished e);
      in_time = λ e. absurd (no_line_left status finished e);
      complete = λ _ _ _ _. always script _ (λ x short. inl finished);
      source_later = let k = playing.source_later in omega (arith, later);
      faults_later = playing.faults_later;
      empty_writes_later = playing.empty_writes_later;
    }

-- ---- a fault, or want of memory, while a line was read or answered

pub read_failed : (script left left' : Option (List ℕ)) (reader reader' : Reader) (w : WorldParts) (number : ℕ) (refused : Bool) (s s' s'' : ℕ) (before now : Ends)
    → IsPlaying script left reader w number refused s s' before now → Told left left' (IsTaken reader.taken reader'.taken) → reader'.taken ≤ 67108864 → Rose s' s''
    → IsReplay ReadFault script left' s s'' before now
read_failed script left left' reader reader' w number refused s s' s'' before now playing taken few rose =
    let sooner = playing.source_later in
    record {
      transcript = λ finished. absurd (not_finished ReadFault (λ is. cc) (λ is. cc) finished);
      done = λ e. absurd (cc);
      refused = λ e. absurd (cc);
      read = λ finished. absurd (not_finished ReadFault (λ is. cc) (λ is. cc) finished);
      prefix = prefix_kept playing.lines reader reader' script left left' before.bytes now.bytes playing.answered.written playing.read taken;
      too_much = λ e. absurd (cc);
      lines_within = λ e. absurd (cc);
      read_fault = λ _. omega (arith, rose, sooner);
      write_fault = λ e. absurd (cc);
      in_time = λ _. gave_in_time script left' reader'.taken few (gave playing.lines reader reader' script left left' playing.read taken);
      complete = λ _ same _ _. absurd (omega (arith, rose, sooner, same));
      source_later = omega (arith, rose, sooner);
      faults_later = playing.faults_later;
      empty_writes_later = playing.empty_writes_later;
    }

pub too_much_read : (script left left' : Option (List ℕ)) (reader reader' : Reader) (w : WorldParts) (number : ℕ) (refused : Bool) (s s' s'' : ℕ) (before now : Ends)
    → IsPlaying script left reader w number refused s s' before now → Told left left' (IsTaken reader.taken reader'.taken) → 67108864 < reader'.taken → s' ≤ s''
    → IfSome left (λ bytes. HasNoFeed (reader.pending ++ take (67108864 - reader.taken) bytes))
    → IsReplay TooMuch script left' s s'' before now
too_much_read script left left' reader reader' w number refused s s' s'' before now playing taken more later no_line =
    let given = gave playing.lines reader reader' script left left' playing.read taken in
    record {
      transcript = λ finished. absurd (not_finished TooMuch (λ is. cc) (λ is. cc) finished);
      done = λ e. absurd (cc);
      refused = λ e. absurd (cc);
      read = λ finished. absurd (not_finished TooMuch (λ is. cc) (λ is. cc) finished);
      prefix = prefix_kept playing.lines reader reader' script left left' before.bytes now.bytes playing.answered.written playing.read taken;
      too_much = λ _. gave_too_much script left' reader'.taken more given;
      lines_within = λ _. written_within playing.lines reader reader' script left left' before.bytes now.bytes playing.answered.written playing.read taken no_line playing.within more;
      read_fault = λ e. absurd (cc);
      write_fault = λ e. absurd (cc);
      in_time = λ e. absurd (elim e [ inl is ↦ cc | inr is ↦ cc ]);
      complete = λ _ _ _ _. was_too_long script left' reader'.taken _ more given;
      source_later = let k = playing.source_later in omega (arith, later);
      faults_later = playing.faults_later;
      empty_writes_later = playing.empty_writes_later;
    }

pub memory_ran_out : (script left left' : Option (List ℕ)) (reader reader' : Reader) (w : WorldParts) (number : ℕ) (refused : Bool) (s s' s'' : ℕ) (before now : Ends)
    → IsPlaying script left reader w number refused s s' before now → Told left left' (IsTaken reader.taken reader'.taken) → s' ≤ s''
    → IsReplay NoMemory script left' s s'' before now
memory_ran_out script left left' reader reader' w number refused s s' s'' before now playing taken later = record {
  transcript = λ finished. absurd (not_finished NoMemory (λ is. cc) (λ is. cc) finished);
  done = λ e. absurd (cc);
  refused = λ e. absurd (cc);
  read = λ finished. absurd (not_finished NoMemory (λ is. cc) (λ is. cc) finished);
  prefix = prefix_kept playing.lines reader reader' script left left' before.bytes now.bytes playing.answered.written playing.read taken;
  too_much = λ e. absurd (cc);
  lines_within = λ e. absurd (cc);
  read_fault = λ e. absurd (cc);
  write_fault = λ e. absurd (cc);
  in_time = λ e. absurd (elim e [ inl is ↦ cc | inr is ↦ cc ]);
  complete = λ _ _ _ _. always script _ (λ x short. inr refl);
  source_later = let k = playing.source_later in omega (arith, later);
  faults_later = playing.faults_later;
  empty_writes_later = playing.empty_writes_later;
}

-- why reading and answering a line ended the run
pub stops : (status : Status) (script left left' : Option (List ℕ)) (reader reader' : Reader) (w : WorldParts) (number : ℕ) (refused : Bool) (s s' s'' : ℕ) (before now : Ends)
    → IsPlaying script left reader w number refused s s' before now → Told left left' (IsTaken reader.taken reader'.taken) → s' ≤ s''
    → HasEnd status reader'.taken s' s'' → (status ≡ TooMuch → IfSome left (λ bytes. HasNoFeed (reader.pending ++ take (67108864 - reader.taken) bytes)))
    → IsReplay status script left' s s'' before now
stops ReadFault script left left' reader reader' w number refused s s' s'' before now playing taken later cause no_line =
    read_failed script left left' reader reader' w number refused s s' s'' before now playing taken cause.0 cause.1
stops TooMuch script left left' reader reader' w number refused s s' s'' before now playing taken later cause no_line =
    too_much_read script left left' reader reader' w number refused s s' s'' before now playing taken cause later (no_line refl)
stops NoMemory script left left' reader reader' w number refused s s' s'' before now playing taken later cause no_line =
    memory_ran_out script left left' reader reader' w number refused s s' s'' before now playing taken later
stops Done script left left' reader reader' w number refused s s' s'' before now playing taken later cause no_line = absurd cause
stops Refused script left left' reader reader' w number refused s s' s'' before now playing taken later cause no_line = absurd cause
stops Usage script left left' reader reader' w number refused s s' s'' before now playing taken later cause no_line = absurd cause
stops WriteFault script left left' reader reader' w number refused s s' s'' before now playing taken later cause no_line = absurd cause

-- ---- a fault while a piece was written

causes_earlier : (before now now' : Ends) → before.faults ≤ now.faults → before.empty_writes ≤ now.empty_writes
    → Rose now.faults now'.faults ⊎ RoseOrFull now.empty_writes now'.empty_writes → Rose before.faults now'.faults ⊎ RoseOrFull before.empty_writes now'.empty_writes
causes_earlier before now now' p q (inl rose) = let r : before.faults < now'.faults = omega (arith, p, rose) in inl r
causes_earlier before now now' p q (inr full) = let r : min (before.empty_writes + 1) (2 ^ 64 - 1) ≤ now'.empty_writes = omega (arith, q, full) in inr r

no_cause : (before now : Ends) → Rose before.faults now.faults ⊎ RoseOrFull before.empty_writes now.empty_writes → now.faults ≡ before.faults
    → (RoseOrFull before.empty_writes now.empty_writes → ⊥) → ⊥
no_cause before now (inl rose) same not_full = omega (arith, rose, same)
no_cause before now (inr full) same not_full = not_full full

pub write_failed : (script left left' : Option (List ℕ)) (reader reader' : Reader) (w w' : WorldParts) (number : ℕ) (refused is_refused : Bool) (piece : List ℕ) (n s s' s'' : ℕ) (before now now' : Ends)
    → IsPlaying script left reader w number refused s s' before now
    → AnswersLine w (number + 1) reader reader' left left' is_refused piece w'
    → Told left left' (IsTaken reader.taken reader'.taken) → reader'.taken ≤ 67108864 → s' ≤ s'' → Appends now.bytes now'.bytes (take n piece)
    → now.faults ≤ now'.faults → now.empty_writes ≤ now'.empty_writes → Rose now.faults now'.faults ⊎ RoseOrFull now.empty_writes now'.empty_writes
    → IsReplay WriteFault script left' s s'' before now'
write_failed script left left' reader reader' w w' number refused is_refused piece n s s' s'' before now now' playing (line, takes, answer) taken few later appends faults empties cause =
    let read = told_then script left left' (HasRead playing.lines reader) (TakesLine line reader.pending reader'.pending reader.taken reader'.taken) (HasRead (playing.lines ++ line ∷ []) reader')
    (λ x y z so_far took. one_more_read playing.lines line reader reader' x y z so_far took) playing.read takes in
    let causes = causes_earlier before now now' playing.faults_later playing.empty_writes_later cause in
    record {
      transcript = λ finished. absurd (not_finished WriteFault (λ is. cc) (λ is. cc) finished);
      done = λ e. absurd (cc);
      refused = λ e. absurd (cc);
      read = λ finished. absurd (not_finished WriteFault (λ is. cc) (λ is. cc) finished);
      prefix = prefix_broken playing.lines line reader' piece n script left' before.bytes now.bytes now'.bytes playing.answered.written read
          (piece_added playing.lines line w number piece playing.answered.world_is playing.answered.number_is answer.piece_is) appends;
      too_much = λ e. absurd (cc);
      lines_within = λ e. absurd (cc);
      read_fault = λ e. absurd (cc);
      write_fault = λ _. causes;
      in_time = λ _. gave_in_time script left' reader'.taken few (gave playing.lines reader reader' script left left' playing.read taken);
      complete = λ _ _ same not_full. absurd (no_cause before now' causes same not_full);
      source_later = let k = playing.source_later in omega (arith, later);
      faults_later = let k = playing.faults_later in omega (arith, faults);
      empty_writes_later = let k = playing.empty_writes_later in omega (arith, empties);
    }

-- ---- nothing was read or written

prefix_of_nothing : (script held : Option (List ℕ)) → IfSome script (λ bytes. WritesPrefix script script held held)
prefix_of_nothing None held = tt
prefix_of_nothing (Some script) held = record { given = []; written = []; gives = refl; writes = Appends-nil held; prefix = begins (transcript_of []) [] (transcript_of []) refl }

pub nothing_done : (status : Status) (script : Option (List ℕ)) (s : ℕ) (ends : Ends) → (status ≡ Usage) ⊎ (status ≡ NoMemory) → IsReplay status script script s s ends ends
nothing_done status script s ends (inl e) = record {
  transcript = λ finished. absurd (not_finished status (λ is. cc) (λ is. cc) finished);
  done = λ is. absurd (cc);
  refused = λ is. absurd (cc);
  read = λ finished. absurd (not_finished status (λ is. cc) (λ is. cc) finished);
  prefix = prefix_of_nothing script ends.bytes;
  too_much = λ is. absurd (cc);
  lines_within = λ is. absurd (cc);
  read_fault = λ is. absurd (cc);
  write_fault = λ is. absurd (cc);
  in_time = λ is. absurd (elim is [ inl a ↦ cc | inr a ↦ cc ]);
  complete = λ no_usage _ _ _. absurd (no_usage e);
  source_later = omega arith;
  faults_later = omega arith;
  empty_writes_later = omega arith;
}
nothing_done status script s ends (inr e) = record {
  transcript = λ finished. absurd (not_finished status (λ is. cc) (λ is. cc) finished);
  done = λ is. absurd (cc);
  refused = λ is. absurd (cc);
  read = λ finished. absurd (not_finished status (λ is. cc) (λ is. cc) finished);
  prefix = prefix_of_nothing script ends.bytes;
  too_much = λ is. absurd (cc);
  lines_within = λ is. absurd (cc);
  read_fault = λ is. absurd (cc);
  write_fault = λ is. absurd (cc);
  in_time = λ is. absurd (elim is [ inl a ↦ cc | inr a ↦ cc ]);
  complete = λ _ _ _ _. always script _ (λ x short. inr e);
  source_later = omega arith;
  faults_later = omega arith;
  empty_writes_later = omega arith;
}
