-- How the play of a generated script ends, and the line that tells of it.
use Rattle.std.proofs.Common.{◌≡◌, ◌≢◌, ℕ, ◌<◌, ◌≤◌, Bool, true, false, List, [], ◌++◌, append_assoc, length, length-append, sym, ap, ◌∙◌, arith, inl, inr, ◌⊎◌}
use Rattle.std.specs.Prelude.{Option, None, Some, codes, decimal}
use Rattle.std.specs.Io.KnownBytes.{Consumes}
use Rattle.std.specs.List.{count_by}
use Rattle.script_gen.specs.Forms.{is_frame_line}
use Rattle.script_gen.specs.Lines.{script_bytes, script_lines}
use Rattle.transcript_cli.specs.declared.status.Status.{Status}
use Rattle.transcript_cli.specs.declared.status.Status.TheVariants.{Refused, Usage, TooMuch, ReadFault}
use Rattle.transcript_cli.specs.Demo.{demo_line, event_count, event_count_of, line_of_demo}
use Rattle.transcript_cli.specs.Replay.{Ends, IsReplay}
use Rattle.transcript_cli.specs.Transcript.{has_refusal, transcript_of}
use Rattle.transcript_cli.proofs.Generated.{generated_never_refused}

-- a source gives no more than it had
gave_no_more : (script given : List ℕ) (rest : Option (List ℕ)) → Consumes (Some script) rest given → length given ≤ length script
gave_no_more script given None gave = absurd gave
gave_no_more script given (Some rest) gave = omega (arith, ap length gave, length-append given rest)

-- from a source that never fails a generated script is all read, and none of its lines is refused
pub never_so : (seed : ℕ) (status : Status) (script : List ℕ) (rest : Option (List ℕ)) (before now : Ends) → script ≡ script_bytes seed → length (script_bytes seed) ≤ 72000
    → IsReplay status (Some script) rest 0 0 before now → status ≢ Usage
    → (status ≡ Refused) ⊎ (status ≡ Usage) ⊎ (status ≡ TooMuch) ⊎ (status ≡ ReadFault) → ⊥
never_so seed status script rest before now is short replayed no_usage (inl refused) =
    let some : has_refusal script ≡ true = replayed.refused refused in
    let none : has_refusal script ≡ false = ap has_refusal is ∙ generated_never_refused seed in
    cc
never_so seed status script rest before now is short replayed no_usage (inr (inl usage)) = no_usage usage
never_so seed status script rest before now is short replayed no_usage (inr (inr (inl much))) =
    let (given, gave, over) = replayed.too_much much in
    omega (arith, over, gave_no_more script given rest gave, ap (λ (bytes : List ℕ). length bytes) is, short)
never_so seed status script rest before now is short replayed no_usage (inr (inr (inr fault))) = omega (arith, replayed.read_fault fault)

-- ---- the line

line_by_parts : (a b c d e f g h i j k : List ℕ)
    → a ++ (b ++ (c ++ (d ++ (e ++ (f ++ (g ++ (h ++ (i ++ (j ++ k))))))))) ≡ a ++ b ++ c ++ d ++ e ++ f ++ g ++ h ++ i ++ j ++ k
line_by_parts a b c d e f g h i j k = simp append_assoc

-- the line as it is written, with the counts that were found
pub line_written : (seed events cancels ends : ℕ) (counted transcript start line : List ℕ) → start ≡ []
    → line ≡ start ++ (codes "demo " ++ (decimal seed ++ (codes " frames " ++ (decimal 62 ++ (codes " events " ++ (decimal events ++ (codes " cancels " ++ (decimal cancels ++ (codes " ends " ++ (decimal ends ++ codes "\n"))))))))))
    → count_by is_frame_line (script_lines seed) ≡ 62
    → events ≡ event_count counted → cancels ≡ event_count_of (codes "transitioncancel") counted → ends ≡ event_count_of (codes "transitionend") counted
    → counted ≡ transcript → transcript ≡ transcript_of (script_bytes seed) → line ≡ demo_line seed
unfolding demo_line
line_written seed events cancels ends counted transcript start line empty written frames events_are cancels_are ends_are same is =
    let all = transcript_of (script_bytes seed) in
    let counted_is : counted ≡ all = same ∙ is in
    let e : events ≡ event_count all = events_are ∙ ap event_count counted_is in
    let k : cancels ≡ event_count_of (codes "transitioncancel") all = cancels_are ∙ ap (event_count_of (codes "transitioncancel")) counted_is in
    let d : ends ≡ event_count_of (codes "transitionend") all = ends_are ∙ ap (event_count_of (codes "transitionend")) counted_is in
    written
    ∙ ap (λ (text : List ℕ). text ++ (codes "demo " ++ (decimal seed ++ (codes " frames " ++ (decimal 62 ++ (codes " events " ++ (decimal events ++ (codes " cancels " ++ (decimal cancels ++ (codes " ends " ++ (decimal ends ++ codes "\n"))))))))))) empty
    ∙ line_by_parts (codes "demo ") (decimal seed) (codes " frames ") (decimal 62) (codes " events ") (decimal events) (codes " cancels ") (decimal cancels) (codes " ends ") (decimal ends) (codes "\n")
    ∙ ap (λ n. line_of_demo seed n events cancels ends) (sym frames)
    ∙ ap (λ n. line_of_demo seed (count_by is_frame_line (script_lines seed)) n cancels ends) e
    ∙ ap (λ n. line_of_demo seed (count_by is_frame_line (script_lines seed)) (event_count all) n ends) k
    ∙ ap (λ n. line_of_demo seed (count_by is_frame_line (script_lines seed)) (event_count all) (event_count_of (codes "transitioncancel") all) n) d
