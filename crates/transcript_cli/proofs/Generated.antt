-- No line of a generated script is refused.
use Rattle.std.proofs.Common.{◌≡◌, ℕ, ◌+◌, refl, ap, sym, ◌∙◌, Bool, true, false, List, [], ◌∷◌}
use Rattle.std.proofs.lemmas.Bool.{and_parts, or_from}
use Rattle.std.specs.Prelude.{◌||◌, is_none, map, Option, None, Some, Result, Ok}
use Rattle.restyle.specs.Edits.{refusal_of}
use Rattle.restyle.specs.Worlds.{WorldParts, new_world}
use Rattle.script_commands.proofs.AcceptedLemmas.{script_accepted}
use Rattle.script_commands.proofs.ScriptLemmas.{script_read}
use Rattle.script_commands.specs.Accepted.{are_accepted, next_world}
use Rattle.script_commands.specs.Generated.{script_commands}
use Rattle.script_gen.proofs.ReadBackLemmas.{script_read_back}
use Rattle.script_gen.specs.Lines.{script_bytes, script_lines}
use Rattle.script_text.specs.Reading.{command_of}
use Rattle.script_text.specs.declared.command.Command.{Command}
use Rattle.script_text.specs.declared.command.Command.TheVariants.{Frame}
use Rattle.script_text.specs.declared.refusal.Refusal.{Refusal}
use Rattle.transcript_cli.specs.Transcript.{answer_of, answer_to, has_refusal, judged_answer, refuses_from, world_after}
use Rattle.transcript_cli.proofs.ByParts.{refuses_ends, refuses_next}

-- what a line is read as
abbrev accepted : Command → Result Command Refusal
accepted c = Ok c

no_refusal : (o : Option Refusal) → is_none o ≡ true → o ≡ None
no_refusal None h = refl
no_refusal (Some r) h = cc

same_world : (w : WorldParts) (c : Command) → world_after w c ≡ next_world w c
same_world w Frame = refl
same_world w c = refl

-- the answer to a line that is an accepted command
answer_to_accepted : (w : WorldParts) (n : ℕ) (line : List ℕ) (c : Command) → command_of line ≡ accepted c → refusal_of w c ≡ None
    → ((answer_of w n (Some line)).refused ≡ false) × ((answer_of w n (Some line)).world ≡ next_world w c)
unfolding answer_of
answer_to_accepted w n line c read free = (
  ap (λ r. (answer_to w n r).refused) read ∙ ap (λ o. (judged_answer w n c o).refused) free,
  ap (λ r. (answer_to w n r).world) read ∙ ap (λ o. (judged_answer w n c o).world) free ∙ same_world w c,
)

never_refused : (w : WorldParts) (n : ℕ) (lines : List (List ℕ)) (cs : List Command) → map command_of lines ≡ map accepted cs → are_accepted w cs ≡ true
    → refuses_from w n (map Some lines) ≡ false
never_refused w n [] cs read free = refuses_ends w n
never_refused w n (line ∷ lines) [] read free = cc
never_refused w n (line ∷ lines) (c ∷ cs) read free =
    let first : command_of line ≡ accepted c = cc in
    let rest : map command_of lines ≡ map accepted cs = cc in
    let parts = and_parts _ _ free in
    let answer = answer_to_accepted w n line c first (no_refusal (refusal_of w c) parts.0) in
    refuses_next w n (Some line) (map Some lines)
    ∙ or_from _ _ answer.0 (ap (λ v. refuses_from v (n + 1) (map Some lines)) answer.1 ∙ never_refused (next_world w c) (n + 1) lines cs rest parts.1)

pub generated_never_refused : (seed : ℕ) → has_refusal (script_bytes seed) ≡ false
generated_never_refused seed =
    ap (refuses_from new_world 1) (script_read_back seed)
    ∙ never_refused new_world 1 (script_lines seed) (script_commands seed) (script_read seed) (script_accepted seed)
