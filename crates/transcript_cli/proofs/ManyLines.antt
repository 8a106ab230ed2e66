-- What lines say together.
use Rattle.std.proofs.Common.{◌≡◌, ℕ, ◌+◌, refl, ap, sym, ◌∙◌, List, [], ◌∷◌, ◌++◌, length, Bool, true, false}
use Rattle.std.specs.Prelude.{◌||◌, Option, Ok}
use Rattle.restyle.specs.Worlds.{WorldParts, new_world}
use Rattle.script_text.specs.declared.command.Command.TheVariants.{Blank}
use Rattle.text_io.specs.Lines.{lines_of}
use Rattle.text_io.proofs.LawLemmas.{lines_of-joined}
use Rattle.transcript_cli.specs.Transcript.{Answer, answer_of, answer_to, reading_of, refuses_from, transcript_from, transcript_of, world_from}
use Rattle.transcript_cli.proofs.ByParts.{left_by_parts, refuses_ends, refuses_next, transcript_ends, transcript_next, world_ends, world_next, written_by_parts}
use Rattle.transcript_cli.proofs.OneLine.{AreAlike, answer_read, are_alike, refused_world}

pub bytes_by_parts : (first second : List ℕ) → transcript_of (first ++ 10 ∷ [] ++ second)
    ≡ transcript_of (first ++ 10 ∷ [])
    ++ transcript_from (world_from new_world 1 (lines_of (first ++ 10 ∷ []))) (1 + length (lines_of (first ++ 10 ∷ []))) (lines_of second)
bytes_by_parts first second = ap (transcript_from new_world 1) (lines_of-joined first second) ∙ written_by_parts new_world 1 (lines_of (first ++ 10 ∷ [])) (lines_of second)

-- ---- the numbers of lines

pub same_world : (w : WorldParts) (n m : ℕ) (lines : List (Option (List ℕ))) → world_from w n lines ≡ world_from w m lines
same_world w n m [] = world_ends w n ∙ sym (world_ends w m)
same_world w n m (line ∷ lines) =
    world_next w n line lines
    ∙ ap (λ (x : WorldParts). world_from x (n + 1) lines) (are_alike w n m line).world
    ∙ same_world (answer_of w m line).world (n + 1) (m + 1) lines
    ∙ sym (world_next w m line lines)

pub same_refusals : (w : WorldParts) (n m : ℕ) (lines : List (Option (List ℕ))) → refuses_from w n lines ≡ refuses_from w m lines
same_refusals w n m [] = refuses_ends w n ∙ sym (refuses_ends w m)
same_refusals w n m (line ∷ lines) =
    refuses_next w n line lines
    ∙ ap (λ (b : Bool). b || refuses_from (answer_of w n line).world (n + 1) lines) (are_alike w n m line).refused
    ∙ ap (λ (x : WorldParts). (answer_of w m line).refused || refuses_from x (n + 1) lines) (are_alike w n m line).world
    ∙ ap (λ (b : Bool). (answer_of w m line).refused || b) (same_refusals (answer_of w m line).world (n + 1) (m + 1) lines)
    ∙ sym (refuses_next w m line lines)

neither : (a b : Bool) → (a || b) ≡ false → (a ≡ false) × (b ≡ false)
neither true b e = absurd (cc)
neither false b e = (refl, e)

pub same_transcript : (w : WorldParts) (n m : ℕ) (lines : List (Option (List ℕ))) → refuses_from w n lines ≡ false → transcript_from w n lines ≡ transcript_from w m lines
same_transcript w n m [] none = transcript_ends w n ∙ sym (transcript_ends w m)
same_transcript w n m (line ∷ lines) none =
    let alike : AreAlike (answer_of w n line) (answer_of w m line) = are_alike w n m line in
    let both = neither (answer_of w n line).refused (refuses_from (answer_of w n line).world (n + 1) lines) (sym (refuses_next w n line lines) ∙ none) in
    transcript_next w n line lines
    ∙ ap (λ (text : List ℕ). text ++ transcript_from (answer_of w n line).world (n + 1) lines) (alike.piece both.0)
    ∙ ap (λ (text : List ℕ). (answer_of w m line).piece ++ text)
    (same_transcript (answer_of w n line).world (n + 1) (m + 1) lines both.1 ∙ ap (λ (x : WorldParts). transcript_from x (m + 1) lines) alike.world)
    ∙ sym (transcript_next w m line lines)

-- ---- lines that can be left out

pub without_refused : (w : WorldParts) (n : ℕ) (xs ys : List (Option (List ℕ))) (line : Option (List ℕ)) → (answer_of (world_from w n xs) (n + length xs) line).refused ≡ true
    → world_from w n (xs ++ line ∷ ys) ≡ world_from w n (xs ++ ys)
without_refused w n xs ys line refused =
    left_by_parts w n xs (line ∷ ys)
    ∙ world_next (world_from w n xs) (n + length xs) line ys
    ∙ ap (λ (x : WorldParts). world_from x (n + length xs + 1) ys) (refused_world (world_from w n xs) (n + length xs) line refused)
    ∙ same_world (world_from w n xs) (n + length xs + 1) (n + length xs) ys
    ∙ sym (left_by_parts w n xs ys)

blank_next : (w : WorldParts) (n : ℕ) (ys : List (Option (List ℕ))) (line : Option (List ℕ)) → reading_of line ≡ Ok Blank → transcript_from w n (line ∷ ys) ≡ transcript_from w (n + 1) ys
blank_next w n ys line is =
    transcript_next w n line ys ∙ ap (λ (a : Answer). a.piece ++ transcript_from a.world (n + 1) ys) (answer_read w n line (Ok Blank) is)

pub without_blank : (w : WorldParts) (n : ℕ) (xs ys : List (Option (List ℕ))) (line : Option (List ℕ)) → reading_of line ≡ Ok Blank
    → transcript_from w n (xs ++ line ∷ ys) ≡ transcript_from w n xs ++ transcript_from (world_from w n xs) (n + length xs + 1) ys
without_blank w n xs ys line is =
    written_by_parts w n xs (line ∷ ys) ∙ ap (λ (text : List ℕ). transcript_from w n xs ++ text) (blank_next (world_from w n xs) (n + length xs) ys line is)
