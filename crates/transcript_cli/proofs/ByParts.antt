-- Lines one after the other.
use Rattle.std.proofs.Common.{◌≡◌, ℕ, ◌+◌, refl, ap, sym, ◌∙◌, arith, List, [], ◌∷◌, ◌++◌, append_assoc, append-nil, length, Bool, true, false}
use Rattle.std.specs.Prelude.{◌||◌, Option}
use Rattle.std.proofs.Math.Bool.{or_assoc}
use Rattle.restyle.specs.Worlds.{WorldParts}
use Rattle.transcript_cli.specs.Transcript.{Answer, transcript_from, refuses_from, world_from, answer_of}

pub transcript_next : (w : WorldParts) (n : ℕ) (line : Option (List ℕ)) (lines : List (Option (List ℕ)))
    → transcript_from w n (line ∷ lines) ≡ (answer_of w n line).piece ++ transcript_from (answer_of w n line).world (n + 1) lines
unfolding transcript_from
transcript_next w n line lines = refl

pub refuses_next : (w : WorldParts) (n : ℕ) (line : Option (List ℕ)) (lines : List (Option (List ℕ)))
    → refuses_from w n (line ∷ lines) ≡ ((answer_of w n line).refused || refuses_from (answer_of w n line).world (n + 1) lines)
unfolding refuses_from
refuses_next w n line lines = refl

pub world_next : (w : WorldParts) (n : ℕ) (line : Option (List ℕ)) (lines : List (Option (List ℕ)))
    → world_from w n (line ∷ lines) ≡ world_from (answer_of w n line).world (n + 1) lines
unfolding world_from
world_next w n line lines = refl

pub transcript_ends : (w : WorldParts) (n : ℕ) → transcript_from w n [] ≡ []
unfolding transcript_from
transcript_ends w n = refl

pub refuses_ends : (w : WorldParts) (n : ℕ) → refuses_from w n [] ≡ false
unfolding refuses_from
refuses_ends w n = refl

pub world_ends : (w : WorldParts) (n : ℕ) → world_from w n [] ≡ w
unfolding world_from
world_ends w n = refl

none_more : (n : ℕ) → n ≡ n + length {A = Option (List ℕ)} []
none_more n = omega arith

one_more : (n : ℕ) (line : Option (List ℕ)) (lines : List (Option (List ℕ))) → n + 1 + length lines ≡ n + length (line ∷ lines)
one_more n line lines = omega arith

-- ---- two parts

pub written_by_parts : (w : WorldParts) (n : ℕ) (xs ys : List (Option (List ℕ)))
    → transcript_from w n (xs ++ ys) ≡ transcript_from w n xs ++ transcript_from (world_from w n xs) (n + length xs) ys
written_by_parts w n [] ys = rw (transcript_ends, world_ends, ← none_more n) refl
written_by_parts w n (line ∷ xs) ys =
    let rest = written_by_parts (answer_of w n line).world (n + 1) xs ys in
    rw (transcript_next w n line (xs ++ ys), transcript_next w n line xs, world_next w n line xs, rest, append_assoc (answer_of w n line).piece, ← one_more n line xs) refl

pub refused_by_parts : (w : WorldParts) (n : ℕ) (xs ys : List (Option (List ℕ)))
    → refuses_from w n (xs ++ ys) ≡ (refuses_from w n xs || refuses_from (world_from w n xs) (n + length xs) ys)
refused_by_parts w n [] ys = rw (refuses_ends, world_ends, ← none_more n) refl
refused_by_parts w n (line ∷ xs) ys =
    let rest = refused_by_parts (answer_of w n line).world (n + 1) xs ys in
    rw (refuses_next w n line (xs ++ ys), refuses_next w n line xs, world_next w n line xs, rest, or_assoc (answer_of w n line).refused, ← one_more n line xs) refl

pub left_by_parts : (w : WorldParts) (n : ℕ) (xs ys : List (Option (List ℕ)))
    → world_from w n (xs ++ ys) ≡ world_from (world_from w n xs) (n + length xs) ys
left_by_parts w n [] ys = rw (world_ends, ← none_more n) refl
left_by_parts w n (line ∷ xs) ys =
    let rest = left_by_parts (answer_of w n line).world (n + 1) xs ys in
    rw (world_next w n line (xs ++ ys), world_next w n line xs, rest, ← one_more n line xs) refl

-- ---- one line more

or_false : (a : Bool) → (a || false) ≡ a
or_false true = refl
or_false false = refl

pub written_more : (w : WorldParts) (n : ℕ) (lines : List (Option (List ℕ))) (line : Option (List ℕ))
    → transcript_from w n (lines ++ line ∷ []) ≡ transcript_from w n lines ++ (answer_of (world_from w n lines) (n + length lines) line).piece
written_more w n lines line =
    let answer : Answer = answer_of (world_from w n lines) (n + length lines) line in
    written_by_parts w n lines (line ∷ [])
    ∙ ap (λ (text : List ℕ). transcript_from w n lines ++ text)
    (transcript_next (world_from w n lines) (n + length lines) line []
    ∙ ap (λ (text : List ℕ). answer.piece ++ text) (transcript_ends answer.world (n + length lines + 1)) ∙ append-nil answer.piece)

pub refused_more : (w : WorldParts) (n : ℕ) (lines : List (Option (List ℕ))) (line : Option (List ℕ))
    → refuses_from w n (lines ++ line ∷ []) ≡ (refuses_from w n lines || (answer_of (world_from w n lines) (n + length lines) line).refused)
refused_more w n lines line =
    let answer : Answer = answer_of (world_from w n lines) (n + length lines) line in
    refused_by_parts w n lines (line ∷ [])
    ∙ ap (λ (b : Bool). refuses_from w n lines || b)
    (refuses_next (world_from w n lines) (n + length lines) line []
    ∙ ap (λ (b : Bool). answer.refused || b) (refuses_ends answer.world (n + length lines + 1)) ∙ or_false answer.refused)

pub left_more : (w : WorldParts) (n : ℕ) (lines : List (Option (List ℕ))) (line : Option (List ℕ))
    → world_from w n (lines ++ line ∷ []) ≡ (answer_of (world_from w n lines) (n + length lines) line).world
left_more w n lines line =
    left_by_parts w n lines (line ∷ [])
    ∙ world_next (world_from w n lines) (n + length lines) line [] ∙ world_ends (answer_of (world_from w n lines) (n + length lines) line).world (n + length lines + 1)
