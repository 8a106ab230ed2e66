-- How a run goes on by one line.
use Rattle.std.proofs.Common.{◌≡◌, ℕ, ◌+◌, refl, ap, sym, ◌∙◌, subst, arith, List, [], ◌∷◌, ◌++◌, append_assoc, append-nil, length, length-append, Bool, false, inl, inr, ◌⊎◌}
use Rattle.std.specs.Prelude.{◌||◌, Option, None, Some}
use Rattle.std.specs.Io.KnownBytes.{Appends}
use Rattle.std.proofs.KnownBytes.{Appends-nil, Appends-trans}
use Rattle.restyle.specs.Worlds.{WorldParts, new_world}
use Rattle.text_io.specs.Lines.{lines_of}
use Rattle.text_io.specs.Reader.{BeginsWithLine, GivesLine, Reader, TakesLine}
use Rattle.transcript_cli.specs.Play.{AreAnswered, BeginsWithLines, HasRead, IsAnswered}
use Rattle.transcript_cli.specs.Transcript.{Answer, answer_of, refuses_from, transcript_from, world_from}
use Rattle.transcript_cli.proofs.ByParts.{left_more, refused_more, refuses_ends, transcript_ends, world_ends, written_more}

-- ---- what was answered

pub none_answered : (held : Option (List ℕ)) → AreAnswered [] held held new_world 0 false
none_answered held = record {
  written = subst (λ (text : List ℕ). Appends held held text) (sym (transcript_ends new_world 1)) (Appends-nil held);
  world_is = sym (world_ends new_world 1);
  number_is = refl;
  refused_is = sym (refuses_ends new_world 1);
}

-- the answer to the next line is the one after these
next_answer : (lines : List (Option (List ℕ))) (line : Option (List ℕ)) (w : WorldParts) (number : ℕ) → w ≡ world_from new_world 1 lines → number ≡ length lines
    → answer_of w (number + 1) line ≡ answer_of (world_from new_world 1 lines) (1 + length lines) line
next_answer lines line w number world_is number_is =
    let after : number + 1 ≡ 1 + length lines = omega arith in
    ap (λ (x : WorldParts). answer_of x (number + 1) line) world_is ∙ ap (λ (k : ℕ). answer_of (world_from new_world 1 lines) k line) after

-- and what it writes follows what they write
pub piece_added : (lines : List (Option (List ℕ))) (line : Option (List ℕ)) (w : WorldParts) (number : ℕ) (piece : List ℕ) → w ≡ world_from new_world 1 lines → number ≡ length lines
    → piece ≡ (answer_of w (number + 1) line).piece → transcript_from new_world 1 (lines ++ line ∷ []) ≡ transcript_from new_world 1 lines ++ piece
piece_added lines line w number piece world_is number_is piece_is =
    written_more new_world 1 lines line
    ∙ ap (λ (bytes : List ℕ). transcript_from new_world 1 lines ++ bytes) (sym (piece_is ∙ ap (λ (a : Answer). a.piece) (next_answer lines line w number world_is number_is)))

pub one_more_answered : (lines : List (Option (List ℕ))) (line : Option (List ℕ)) (start held held' : Option (List ℕ)) (w w' : WorldParts) (number : ℕ) (refused is_refused : Bool) (piece : List ℕ)
    → AreAnswered lines start held w number refused → IsAnswered (answer_of w (number + 1) line) is_refused [] piece w' → Appends held held' piece
    → AreAnswered (lines ++ line ∷ []) start held' w' (number + 1) (refused || is_refused)
one_more_answered lines line start held held' w w' number refused is_refused piece so_far answer appends =
    let same = next_answer lines line w number so_far.world_is so_far.number_is in
    record {
      written = subst (λ (bytes : List ℕ). Appends start held' bytes) (sym (piece_added lines line w number piece so_far.world_is so_far.number_is answer.piece_is))
          (Appends-trans start held held' (transcript_from new_world 1 lines) piece so_far.written appends);
      world_is = answer.world_is ∙ ap (λ (a : Answer). a.world) same ∙ sym (left_more new_world 1 lines line);
      number_is = let count = so_far.number_is in omega (arith, length-append lines (line ∷ []));
      refused_is =
          ap (λ (b : Bool). b || is_refused) so_far.refused_is
          ∙ ap (λ (b : Bool). refuses_from new_world 1 lines || b) (answer.refused_is ∙ ap (λ (a : Answer). a.refused) same)
          ∙ sym (refused_more new_world 1 lines line);
    }

-- ---- what was read

pub none_read : (script : List ℕ) (reader : Reader) → reader.pending ≡ [] → reader.taken ≡ 0 → HasRead [] reader script script
none_read script reader pending taken = record {
  given = [];
  gives = refl;
  count = taken;
  lines_are = inl (λ more. ap (λ (bytes : List ℕ). lines_of (bytes ++ more)) (sym pending));
}

-- the first line of what there is
first_line : (line : Option (List ℕ)) (bytes rest after : List ℕ) → BeginsWithLine bytes line rest ⊎ ((after ≡ []) × GivesLine line bytes rest) → GivesLine line bytes rest
first_line line bytes rest after (inl every) =
    ap lines_of (sym (append-nil bytes)) ∙ every [] ∙ ap (λ (xs : List ℕ). line ∷ lines_of xs) (append-nil rest)
first_line line bytes rest after (inr last) = last.1

pub none_behind : (xs ys : List ℕ) → xs ++ ys ≡ [] → ys ≡ []
none_behind [] ys e = e
none_behind (x ∷ xs) ys e = cc

pub none_before : (xs ys : List ℕ) → xs ++ ys ≡ [] → xs ≡ []
none_before [] ys e = refl
none_before (x ∷ xs) ys e = cc

-- where nothing was left, nothing more is given
ended_more : (lines : List (Option (List ℕ))) (line : Option (List ℕ)) (given pending pending' more left' : List ℕ) → more ++ left' ≡ []
    → lines_of given ≡ lines ++ lines_of pending → GivesLine line (pending ++ more) pending'
    → (left' ≡ []) × (lines_of (given ++ more) ≡ (lines ++ line ∷ []) ++ lines_of pending')
ended_more lines line given pending pending' more left' none so_far first =
    let nothing : more ≡ [] = none_before more left' none in (
      none_behind more left' none,
      ap (λ (bytes : List ℕ). lines_of (given ++ bytes)) nothing
          ∙ ap lines_of (append-nil given)
          ∙ so_far
          ∙ ap (λ (bytes : List ℕ). lines ++ lines_of bytes) (sym (ap (λ (bytes : List ℕ). pending ++ bytes) nothing ∙ append-nil pending))
          ∙ ap (λ (ls : List (Option (List ℕ))). lines ++ ls) first
          ∙ sym (append_assoc lines (line ∷ []) (lines_of pending')),
    )

lines_more : (lines : List (Option (List ℕ))) (line : Option (List ℕ)) (given pending pending' more left left' : List ℕ) → left ≡ more ++ left'
    → BeginsWithLines given lines pending ⊎ ((left ≡ []) × (lines_of given ≡ lines ++ lines_of pending))
    → BeginsWithLine (pending ++ more) line pending' ⊎ ((left' ≡ []) × GivesLine line (pending ++ more) pending')
    → BeginsWithLines (given ++ more) (lines ++ line ∷ []) pending' ⊎ ((left' ≡ []) × (lines_of (given ++ more) ≡ (lines ++ line ∷ []) ++ lines_of pending'))
lines_more lines line given pending pending' more left left' gives (inl all) (inl every) = inl (λ rest.
    ap lines_of (append_assoc given more rest)
    ∙ all (more ++ rest)
    ∙ ap (λ (ls : List (Option (List ℕ))). lines ++ ls) (ap lines_of (sym (append_assoc pending more rest)) ∙ every rest)
    ∙ sym (append_assoc lines (line ∷ []) (lines_of (pending' ++ rest))))
lines_more lines line given pending pending' more left left' gives (inl all) (inr last) = inr (
  last.0,
  all more ∙ ap (λ (ls : List (Option (List ℕ))). lines ++ ls) last.1 ∙ sym (append_assoc lines (line ∷ []) (lines_of pending')),
)
lines_more lines line given pending pending' more left left' gives (inr ended) now =
    inr (ended_more lines line given pending pending' more left' (sym gives ∙ ended.0) ended.1 (first_line line (pending ++ more) pending' left' now))

pub one_more_read : (lines : List (Option (List ℕ))) (line : Option (List ℕ)) (reader reader' : Reader) (script left left' : List ℕ) → HasRead lines reader script left
    → TakesLine line reader.pending reader'.pending reader.taken reader'.taken left left' → HasRead (lines ++ line ∷ []) reader' script left'
one_more_read lines line reader reader' script left left' so_far took = record {
  given = so_far.given ++ took.given;
  gives = so_far.gives ∙ ap (λ (bytes : List ℕ). so_far.given ++ bytes) took.gives ∙ sym (append_assoc so_far.given took.given left');
  count = let before = so_far.count in let now = took.count in omega (arith, length-append so_far.given took.given);
  lines_are = lines_more lines line so_far.given reader.pending reader'.pending took.given left left' took.gives so_far.lines_are took.line_is;
}
