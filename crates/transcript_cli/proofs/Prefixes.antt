-- What was written, and what was read.
use Rattle.std.proofs.Common.{◌≡◌, ◌≢◌, ℕ, ◌+◌, ◌-◌, ◌<◌, ◌≤◌, refl, ap, sym, ◌∙◌, subst, arith, List, [], ◌∷◌, ◌++◌, append_assoc, append-nil, length, take, drop, length-append, take-add, take-append-drop, inl, inr, ◌⊎◌, ⊎_elim}
use Rattle.std.specs.Prelude.{Option, None, Some, IfSome}
use Rattle.std.specs.Io.{StartsWith}
use Rattle.std.specs.Io.BufRead.{strip_last}
use Rattle.std.specs.Io.KnownBytes.{Appends, Consumes}
use Rattle.std.proofs.KnownBytes.{Appends-trans}
use Rattle.std.proofs.lemmas.Bool.{cases_eq}
use Rattle.std.proofs.lemmas.List.{drop_at, length_push, take_at}
use Rattle.std.proofs.lemmas.List.Elements.{All-cons, All-nil, All-same}
use Rattle.restyle.specs.Worlds.{WorldParts, new_world}
use Rattle.text_io.specs.Lines.{HasNoFeed, limited_text, lines_of}
use Rattle.text_io.specs.Reader.{IsTaken, Reader, TakesLine}
use Rattle.text_io.specs.Told.{Told}
use Rattle.text_io.proofs.LawLemmas.{lines_of-joined}
use Rattle.text_io.proofs.LineLemmas.{NotFeed, lines_of-line, lines_of-nil}
use Rattle.text_io.proofs.ToldLemmas.{told_then}
use Rattle.transcript_cli.specs.Play.{AreAnswered, BeginsWithLines, HasRead, IsAnswered}
use Rattle.transcript_cli.specs.Replay.{EndsLines, WritesPrefix, WritesWithin}
use Rattle.transcript_cli.specs.Transcript.{transcript_from, transcript_of, world_from}
use Rattle.transcript_cli.proofs.ByParts.{written_by_parts}

pub begins : (text prefix rest : List ℕ) → text ≡ prefix ++ rest → StartsWith text prefix
begins text prefix rest e = ap (take (length prefix)) e ∙ take_at prefix rest (length prefix) refl

-- the lines of what was given so far, and of some more, begin with the lines that were answered
lines_begin : (lines : List (Option (List ℕ))) (given pending more left left' : List ℕ) → left ≡ more ++ left'
    → BeginsWithLines given lines pending ⊎ ((left ≡ []) × (lines_of given ≡ lines ++ lines_of pending))
    → (others : List (Option (List ℕ))) × (lines_of (given ++ more) ≡ lines ++ others)
lines_begin lines given pending more left left' gives (inl all) = (lines_of (pending ++ more), all more)
lines_begin lines given pending more left left' gives (inr ended) =
    (lines_of pending, ap (λ (bytes : List ℕ). lines_of (given ++ bytes)) (nothing more left' (sym gives ∙ ended.0)) ∙ ap lines_of (append-nil given) ∙ ended.1)
  where
    nothing : (xs ys : List ℕ) → xs ++ ys ≡ [] → xs ≡ []
    nothing [] ys e = refl
    nothing (x ∷ xs) ys e = cc

-- and so their transcript
transcript_begins : (lines others : List (Option (List ℕ))) (given : List ℕ) → lines_of given ≡ lines ++ others
    → transcript_of given ≡ transcript_from new_world 1 lines ++ transcript_from (world_from new_world 1 lines) (1 + length lines) others
transcript_begins lines others given e = ap (transcript_from new_world 1) e ∙ written_by_parts new_world 1 lines others

-- ---- a run that ended while a line was read or answered

pub prefix_kept : (lines : List (Option (List ℕ))) (reader reader' : Reader) (script left left' start held : Option (List ℕ))
    → Appends start held (transcript_from new_world 1 lines) → Told script left (HasRead lines reader) → Told left left' (IsTaken reader.taken reader'.taken)
    → IfSome script (λ bytes. WritesPrefix script left' start held)
prefix_kept lines reader reader' None left left' start held written read taken = tt
prefix_kept lines reader reader' (Some script) None left' start held written read taken = absurd read
prefix_kept lines reader reader' (Some script) (Some left) None start held written read taken = absurd taken
prefix_kept lines reader reader' (Some script) (Some left) (Some left') start held written read (more, gives, count) =
    let lines_are = lines_begin lines read.given reader.pending more left left' gives read.lines_are in
    record {
      given = read.given ++ more;
      written = transcript_from new_world 1 lines;
      gives = read.gives ∙ ap (λ (bytes : List ℕ). read.given ++ bytes) gives ∙ sym (append_assoc read.given more left');
      writes = written;
      prefix = begins (transcript_of (read.given ++ more)) (transcript_from new_world 1 lines) _ (transcript_begins lines lines_are.0 (read.given ++ more) lines_are.1);
    }

-- ---- a run that ended while a piece was written

-- the first bytes of the last piece were written
pub prefix_broken : (lines : List (Option (List ℕ))) (line : Option (List ℕ)) (reader : Reader) (piece : List ℕ) (n : ℕ) (script left start held held' : Option (List ℕ))
    → Appends start held (transcript_from new_world 1 lines) → Told script left (HasRead (lines ++ line ∷ []) reader)
    → transcript_from new_world 1 (lines ++ line ∷ []) ≡ transcript_from new_world 1 lines ++ piece → Appends held held' (take n piece)
    → IfSome script (λ bytes. WritesPrefix script left start held')
prefix_broken lines line reader piece n None left start held held' written read more appends = tt
prefix_broken lines line reader piece n (Some script) None start held held' written read more appends = absurd read
prefix_broken lines line reader piece n (Some script) (Some left) start held held' written read more appends =
    let so_far = transcript_from new_world 1 lines in
    let lines_are = lines_begin (lines ++ line ∷ []) read.given reader.pending [] left left refl read.lines_are in
    let rest = transcript_from (world_from new_world 1 (lines ++ line ∷ [])) (1 + length (lines ++ line ∷ [])) lines_are.0 in
    let whole : transcript_of read.given ≡ (so_far ++ take n piece) ++ (drop n piece ++ rest) =
    ap transcript_of (sym (append-nil read.given))
    ∙ transcript_begins (lines ++ line ∷ []) lines_are.0 (read.given ++ []) lines_are.1
    ∙ ap (λ (text : List ℕ). text ++ rest) (more ∙ ap (λ (text : List ℕ). so_far ++ text) (sym (take-append-drop n piece)) ∙ sym (append_assoc so_far (take n piece) (drop n piece)))
    ∙ append_assoc (so_far ++ take n piece) (drop n piece) rest in
    record {
      given = read.given;
      written = so_far ++ take n piece;
      gives = read.gives;
      writes = Appends-trans start held held' so_far (take n piece) written appends;
      prefix = begins (transcript_of read.given) (so_far ++ take n piece) (drop n piece ++ rest) whole;
    }

-- ---- a run that ended at the limit of the input

-- bytes up to their last line feed, and the others
record Split (bytes : List ℕ) : Type 0 where
  lines : List ℕ
  others : List ℕ
  is : bytes ≡ lines ++ others
  ended : EndsLines lines
  unended : HasNoFeed others

more_in_front : (b : ℕ) (bytes : List ℕ) (rest : Split bytes) → EndsLines rest.lines → Split (b ∷ bytes)
more_in_front b bytes rest (inr (body, is)) = record {
  lines = b ∷ rest.lines;
  others = rest.others;
  is = ap (λ (xs : List ℕ). b ∷ xs) rest.is;
  ended = inr (b ∷ body, ap (λ (xs : List ℕ). b ∷ xs) is);
  unended = rest.unended;
}
more_in_front b bytes rest (inl none) = ⊎_elim
    (λ (feed : b ≡ 10). record {
      lines = b ∷ [];
      others = bytes;
      is = refl;
      ended = inr ([], ap (λ (x : ℕ). x ∷ []) feed);
      unended = clear;
    })
    (λ (other : b ≢ 10). record {
      lines = [];
      others = b ∷ bytes;
      is = refl;
      ended = inl refl;
      unended = All-cons NotFeed b bytes other clear;
    })
    (cases_eq b 10)
  where
    clear : HasNoFeed bytes
    clear = All-same NotFeed bytes rest.others (rest.is ∙ ap (λ (xs : List ℕ). xs ++ rest.others) none) rest.unended

split : (bytes : List ℕ) → Split bytes
split [] = record { lines = []; others = []; is = refl; ended = inl refl; unended = All-nil NotFeed }
split (b ∷ bytes) = let rest = split bytes in more_in_front b bytes rest rest.ended

-- the lines of ended lines and what follows
lines_joined : (lines rest : List ℕ) → EndsLines lines → lines_of (lines ++ rest) ≡ lines_of lines ++ lines_of rest
lines_joined lines rest (inl none) =
    ap (λ (xs : List ℕ). lines_of (xs ++ rest)) none
    ∙ sym (ap (λ (ls : List (Option (List ℕ))). ls ++ lines_of rest) (ap lines_of none ∙ lines_of-nil))
lines_joined lines rest (inr (body, is)) =
    ap (λ (xs : List ℕ). lines_of (xs ++ rest)) is ∙ lines_of-joined body rest ∙ ap (λ (xs : List ℕ). lines_of xs ++ lines_of rest) (sym is)

one_last : (body : List ℕ) → HasNoFeed body → (line : Option (List ℕ)) × (lines_of (body ++ 10 ∷ []) ≡ line ∷ [])
one_last body clear =
    (limited_text body (strip_last 13 body), lines_of-line body [] clear ∙ ap (λ (ls : List (Option (List ℕ))). limited_text body (strip_last 13 body) ∷ ls) lines_of-nil)

same_fronts : {A : Type 0} (xs ys : List A) (x y : A) → xs ++ x ∷ [] ≡ ys ++ y ∷ [] → xs ≡ ys
same_fronts xs ys x y e =
    let sizes : length xs ≡ length ys = omega (arith, length_push xs x, length_push ys y, ap length e) in
    sym (take_at xs (x ∷ []) (length xs) refl) ∙ ap (take (length xs)) e ∙ take_at ys (y ∷ []) (length xs) (sym sizes)

-- the lines that were answered are those of the bytes up to the last line feed, where no other line ends
lines_within : (lines : List (Option (List ℕ))) (given pending tail : List ℕ) → BeginsWithLines given lines pending → HasNoFeed (pending ++ tail)
    → (parts : Split (given ++ tail)) → lines_of parts.lines ≡ lines
lines_within lines given pending tail all clear parts =
    let here = one_last (pending ++ tail) clear in
    let there = one_last parts.others parts.unended in
    let so_far : lines_of (given ++ tail ++ 10 ∷ []) ≡ lines ++ here.0 ∷ [] =
    ap lines_of (append_assoc given tail (10 ∷ []))
    ∙ all (tail ++ 10 ∷ [])
    ∙ ap (λ (ls : List (Option (List ℕ))). lines ++ ls) (ap lines_of (sym (append_assoc pending tail (10 ∷ []))) ∙ here.1) in
    let again : lines_of (given ++ tail ++ 10 ∷ []) ≡ lines_of parts.lines ++ there.0 ∷ [] =
    ap (λ (xs : List ℕ). lines_of (xs ++ 10 ∷ [])) parts.is
    ∙ ap lines_of (append_assoc parts.lines parts.others (10 ∷ []))
    ∙ lines_joined parts.lines (parts.others ++ 10 ∷ []) parts.ended
    ∙ ap (λ (ls : List (Option (List ℕ))). lines_of parts.lines ++ ls) there.1 in
    same_fronts (lines_of parts.lines) lines there.0 here.0 (sym again ∙ so_far)

-- the bytes within the limit
front_of : (given left : List ℕ) (n k : ℕ) → n ≡ length given + k → take n (given ++ left) ≡ given ++ take k left
front_of given left n k e =
    ap (λ (m : ℕ). take m (given ++ left)) e
    ∙ take-add (length given) k (given ++ left)
    ∙ ap (λ (xs : List ℕ). xs ++ take k (drop (length given) (given ++ left))) (take_at given left (length given) refl)
    ∙ ap (λ (xs : List ℕ). given ++ take k xs) (drop_at given left (length given) refl)

written_by : (lines : List (Option (List ℕ))) (given pending tail : List ℕ) (start held : Option (List ℕ)) (script : List ℕ) → Appends start held (transcript_from new_world 1 lines)
    → BeginsWithLines given lines pending → HasNoFeed (pending ++ tail) → take 67108864 script ≡ given ++ tail → WritesWithin script start held
written_by lines given pending tail start held script written all clear front =
    let parts : Split (given ++ tail) = split (given ++ tail) in
    record {
      lines = parts.lines;
      others = parts.others;
      split = front ∙ parts.is;
      ended = parts.ended;
      unended = parts.unended;
      writes = subst (λ (ls : List (Option (List ℕ))). Appends start held (transcript_from new_world 1 ls)) (sym (lines_within lines given pending tail all clear parts)) written;
    }

none_given : (given left left' : List ℕ) → left ≡ given ++ left' → left ≡ [] → length given ≡ 0
none_given given left left' gives none = omega (arith, ap length (sym gives ∙ none), length-append given left')

pub written_within : (lines : List (Option (List ℕ))) (reader reader' : Reader) (script left left' start held : Option (List ℕ))
    → Appends start held (transcript_from new_world 1 lines) → Told script left (HasRead lines reader) → Told left left' (IsTaken reader.taken reader'.taken)
    → IfSome left (λ bytes. HasNoFeed (reader.pending ++ take (67108864 - reader.taken) bytes)) → reader.taken ≤ 67108864 → 67108864 < reader'.taken
    → IfSome script (λ bytes. WritesWithin bytes start held)
written_within lines reader reader' None left left' start held written read taken clear few more = tt
written_within lines reader reader' (Some script) None left' start held written read taken clear few more = absurd read
written_within lines reader reader' (Some script) (Some left) None start held written read taken clear few more = absurd taken
written_within lines reader reader' (Some script) (Some left) (Some left') start held written read (given, gives, count) clear few more =
    ⊎_elim
    (λ (all : BeginsWithLines read.given lines reader.pending).
    written_by lines read.given reader.pending (take (67108864 - reader.taken) left) start held script written all clear
    (ap (take 67108864) read.gives ∙ front_of read.given left 67108864 (67108864 - reader.taken) (let size = read.count in omega (arith, few))))
    (λ (ended : (left ≡ []) × (lines_of read.given ≡ lines ++ lines_of reader.pending)).
    absurd (omega (arith, none_given given left left' gives ended.0, count, few, more)))
    read.lines_are
