-- What the answer to one line says.
use Rattle.std.proofs.Common.{◌≡◌, ℕ, refl, ap, subst, sym, List, [], Bool, true, false}
use Rattle.std.specs.Prelude.{Option, None, Some, Result, Ok, Err}
use Rattle.restyle.specs.Edits.{refusal_of}
use Rattle.restyle.specs.Worlds.{WorldParts}
use Rattle.script_text.specs.declared.command.Command.{Command}
use Rattle.script_text.specs.declared.command.Command.TheVariants.{Blank, Add, Insert, Remove, Id, Class, Style, Sheet, At, Frame, Get, List as Listing}
use Rattle.script_text.specs.declared.refusal.Refusal.{Refusal}
use Rattle.transcript_text.specs.Lines.{refused_line}
use Rattle.value_types.specs.declared.property.PropertyId.{PropertyId}
use Rattle.transcript_cli.specs.Transcript.{Answer, answer_of, answer_to, is_edit, judged_answer, output_of, reading_of}

-- ---- refused lines

judged_world : (w : WorldParts) (n : ℕ) (c : Command) (refusal : Option Refusal) → (judged_answer w n c refusal).refused ≡ true → (judged_answer w n c refusal).world ≡ w
judged_world w n c (Some r) e = refl
judged_world w n c None e = cc

read_world : (w : WorldParts) (n : ℕ) (reading : Result Command Refusal) → (answer_to w n reading).refused ≡ true → (answer_to w n reading).world ≡ w
read_world w n (Err r) e = refl
read_world w n (Ok c) e = judged_world w n c (refusal_of w c) e

pub refused_world : (w : WorldParts) (n : ℕ) (line : Option (List ℕ)) → (answer_of w n line).refused ≡ true → (answer_of w n line).world ≡ w
unfolding answer_of
refused_world w n line e = read_world w n (reading_of line) e

judged_piece : (w : WorldParts) (n : ℕ) (c : Command) (refusal : Option Refusal) → (judged_answer w n c refusal).refused ≡ true → (r : Refusal) × ((judged_answer w n c refusal).piece ≡ refused_line n r)
judged_piece w n c (Some r) e = (r, refl)
judged_piece w n c None e = absurd (cc)

read_piece : (w : WorldParts) (n : ℕ) (reading : Result Command Refusal) → (answer_to w n reading).refused ≡ true → (r : Refusal) × ((answer_to w n reading).piece ≡ refused_line n r)
read_piece w n (Err r) e = (r, refl)
read_piece w n (Ok c) e = judged_piece w n c (refusal_of w c) e

pub refused_piece : (w : WorldParts) (n : ℕ) (line : Option (List ℕ)) → (answer_of w n line).refused ≡ true → (r : Refusal) × ((answer_of w n line).piece ≡ refused_line n r)
unfolding answer_of
refused_piece w n line e = read_piece w n (reading_of line) e

-- ---- the number of the line

-- two answers that differ in a refusal's number alone
pub record AreAlike (a b : Answer) : Type 0 where
  pub world : a.world ≡ b.world
  pub refused : a.refused ≡ b.refused
  pub piece : a.refused ≡ false → a.piece ≡ b.piece

judged_alike : (w : WorldParts) (n m : ℕ) (c : Command) (refusal : Option Refusal) → AreAlike (judged_answer w n c refusal) (judged_answer w m c refusal)
judged_alike w n m c (Some r) = record { world = refl; refused = refl; piece = λ e. cc }
judged_alike w n m c None = record { world = refl; refused = refl; piece = λ e. refl }

read_alike : (w : WorldParts) (n m : ℕ) (reading : Result Command Refusal) → AreAlike (answer_to w n reading) (answer_to w m reading)
read_alike w n m (Err r) = record { world = refl; refused = refl; piece = λ e. cc }
read_alike w n m (Ok c) = judged_alike w n m c (refusal_of w c)

pub are_alike : (w : WorldParts) (n m : ℕ) (line : Option (List ℕ)) → AreAlike (answer_of w n line) (answer_of w m line)
unfolding answer_of
are_alike w n m line = read_alike w n m (reading_of line)

-- ---- commands

pub answer_read : (w : WorldParts) (n : ℕ) (line : Option (List ℕ)) (reading : Result Command Refusal) → reading_of line ≡ reading → answer_of w n line ≡ answer_to w n reading
unfolding answer_of
answer_read w n line reading e = ap (answer_to w n) e

nothing_written : (w : WorldParts) (c : Command) → is_edit c ≡ true → output_of w c ≡ []
nothing_written w Blank e = refl
nothing_written w (Add n parent tag) e = refl
nothing_written w (Insert n sibling tag) e = refl
nothing_written w (Remove n) e = refl
nothing_written w (Id n name) e = refl
nothing_written w (Class n names) e = refl
nothing_written w (Style n text) e = refl
nothing_written w (Sheet k text) e = refl
nothing_written w (At t) e = refl
nothing_written w Frame e = cc
nothing_written w (Get n p) e = cc
nothing_written w (Listing n) e = cc

judged_edit : (w : WorldParts) (n : ℕ) (c : Command) (refusal : Option Refusal) → is_edit c ≡ true → (judged_answer w n c refusal).refused ≡ false → (judged_answer w n c refusal).piece ≡ []
judged_edit w n c (Some r) e accepted = cc
judged_edit w n c None e accepted = nothing_written w c e

pub edit_writes_nothing : (w : WorldParts) (n : ℕ) (line : Option (List ℕ)) (c : Command) → reading_of line ≡ Ok c → is_edit c ≡ true → (answer_of w n line).refused ≡ false
    → (answer_of w n line).piece ≡ []
edit_writes_nothing w n line c is edits =
    subst (λ (a : Answer). a.refused ≡ false → a.piece ≡ []) (sym (answer_read w n line (Ok c) is)) (judged_edit w n c (refusal_of w c) edits)

judged_get : (w : WorldParts) (n k : ℕ) (p : PropertyId) (refusal : Option Refusal) → (judged_answer w n (Get k p) refusal).world ≡ w
judged_get w n k p (Some r) = refl
judged_get w n k p None = refl

pub get_keeps : (w : WorldParts) (n k : ℕ) (p : PropertyId) (line : Option (List ℕ)) → reading_of line ≡ Ok (Get k p) → (answer_of w n line).world ≡ w
get_keeps w n k p line is = subst (λ (a : Answer). a.world ≡ w) (sym (answer_read w n line (Ok (Get k p)) is)) (judged_get w n k p (refusal_of w (Get k p)))

judged_list : (w : WorldParts) (n k : ℕ) (refusal : Option Refusal) → (judged_answer w n (Listing k) refusal).world ≡ w
judged_list w n k (Some r) = refl
judged_list w n k None = refl

pub list_keeps : (w : WorldParts) (n k : ℕ) (line : Option (List ℕ)) → reading_of line ≡ Ok (Listing k) → (answer_of w n line).world ≡ w
list_keeps w n k line is = subst (λ (a : Answer). a.world ≡ w) (sym (answer_read w n line (Ok (Listing k)) is)) (judged_list w n k (refusal_of w (Listing k)))
