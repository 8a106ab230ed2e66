-- What lines without a frame keep of an element.
use Rattle.std.proofs.Common.{◌≡◌, ℕ, ◌+◌, refl, ap, sym, ◌∙◌, subst, List, [], ◌∷◌, Bool, true, false, inl, inr, ◌⊎◌, eqb-true}
use Rattle.std.specs.Prelude.{◌==◌, map, not, if◌then◌else◌, unwrap_or, Option, None, Some, Result, Ok, Err}
use Rattle.computed_style.specs.Styles.{value_of}
use Rattle.doc_tree.specs.Element.{Document, Element, is_in}
use Rattle.pass_core.specs.Passes.{value_for}
use Rattle.restyle.specs.Edits.{edited, refusal_of, refusal_of_question, sheet_found, with_sheet}
use Rattle.restyle.specs.StyleChanges.{entry_for}
use Rattle.restyle.specs.Worlds.{WorldParts, entries_of}
use Rattle.script_text.specs.declared.command.Command.{Command}
use Rattle.script_text.specs.declared.command.Command.TheVariants.{Blank, Add, Insert, Remove, Id, Class, Style, Sheet, At, Frame, Get, List as Listing}
use Rattle.script_text.specs.declared.refusal.Refusal.{Refusal}
use Rattle.script_text.specs.declared.refusal.Refusal.TheVariants.{UnknownNode, NoStyle}
use Rattle.style_data.specs.Entries.{EntryParts, fresh_entry}
use Rattle.transcript_text.specs.Lines.{value_line}
use Rattle.value_types.specs.declared.property.PropertyId.{PropertyId}
use Rattle.transcript_cli.specs.Laws.{HasNoFrame}
use Rattle.transcript_cli.specs.Listing.{listing_of}
use Rattle.transcript_cli.specs.Transcript.{answer_of, answer_to, judged_answer, output_of, reading_of, world_from}
use Rattle.transcript_cli.proofs.ByParts.{world_ends, world_next}

-- an entry stays, or is one that no frame has styled
abbrev Stays : EntryParts → EntryParts → Type 0
Stays before now = (now ≡ before) ⊎ (now.styled ≡ false)

stays_twice : (a b c : EntryParts) → Stays a b → Stays b c → Stays a c
stays_twice a b c first (inr fresh) = inr fresh
stays_twice a b c (inl same) (inl again) = inl (again ∙ same)
stays_twice a b c (inr fresh) (inl again) = inr (ap (λ (e : EntryParts). e.styled) again ∙ fresh)

-- the entry of an element of the document is found again
found_again : (entries : List (ℕ × EntryParts)) (elements : List Element) (k : ℕ)
    → Stays (entry_for entries k) (unwrap_or (value_for (map (λ e. (e.number, entry_for entries e.number)) elements) k) fresh_entry)
found_again entries [] k = inr refl
found_again entries (e ∷ es) k = by_test (e.number == k) refl (found_again entries es k) where
  by_test : (b : Bool) → (e.number == k) ≡ b → Stays (entry_for entries k) (unwrap_or (value_for (map (λ x. (x.number, entry_for entries x.number)) es) k) fresh_entry)
      → Stays (entry_for entries k) (unwrap_or (if b then Some (entry_for entries e.number) else value_for (map (λ x. (x.number, entry_for entries x.number)) es) k) fresh_entry)
  by_test true is rest = inl (ap (entry_for entries) (eqb-true e.number k is))
  by_test false is rest = rest

edit_stays : (w : WorldParts) (c : Command) (k : ℕ) → Stays (entry_for w.entries k) (entry_for (edited w c).entries k)
edit_stays w Blank k = inl refl
edit_stays w (Add n parent tag) k = found_again w.entries _ k
edit_stays w (Insert n sibling tag) k = found_again w.entries _ k
edit_stays w (Remove n) k = found_again w.entries _ k
edit_stays w (Id n name) k = found_again w.entries _ k
edit_stays w (Class n names) k = found_again w.entries _ k
edit_stays w (Style n text) k = found_again w.entries _ k
edit_stays w (Sheet i text) k =
    elim (sheet_found text) as (λ found. Stays (entry_for w.entries k) (entry_for (with_sheet w i found).entries k)) [ Ok sheet ↦ inl refl | Err fault ↦ inl refl ]
edit_stays w (At t) k = inl refl
edit_stays w Frame k = inl refl
edit_stays w (Get n p) k = inl refl
edit_stays w (Listing n) k = inl refl

by_command : (w : WorldParts) (n : ℕ) (c : Command) (refusal : Option Refusal) (k : ℕ) → (c ≡ Frame → ⊥) → Stays (entry_for w.entries k) (entry_for (judged_answer w n c refusal).world.entries k)
by_command w n c (Some r) k other = inl refl
by_command w n Frame None k other = absurd (other refl)
by_command w n Blank None k other = edit_stays w Blank k
by_command w n (Add i parent tag) None k other = edit_stays w (Add i parent tag) k
by_command w n (Insert i sibling tag) None k other = edit_stays w (Insert i sibling tag) k
by_command w n (Remove i) None k other = edit_stays w (Remove i) k
by_command w n (Id i name) None k other = edit_stays w (Id i name) k
by_command w n (Class i names) None k other = edit_stays w (Class i names) k
by_command w n (Style i text) None k other = edit_stays w (Style i text) k
by_command w n (Sheet i text) None k other = edit_stays w (Sheet i text) k
by_command w n (At t) None k other = edit_stays w (At t) k
by_command w n (Get i p) None k other = edit_stays w (Get i p) k
by_command w n (Listing i) None k other = edit_stays w (Listing i) k

by_reading : (w : WorldParts) (n : ℕ) (reading : Result Command Refusal) (k : ℕ) → (reading ≡ Ok Frame → ⊥) → Stays (entry_for w.entries k) (entry_for (answer_to w n reading).world.entries k)
by_reading w n (Err r) k other = inl refl
by_reading w n (Ok c) k other = by_command w n c (refusal_of w c) k (λ e. other (ap Ok e))

line_stays : (w : WorldParts) (n : ℕ) (line : Option (List ℕ)) (k : ℕ) → (reading_of line ≡ Ok Frame → ⊥) → Stays (entry_for w.entries k) (entry_for (answer_of w n line).world.entries k)
unfolding answer_of
line_stays w n line k other = by_reading w n (reading_of line) k other

lines_stay : (w : WorldParts) (n : ℕ) (lines : List (Option (List ℕ))) (k : ℕ) → HasNoFrame lines → Stays (entry_for w.entries k) (entry_for (world_from w n lines).entries k)
lines_stay w n [] k none = inl (ap (λ (x : WorldParts). entry_for x.entries k) (world_ends w n))
lines_stay w n (line ∷ lines) k none =
    subst (λ (x : WorldParts). Stays (entry_for w.entries k) (entry_for x.entries k)) (sym (world_next w n line lines))
    (stays_twice _ _ _ (line_stays w n line k none.0) (lines_stay (answer_of w n line).world (n + 1) lines k none.1))

-- what is answered of an element is of one that a frame has styled
is_styled : (w : WorldParts) (k : ℕ) → refusal_of_question w k ≡ None → (entry_for w.entries k).styled ≡ true
is_styled w k accepted = by_tests (not (is_in k w.document.elements)) (entry_for w.entries k).styled accepted where
  by_tests : (a b : Bool) → (if a then Some UnknownNode else if not b then Some NoStyle else None) ≡ None → b ≡ true
  by_tests true b e = cc
  by_tests false true e = refl
  by_tests false false e = cc

same_entry : (before now : EntryParts) → Stays before now → now.styled ≡ true → now ≡ before
same_entry before now (inl same) styled = same
same_entry before now (inr fresh) styled = absurd (cc)

by_get : (before : EntryParts) (w : WorldParts) (m k : ℕ) (p : PropertyId) (refusal : Option Refusal) → Stays before (entry_for w.entries k) → refusal ≡ refusal_of_question w k
    → (judged_answer w m (Get k p) refusal).refused ≡ false → (judged_answer w m (Get k p) refusal).piece ≡ value_line k p (value_of before.now p)
by_get before w m k p (Some r) stays is accepted = cc
by_get before w m k p None stays is accepted = ap (λ (e : EntryParts). value_line k p (value_of e.now p)) (same_entry before (entry_for w.entries k) stays (is_styled w k (sym is)))

by_list : (before : EntryParts) (w : WorldParts) (m k : ℕ) (refusal : Option Refusal) → Stays before (entry_for w.entries k) → refusal ≡ refusal_of_question w k
    → (judged_answer w m (Listing k) refusal).refused ≡ false → (judged_answer w m (Listing k) refusal).piece ≡ listing_of k before
by_list before w m k (Some r) stays is accepted = cc
by_list before w m k None stays is accepted = ap (listing_of k) (same_entry before (entry_for w.entries k) stays (is_styled w k (sym is)))

pub get_told : (w : WorldParts) (n m k : ℕ) (p : PropertyId) (lines : List (Option (List ℕ))) (line : Option (List ℕ)) → HasNoFrame lines → reading_of line ≡ Ok (Get k p)
    → (answer_of (world_from w n lines) m line).refused ≡ false → (answer_of (world_from w n lines) m line).piece ≡ value_line k p (value_of (entry_for w.entries k).now p)
unfolding answer_of
get_told w n m k p lines line none is =
    subst (λ (reading : Result Command Refusal). (answer_to (world_from w n lines) m reading).refused ≡ false
    → (answer_to (world_from w n lines) m reading).piece ≡ value_line k p (value_of (entry_for w.entries k).now p)) (sym is)
    (by_get (entry_for w.entries k) (world_from w n lines) m k p (refusal_of_question (world_from w n lines) k) (lines_stay w n lines k none) refl)

pub list_told : (w : WorldParts) (n m k : ℕ) (lines : List (Option (List ℕ))) (line : Option (List ℕ)) → HasNoFrame lines → reading_of line ≡ Ok (Listing k)
    → (answer_of (world_from w n lines) m line).refused ≡ false → (answer_of (world_from w n lines) m line).piece ≡ listing_of k (entry_for w.entries k)
unfolding answer_of
list_told w n m k lines line none is =
    subst (λ (reading : Result Command Refusal). (answer_to (world_from w n lines) m reading).refused ≡ false
    → (answer_to (world_from w n lines) m reading).piece ≡ listing_of k (entry_for w.entries k)) (sym is)
    (by_list (entry_for w.entries k) (world_from w n lines) m k (refusal_of_question (world_from w n lines) k) (lines_stay w n lines k none) refl)
