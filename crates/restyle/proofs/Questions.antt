-- What is asked of an element of a world.
use Rattle.std.proofs.Common.{◌≡◌, ℕ, ap, sym, ◌∙◌, Bool, true, false, not, Some, None}
use Rattle.std.specs.Prelude.{IfErr, IfOk, OnOk, Result, Ok, Err, if◌then◌else◌, unwrap_or}
use Rattle.doc_tree.specs.Element.{is_in, numbers_of}
use Rattle.pass_core.specs.Passes.{value_for}
use Rattle.script_text.specs.declared.refusal.Refusal.{Refusal}
use Rattle.script_text.specs.declared.refusal.Refusal.TheVariants.{NoStyle, UnknownNode}
use Rattle.style_data.specs.Entries.{EntryParts, fresh_entry}
use Rattle.restyle.specs.Edits.{AnswersQuestion, refusal_of_question}
use Rattle.restyle.specs.States.{world_of}
use Rattle.restyle.specs.StyleChanges.{entry_for}
use Rattle.restyle.specs.Worlds.{entries_of}
use Rattle.restyle.specs.declared.state.WorldState.{WorldState}
use Rattle.restyle.proofs.Numbers.{by_numbers, in_by_numbers, there}

pub if_ok : {T E : Type 0} {P Q : T → Type 0} (r : Result T E) → ((t : T) → P t → Q t) → IfOk r P → IfOk r Q
if_ok (Ok t) step is = step t is
if_ok (Err e) step is = is

pub on_ok : {T E : Type 0} {P Q : Type 0} (r : Result T E) → (P → Q) → OnOk r P → OnOk r Q
on_ok (Ok t) step is = step is
on_ok (Err e) step is = is

module _ (s : WorldState) (n : ℕ) (known : is_in n s.tree.elements ≡ true) where
  -- an element's entry is the one that is kept, or a fresh one
  pub kept_entry : entry_for (entries_of s.tree s.entries) n ≡ entry_for s.entries n
  kept_entry =
      ap (λ es. entry_for es n) (by_numbers s.tree.elements s.entries)
      ∙ ap (λ o. unwrap_or o fresh_entry) (there n (numbers_of s.tree.elements) s.entries (sym (in_by_numbers n s.tree.elements) ∙ known))

  pub entry_found : (e : EntryParts) → value_for s.entries n ≡ Some e → entry_for (entries_of s.tree s.entries) n ≡ e
  entry_found e found = kept_entry ∙ ap (λ o. unwrap_or o fresh_entry) found

  asked : (styled : Bool) → (entry_for (entries_of s.tree s.entries) n).styled ≡ styled
      → refusal_of_question (world_of s) n ≡ (if not styled then Some NoStyle else None)
  asked styled is =
      ap (λ b. if not b then Some UnknownNode else if not (entry_for (entries_of s.tree s.entries) n).styled then Some NoStyle else None) known
      ∙ ap (λ b. if not b then Some NoStyle else None) is

  pub never_styled : value_for s.entries n ≡ None → refusal_of_question (world_of s) n ≡ Some NoStyle
  never_styled absent = asked false (ap (λ (e : EntryParts). e.styled) (kept_entry ∙ ap (λ o. unwrap_or o fresh_entry) absent))

  pub answered : {A : Type 0} (e : EntryParts) (r : Result A Refusal) → value_for s.entries n ≡ Some e → OnOk r (e.styled ≡ true)
      → IfErr r (λ x. (e.styled ≡ false) × (x ≡ NoStyle)) → AnswersQuestion (refusal_of_question (world_of s) n) r
  answered e (Ok x) found styled other = asked true (ap (λ (y : EntryParts). y.styled) (entry_found e found) ∙ styled)
  answered e (Err x) found styled other = asked false (ap (λ (y : EntryParts). y.styled) (entry_found e found) ∙ other.0) ∙ ap Some (sym other.1)
