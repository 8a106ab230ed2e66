-- A frame after its style change event, by its parts.
use Rattle.std.proofs.Common.{◌≡◌, ◌∙◌, ap, refl, sym, ℕ, List, map, Option}
use Rattle.doc_tree.specs.Element.{Document}
use Rattle.element_step.specs.Works.{DocumentEvent, document_event}
use Rattle.fix_num.specs.declared.units.Micros.{Micros}
use Rattle.sheet_types.specs.Sheets.{SheetRules}
use Rattle.style_data.specs.Entries.{EntryParts}
use Rattle.restyle.specs.StyleChanges.{FrameParts, entry_after_event, frame_after, frame_parts, root_size_of}

-- the entries after the event of these parts
abbrev pub closing_of : DocumentEvent → List (ℕ × EntryParts) → List (ℕ × EntryParts)
closing_of w entries = map (λ x. (x.0, entry_after_event w entries x.0)) entries

made : (tree : Document) (old sheets : List (Option SheetRules)) (entries : List (ℕ × EntryParts)) (time : Micros) (generation : ℕ)
    → frame_parts tree sheets sheets (closing_of (document_event time generation tree old sheets (root_size_of entries)) entries) time generation
    ≡ frame_after (frame_parts tree old sheets entries time generation)
unfolding frame_after
made tree old sheets entries time generation = refl

pub after_is : (f : FrameParts) (tree : Document) (old sheets : List (Option SheetRules)) (entries : List (ℕ × EntryParts)) (time : Micros) (generation : ℕ)
    (w : DocumentEvent) (tree' : Document) (old' sheets' : List (Option SheetRules)) (closing : List (ℕ × EntryParts))
    → f ≡ frame_parts tree old sheets entries time generation → w ≡ document_event time generation tree old sheets (root_size_of entries)
    → tree' ≡ w.document → sheets' ≡ w.sheets → old' ≡ sheets' → closing ≡ closing_of w entries
    → frame_parts tree' old' sheets' closing time generation ≡ frame_after f
after_is f tree old sheets entries time generation w tree' old' sheets' closing f_is w_is tree_is sheets_is old_is closing_is =
    ap (λ d. frame_parts d old' sheets' closing time generation) (tree_is ∙ ap (λ (v : DocumentEvent). v.document) w_is)
    ∙ ap (λ o. frame_parts tree o sheets' closing time generation) (old_is ∙ sheets_is ∙ ap (λ (v : DocumentEvent). v.sheets) w_is)
    ∙ ap (λ s. frame_parts tree sheets s closing time generation) (sheets_is ∙ ap (λ (v : DocumentEvent). v.sheets) w_is)
    ∙ ap (λ es. frame_parts tree sheets sheets es time generation) (closing_is ∙ ap (λ (v : DocumentEvent). closing_of v entries) w_is)
    ∙ made tree old sheets entries time generation ∙ ap frame_after (sym f_is)
