-- The edits of a world, each with its refusals in their order.
use Rattle.std.specs.Prelude.{◌≡◌, ℕ, ◌-◌, int_lt, not, List, [], ◌∷◌, ◌++◌, set, if◌then◌else◌, Option, None, Some, option_map, Result, Ok, Err}
use Rattle.std.specs.Result.{result_map_both}
use Rattle.doc_tree.specs.Change.{with_classes, with_id, with_style, without}
use Rattle.doc_tree.specs.Element.{Document, is_in, numbers_of, subtree_of}
use Rattle.doc_tree.specs.Fault.{fault_of_add, fault_of_change, fault_of_classes, fault_of_insert}
use Rattle.doc_tree.specs.declared.fault.TreeFault.{TreeFault}
use Rattle.doc_tree.specs.declared.fault.TreeFault.TheVariants as tree
use Rattle.script_text.specs.declared.command.Command.{Command}
use Rattle.script_text.specs.declared.command.Command.TheVariants.{Blank, Add, Insert, Remove, Id, Class, Style, Sheet, At, Frame, Get, List as Listing}
use Rattle.script_text.specs.declared.refusal.Refusal.{Refusal}
use Rattle.script_text.specs.declared.refusal.Refusal.TheVariants as refusal
use Rattle.sheet_rules.specs.declared.fault.CssFault.{CssFault}
use Rattle.sheet_rules.specs.Rules.{declarations_in}
use Rattle.sheet_rules.specs.Rules.{sheet_of}
use Rattle.sheet_types.specs.Sheets.{SheetRules}
use Rattle.restyle.specs.declared.edit_fault.EditFault.{EditFault}
use Rattle.restyle.specs.declared.edit_fault.EditFault.TheVariants.{Refused, NoMemory}
use Rattle.restyle.specs.Documents.{with_last_child, with_previous_sibling}
use Rattle.restyle.specs.StyleChanges.{entry_for}
use Rattle.restyle.specs.Worlds.{WorldParts, all_departed_of, with_document}

-- ---- refusals

-- why a tree refuses an edit; want of memory is no refusal
abbrev pub refusal_of_tree : TreeFault → Refusal
refusal_of_tree tree.UnknownNode = refusal.UnknownNode
refusal_of_tree tree.NodeTaken = refusal.NodeTaken
refusal_of_tree tree.BoundNodes = refusal.BoundNodes
refusal_of_tree tree.BoundDepth = refusal.BoundDepth
refusal_of_tree tree.BoundRoot = refusal.BoundRoot
refusal_of_tree tree.BoundClasses = refusal.BoundClasses
refusal_of_tree tree.NoMemory = refusal.UnknownNode

-- the first fault of a style text or a sheet, as a refusal
abbrev pub refusal_of_css : {T : Type 0} → Result T CssFault → Option Refusal
refusal_of_css (Ok x) = None
refusal_of_css (Err fault) = Some (refusal.Css fault)

-- the sheet that a text is, or its first fault; an empty one is no sheet
abbrev pub sheet_found : List ℕ → Result (Option SheetRules) CssFault
sheet_found [] = Ok None
sheet_found (b ∷ bs) = result_map_both Some (λ fault. fault) (sheet_of (b ∷ bs))

-- what is asked of node n is refused where it isn't in the tree, or no frame has styled it
abbrev pub refusal_of_question : WorldParts → ℕ → Option Refusal
refusal_of_question w n =
    if not (is_in n w.document.elements) then Some refusal.UnknownNode
    else if not (entry_for w.entries n).styled then Some refusal.NoStyle
    else None

-- a style text is refused where the node isn't in the tree, or for its first fault
abbrev pub refusal_of_style : Document → ℕ → List ℕ → Option Refusal
refusal_of_style d n text = if is_in n d.elements then refusal_of_css (declarations_in text) else Some refusal.UnknownNode

-- why a command is refused: the first of its reasons, in the order of the list of refusals
abbrev pub refusal_of : WorldParts → Command → Option Refusal
refusal_of w Blank = None
refusal_of w (Add n parent tag) = option_map refusal_of_tree (fault_of_add w.document n parent)
refusal_of w (Insert n sibling tag) = option_map refusal_of_tree (fault_of_insert w.document n sibling)
refusal_of w (Remove n) = option_map refusal_of_tree (fault_of_change w.document.elements n)
refusal_of w (Id n name) = option_map refusal_of_tree (fault_of_change w.document.elements n)
refusal_of w (Class n names) = option_map refusal_of_tree (fault_of_classes w.document.elements n names)
refusal_of w (Style n text) = refusal_of_style w.document n text
refusal_of w (Sheet k text) = refusal_of_css (sheet_found text)
refusal_of w (At t) = if int_lt t.0 w.time.0 then Some (refusal.TimeBack w.time) else None
refusal_of w Frame = None
refusal_of w (Get n p) = refusal_of_question w n
refusal_of w (Listing n) = refusal_of_question w n

-- ---- edits

-- the world with this sheet at a place from 1, or with none
abbrev pub with_sheet : WorldParts → ℕ → Result (Option SheetRules) CssFault → WorldParts
with_sheet w k (Ok sheet) = record w { sheets = set w.sheets (k - 1) sheet }
with_sheet w k (Err fault) = w

-- the world without the inclusive descendants of element n: what they run is cancelled at the current time (DOM, "remove")
abbrev pub without_element : WorldParts → ℕ → WorldParts
without_element w n =
    record (with_document w (without w.document n)) {
      departed = w.departed ++ all_departed_of w.entries w.time (numbers_of (subtree_of w.document.elements n));
    }

-- the world that an accepted command leaves; a frame is no edit, and a question changes nothing
abbrev pub edited : WorldParts → Command → WorldParts
edited w Blank = w
edited w (Add n parent tag) = with_document w (with_last_child w.document n parent tag)
edited w (Insert n sibling tag) = with_document w (with_previous_sibling w.document n sibling tag)
edited w (Remove n) = without_element w n
edited w (Id n name) = with_document w (with_id w.document n name)
edited w (Class n names) = with_document w (with_classes w.document n names)
edited w (Style n text) = with_document w (with_style w.document n text)
edited w (Sheet k text) = with_sheet w k (sheet_found text)
edited w (At t) = record w { time = t }
edited w Frame = w
edited w (Get n p) = w
edited w (Listing n) = w

-- the world after a command, or why it is refused
abbrev pub edit_of : WorldParts → Command → Result WorldParts Refusal
edit_of w c = judged_edit (refusal_of w c) where
  judged_edit : Option Refusal → Result WorldParts Refusal
  judged_edit (Some r) = Err r
  judged_edit None = Ok (edited w c)

-- ---- answers

-- what an edit answers, and the world after it: the edited one where no reason refuses the command, and else the first reason and the same world; the
-- same world too where memory runs out
abbrev pub AnswersEdit : WorldParts → WorldParts → Command → Result (Unit {0}) EditFault → Type 0
AnswersEdit before now c (Ok x) = (refusal_of before c ≡ None) × (now ≡ edited before c)
AnswersEdit before now c (Err (Refused r)) = (refusal_of before c ≡ Some r) × (now ≡ before)
AnswersEdit before now c (Err NoMemory) = now ≡ before

-- what is asked of an element is answered where no reason refuses it
abbrev pub AnswersQuestion : {A : Type 0} → Option Refusal → Result A Refusal → Type 0
AnswersQuestion refusal (Ok x) = refusal ≡ None
AnswersQuestion refusal (Err r) = refusal ≡ Some r
