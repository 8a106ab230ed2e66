-- The line of each thing that a transcript tells.
use Rattle.std.specs.Prelude.{◌≡◌, ℕ, ◌==◌, Bool, false, List, ◌++◌, codes, ⊤}
use Rattle.std.specs.List.{list_any}
use Rattle.css_token.specs.Productions.{IsIdentifier}
use Rattle.style_data.specs.declared.gone.Subject.{Subject}
use Rattle.style_data.specs.declared.gone.Subject.TheVariants as subject
use Rattle.transcript_text.specs.Lines.{animation_line, completed_line, event_line, gone_line, refused_line, running_line, value_line, work_line}
use Rattle.transcript_text.specs.declared.item.Item.{Item}
use Rattle.transcript_text.specs.declared.item.Item.TheVariants as item

-- the line of an item
abbrev pub line_of : Item → List ℕ
line_of (item.Event e) = event_line e
line_of (item.Work frame updated) = work_line frame updated
line_of (item.Value n p v) = value_line n p v
line_of (item.Running n p r) = running_line n p r
line_of (item.Completed n p c) = completed_line n p c
line_of (item.Animation n a) = animation_line n a
line_of (item.Gone n g) = gone_line n g
line_of (item.Refused l r) = refused_line l r

-- ---- what a reader sees of a line

-- the word of an item's kind
abbrev pub kind_word : Item → List ℕ
kind_word (item.Event e) = codes "event"
kind_word (item.Work frame updated) = codes "work"
kind_word (item.Value n p v) = codes "value"
kind_word (item.Running n p r) = codes "running"
kind_word (item.Completed n p c) = codes "completed"
kind_word (item.Animation n a) = codes "animation"
kind_word (item.Gone n g) = codes "gone"
kind_word (item.Refused l r) = codes "refused"

-- an animation's name is an identifier
abbrev pub HasIdentifier : Subject → Type 0
HasIdentifier (subject.Property p) = ⊤
HasIdentifier (subject.Animation name) = IsIdentifier name

-- the names of animations in an item are identifiers, as those of every event and animation are
abbrev pub HasIdentifiers : Item → Type 0
HasIdentifiers (item.Event e) = HasIdentifier e.subject
HasIdentifiers (item.Work frame updated) = ⊤
HasIdentifiers (item.Value n p v) = ⊤
HasIdentifiers (item.Running n p r) = ⊤
HasIdentifiers (item.Completed n p c) = ⊤
HasIdentifiers (item.Animation n a) = IsIdentifier a.name
HasIdentifiers (item.Gone n g) = HasIdentifier g.subject
HasIdentifiers (item.Refused l r) = ⊤

-- a line feed stands among the bytes
abbrev pub has_line_feed : List ℕ → Bool
has_line_feed bytes = list_any (λ b. b == 10) bytes

-- a line feed stands at the end, and no other
abbrev pub IsOneLine : List ℕ → Type 0
IsOneLine bytes = (text : List ℕ) × (bytes ≡ text ++ codes "\n") × (has_line_feed text ≡ false)
