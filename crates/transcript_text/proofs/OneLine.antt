-- The line of each item has one line feed, at its end.
use Rattle.std.proofs.Common.{ℕ, List, [], ◌∷◌, ◌++◌, refl}
use Rattle.std.specs.Prelude.{⊤, codes, decimal, Option, None, Some}
use Rattle.fix_num.specs.declared.units.Micros.{Micros}
use Rattle.script_text.specs.declared.refusal.Refusal.{Refusal}
use Rattle.script_text.specs.declared.refusal.Refusal.TheVariants as refusal
use Rattle.sheet_rules.specs.declared.fault.BoundName.{BoundName}
use Rattle.sheet_rules.specs.declared.fault.BoundName.TheVariants as bound
use Rattle.sheet_rules.specs.declared.fault.CssFault.{CssFault}
use Rattle.sheet_rules.specs.declared.fault.CssFault.TheVariants as fault
use Rattle.shorthand_text.specs.KnownNames.{name_of_list, name_of_shorthand, text_of_name}
use Rattle.shorthand_text.specs.declared.known_name.KnownName.{KnownName}
use Rattle.shorthand_text.specs.declared.known_name.KnownName.TheVariants as known
use Rattle.style_data.specs.declared.event.EventKind.{EventKind}
use Rattle.style_data.specs.declared.event.EventKind.TheVariants.{Run, Start, Iteration, End, Cancel}
use Rattle.style_data.specs.declared.gone.Subject.{Subject}
use Rattle.style_data.specs.declared.gone.Subject.TheVariants as subject
use Rattle.style_data.specs.declared.transition.Transition.{Transition}
use Rattle.fix_num.specs.Print.{decimal_text}
use Rattle.value_print.specs.Printed.{serialized_value}
use Rattle.value_types.specs.Properties.{name_of}
use Rattle.value_types.specs.declared.list_value.ListName.{ListName}
use Rattle.value_types.specs.declared.list_value.ListName.TheVariants as list
use Rattle.value_types.specs.declared.shorthand.Shorthand.{Shorthand}
use Rattle.value_types.specs.declared.shorthand.Shorthand.TheVariants as short
use Rattle.transcript_text.specs.Items.{HasIdentifier, HasIdentifiers, IsOneLine, line_of}
use Rattle.transcript_text.specs.Lines.{bound_name, event_kind, fault_fields, kind_name, line_of_fields, milliseconds, reason_fields, seconds, subject_kind, subject_name, timing_fields, with_spaces}
use Rattle.transcript_text.specs.declared.item.Item.{Item}
use Rattle.transcript_text.specs.declared.item.Item.TheVariants as item
use Rattle.transcript_text.proofs.LineFeeds.{IsWithout, both, decimal_text_without, decimal_without, name_without, property_without, value_without}

-- no line feed stands in any of them
abbrev AreWithout : List (List ℕ) → Type 0
AreWithout [] = ⊤
AreWithout (field ∷ fields) = IsWithout field × AreWithout fields

fields_without : (fields : List (List ℕ)) → AreWithout fields → IsWithout (with_spaces fields)
fields_without [] h = refl
fields_without (field ∷ fields) h = both (codes " " ++ field) (with_spaces fields) (both (codes " ") field refl h.0) (fields_without fields h.1)

one_line : (kind : List ℕ) (fields : List (List ℕ)) → IsWithout kind → AreWithout fields → IsOneLine (line_of_fields kind fields)
one_line kind fields k f =
    (kind ++ with_spaces fields, refl, both kind (with_spaces fields) k (fields_without fields f))

seconds_without : (t : Micros) → IsWithout (seconds t)
seconds_without t = decimal_text_without 6 t.0

milliseconds_without : (t : Micros) → IsWithout (milliseconds t)
milliseconds_without t = decimal_text_without 3 t.0

-- ---- events, and what is cancelled

subject_kind_without : (s : Subject) → IsWithout (subject_kind s)
subject_kind_without (subject.Property p) = refl
subject_kind_without (subject.Animation name) = refl

kind_without : (kind : EventKind) → IsWithout (kind_name kind)
kind_without Run = refl
kind_without Start = refl
kind_without Iteration = refl
kind_without End = refl
kind_without Cancel = refl

subject_without : (s : Subject) → HasIdentifier s → IsWithout (subject_name s)
subject_without (subject.Property p) h = property_without p
subject_without (subject.Animation name) h = name_without name h.1

timing_without : (hold : Option Micros) (start : Micros) → AreWithout (timing_fields hold start)
timing_without (Some hold) start = (refl, (milliseconds_without hold, tt))
timing_without None start = (refl, (milliseconds_without start, tt))

-- ---- refusals

list_without : (l : ListName) → IsWithout (name_of_list l)
list_without list.TransitionProperty = refl
list_without list.TransitionDuration = refl
list_without list.TransitionDelay = refl
list_without list.TransitionEasing = refl
list_without list.AnimationName = refl
list_without list.AnimationDuration = refl
list_without list.AnimationDelay = refl
list_without list.AnimationEasing = refl
list_without list.AnimationCount = refl
list_without list.AnimationDirection = refl
list_without list.AnimationFill = refl
list_without list.AnimationPlayState = refl

shorthand_without : (s : Shorthand) → IsWithout (name_of_shorthand s)
shorthand_without short.All = refl
shorthand_without short.Background = refl
shorthand_without short.Inset = refl
shorthand_without short.Margin = refl
shorthand_without short.Padding = refl

known_without : (name : KnownName) → IsWithout (text_of_name name)
known_without (known.Property p) = property_without p
known_without (known.List l) = list_without l
known_without (known.Short s) = shorthand_without s
known_without known.Transition = refl
known_without known.Animation = refl

bound_without : (b : BoundName) → IsWithout (bound_name b)
bound_without bound.Value = refl
bound_without bound.Items = refl
bound_without bound.Declarations = refl
bound_without bound.Rules = refl
bound_without bound.Selectors = refl
bound_without bound.Compounds = refl
bound_without bound.Offsets = refl

fault_without : (f : CssFault) → AreWithout (fault_fields f)
fault_without (fault.BadToken at) = (refl, (refl, (decimal_without at, tt)))
fault_without (fault.UnsupportedRule at) = (refl, (refl, (decimal_without at, tt)))
fault_without (fault.UnsupportedValue name at) = (refl, (known_without name, (refl, (decimal_without at, tt))))
fault_without (fault.Bound what at) = (refl, (bound_without what, (refl, (decimal_without at, tt))))
fault_without fault.NoMemory = tt

reason_without : (r : Refusal) → AreWithout (reason_fields r)
reason_without refusal.BoundLine = (refl, tt)
reason_without refusal.Syntax = (refl, tt)
reason_without refusal.BoundNumber = (refl, tt)
reason_without refusal.UnknownNode = (refl, tt)
reason_without refusal.NodeTaken = (refl, tt)
reason_without (refusal.TimeBack now) = (refl, (milliseconds_without now, tt))
reason_without (refusal.Css f) = fault_without f
reason_without refusal.BoundNodes = (refl, tt)
reason_without refusal.BoundDepth = (refl, tt)
reason_without refusal.BoundRoot = (refl, tt)
reason_without refusal.BoundClasses = (refl, tt)
reason_without refusal.NoStyle = (refl, tt)

-- ---- items

-- the start, the end, the factor and the generation of a transition
times_without : (r : Transition) → AreWithout (codes "start" ∷ milliseconds r.start ∷ codes "end" ∷ milliseconds r.end ∷ codes "factor" ∷ decimal_text 9 r.factor.0 ∷ codes "generation" ∷ decimal r.generation ∷ [])
times_without r = (refl, (milliseconds_without r.start, (refl, (milliseconds_without r.end, (refl, (decimal_text_without 9 r.factor.0, (refl, (decimal_without r.generation, tt))))))))

pub item_is_one_line : (i : Item) → HasIdentifiers i → IsOneLine (line_of i)
item_is_one_line (item.Event e) h =
    let kind = both (subject_kind e.subject) (kind_name e.kind) (subject_kind_without e.subject) (kind_without e.kind) in
    one_line (codes "event") (decimal e.element ∷ event_kind e.subject e.kind ∷ subject_name e.subject ∷ seconds e.elapsed ∷ []) refl
    (decimal_without e.element, (kind, (subject_without e.subject h, (seconds_without e.elapsed, tt))))
item_is_one_line (item.Work frame updated) h =
    one_line (codes "work") (decimal frame ∷ decimal updated ∷ []) refl (decimal_without frame, (decimal_without updated, tt))
item_is_one_line (item.Value n p v) h =
    one_line (codes "value") (decimal n ∷ name_of p ∷ serialized_value v ∷ []) refl (decimal_without n, (property_without p, (value_without v, tt)))
item_is_one_line (item.Running n p r) h =
    one_line (codes "running")
    (decimal n ∷ name_of p ∷ codes "from" ∷ serialized_value r.from ∷ codes "to" ∷ serialized_value r.to ∷ codes "adjusted" ∷ serialized_value r.adjusted
    ∷ codes "start" ∷ milliseconds r.start ∷ codes "end" ∷ milliseconds r.end ∷ codes "factor" ∷ decimal_text 9 r.factor.0 ∷ codes "generation" ∷ decimal r.generation ∷ [])
    refl
    (decimal_without n, (property_without p, (refl, (value_without r.from, (refl, (value_without r.to, (refl, (value_without r.adjusted, times_without r))))))))
item_is_one_line (item.Completed n p c) h =
    one_line (codes "completed") (decimal n ∷ name_of p ∷ codes "to" ∷ serialized_value c.to ∷ []) refl
    (decimal_without n, (property_without p, (refl, (value_without c.to, tt))))
item_is_one_line (item.Animation n a) h =
    one_line (codes "animation") (decimal n ∷ decimal a.place ∷ a.name ∷ timing_fields a.hold a.start) refl
    (decimal_without n, (decimal_without a.place, (name_without a.name h.1, timing_without a.hold a.start)))
item_is_one_line (item.Gone n g) h =
    one_line (codes "gone") (decimal n ∷ subject_kind g.subject ∷ subject_name g.subject ∷ codes "cancelled" ∷ milliseconds g.cancelled ∷ []) refl
    (decimal_without n, (subject_kind_without g.subject, (subject_without g.subject h, (refl, (milliseconds_without g.cancelled, tt)))))
item_is_one_line (item.Refused l r) h = one_line (codes "refused") (decimal l ∷ reason_fields r) refl (decimal_without l, reason_without r)
