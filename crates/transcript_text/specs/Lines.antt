-- The lines of a transcript, each of its kind.
use Rattle.std.specs.Prelude.{ℕ, List, [], ◌∷◌, ◌++◌, flat_map, codes, decimal, Option, None, Some}
use Rattle.fix_num.specs.Print.{decimal_text}
use Rattle.fix_num.specs.declared.units.Micros.{Micros}
use Rattle.script_text.specs.declared.refusal.Refusal.{Refusal}
use Rattle.script_text.specs.declared.refusal.Refusal.TheVariants as refusal
use Rattle.sheet_rules.specs.declared.fault.BoundName.{BoundName}
use Rattle.sheet_rules.specs.declared.fault.BoundName.TheVariants as bound
use Rattle.sheet_rules.specs.declared.fault.CssFault.{CssFault}
use Rattle.sheet_rules.specs.declared.fault.CssFault.TheVariants as fault
use Rattle.shorthand_text.specs.KnownNames.{text_of_name}
use Rattle.style_data.specs.declared.animation.AnimationState.{AnimationState}
use Rattle.style_data.specs.declared.event.Event.{Event}
use Rattle.style_data.specs.declared.event.EventKind.{EventKind}
use Rattle.style_data.specs.declared.event.EventKind.TheVariants.{Run, Start, Iteration, End, Cancel}
use Rattle.style_data.specs.declared.gone.Gone.{Gone}
use Rattle.style_data.specs.declared.gone.Subject.{Subject}
use Rattle.style_data.specs.declared.gone.Subject.TheVariants as subject
use Rattle.style_data.specs.declared.transition.Completed.{Completed}
use Rattle.style_data.specs.declared.transition.Transition.{Transition}
use Rattle.value_print.specs.Printed.{serialized_value}
use Rattle.value_types.specs.Properties.{name_of}
use Rattle.value_types.specs.declared.property.PropertyId.{PropertyId}
use Rattle.value_types.specs.declared.value.Value.{Value}

-- ---- lines of any kind

-- each of these after a space
abbrev pub with_spaces : List (List ℕ) → List ℕ
with_spaces fields = flat_map (λ field. codes " " ++ field) fields

-- the line of a kind: its word, each field after a space, and a line feed
abbrev pub line_of_fields : List ℕ → List (List ℕ) → List ℕ
line_of_fields kind fields = kind ++ with_spaces fields ++ codes "\n"

-- a time as seconds
abbrev pub seconds : Micros → List ℕ
seconds t = decimal_text 6 t.0

-- a time as milliseconds
abbrev pub milliseconds : Micros → List ℕ
milliseconds t = decimal_text 3 t.0

-- ---- events

-- what an event or a cancelled item is of
abbrev pub subject_kind : Subject → List ℕ
subject_kind (subject.Property p) = codes "transition"
subject_kind (subject.Animation name) = codes "animation"

-- its name
abbrev pub subject_name : Subject → List ℕ
subject_name (subject.Property p) = name_of p
subject_name (subject.Animation name) = name

-- what happens to it
abbrev pub kind_name : EventKind → List ℕ
kind_name Run = codes "run"
kind_name Start = codes "start"
kind_name Iteration = codes "iteration"
kind_name End = codes "end"
kind_name Cancel = codes "cancel"

-- the type of an event (CSS Transitions 1, section 6; CSS Animations 1, section 5)
abbrev pub event_kind : Subject → EventKind → List ℕ
event_kind s kind = subject_kind s ++ kind_name kind

-- `event N KIND SUBJECT ELAPSED`: an event of element N, with its elapsed time in seconds
abbrev pub event_line : Event → List ℕ
event_line e = line_of_fields (codes "event") (decimal e.element ∷ event_kind e.subject e.kind ∷ subject_name e.subject ∷ seconds e.elapsed ∷ [])

-- ---- work and values

-- `work F V`: frame F updated V elements
abbrev pub work_line : ℕ → ℕ → List ℕ
work_line frame updated = line_of_fields (codes "work") (decimal frame ∷ decimal updated ∷ [])

-- `value N P V`: element N has the value V of property P
abbrev pub value_line : ℕ → PropertyId → Value → List ℕ
value_line n p v = line_of_fields (codes "value") (decimal n ∷ name_of p ∷ serialized_value v ∷ [])

-- ---- transitions

-- `running N P from A to B adjusted C start S end E factor F generation G`: a running transition of element N, with its
-- reversing-adjusted start value C and its reversing shortening factor F (CSS Transitions 1, section 3), and times in milliseconds
abbrev pub running_line : ℕ → PropertyId → Transition → List ℕ
running_line n p r = line_of_fields (codes "running")
    (decimal n ∷ name_of p ∷ codes "from" ∷ serialized_value r.from ∷ codes "to" ∷ serialized_value r.to
    ∷ codes "adjusted" ∷ serialized_value r.adjusted ∷ codes "start" ∷ milliseconds r.start ∷ codes "end" ∷ milliseconds r.end
    ∷ codes "factor" ∷ decimal_text 9 r.factor.0 ∷ codes "generation" ∷ decimal r.generation ∷ [])

-- `completed N P to B`: a completed transition of element N, with its end value
abbrev pub completed_line : ℕ → PropertyId → Completed → List ℕ
completed_line n p c = line_of_fields (codes "completed") (decimal n ∷ name_of p ∷ codes "to" ∷ serialized_value c.to ∷ [])

-- ---- animations, and what was cancelled

-- `hold H` where it is paused, else `start S`
abbrev pub timing_fields : Option Micros → Micros → List (List ℕ)
timing_fields (Some hold) start = codes "hold" ∷ milliseconds hold ∷ []
timing_fields None start = codes "start" ∷ milliseconds start ∷ []

-- `animation N I NAME start S`, or `animation N I NAME hold H` where it is paused: the animation at place I of element N
abbrev pub animation_line : ℕ → AnimationState → List ℕ
animation_line n a = line_of_fields (codes "animation") (decimal n ∷ decimal a.place ∷ a.name ∷ timing_fields a.hold a.start)

-- `gone N transition P cancelled S` or `gone N animation NAME cancelled S`: what was cancelled at time S and waits for its event
abbrev pub gone_line : ℕ → Gone → List ℕ
gone_line n g = line_of_fields (codes "gone")
    (decimal n ∷ subject_kind g.subject ∷ subject_name g.subject ∷ codes "cancelled" ∷ milliseconds g.cancelled ∷ [])

-- ---- refusals

-- what a bound of a style text or a sheet is of
abbrev pub bound_name : BoundName → List ℕ
bound_name bound.Value = codes "value"
bound_name bound.Items = codes "items"
bound_name bound.Declarations = codes "declarations"
bound_name bound.Rules = codes "rules"
bound_name bound.Selectors = codes "selectors"
bound_name bound.Compounds = codes "compounds"
bound_name bound.Offsets = codes "offsets"

-- the fault of a style text or a sheet with its place; want of memory refuses no line, and has no words
abbrev pub fault_fields : CssFault → List (List ℕ)
fault_fields (fault.BadToken at) = codes "bad-css" ∷ codes "at" ∷ decimal at ∷ []
fault_fields (fault.UnsupportedRule at) = codes "unsupported-rule" ∷ codes "at" ∷ decimal at ∷ []
fault_fields (fault.UnsupportedValue name at) = codes "unsupported-value" ∷ text_of_name name ∷ codes "at" ∷ decimal at ∷ []
fault_fields (fault.Bound what at) = codes "bound" ∷ bound_name what ∷ codes "at" ∷ decimal at ∷ []
fault_fields fault.NoMemory = []

-- why a line is refused
abbrev pub reason_fields : Refusal → List (List ℕ)
reason_fields refusal.BoundLine = codes "bound line" ∷ []
reason_fields refusal.Syntax = codes "syntax" ∷ []
reason_fields refusal.BoundNumber = codes "bound number" ∷ []
reason_fields refusal.UnknownNode = codes "unknown-node" ∷ []
reason_fields refusal.NodeTaken = codes "node-taken" ∷ []
reason_fields (refusal.TimeBack now) = codes "time-back" ∷ milliseconds now ∷ []
reason_fields (refusal.Css fault) = fault_fields fault
reason_fields refusal.BoundNodes = codes "bound nodes" ∷ []
reason_fields refusal.BoundDepth = codes "bound depth" ∷ []
reason_fields refusal.BoundRoot = codes "bound root" ∷ []
reason_fields refusal.BoundClasses = codes "bound classes" ∷ []
reason_fields refusal.NoStyle = codes "no-style" ∷ []

-- `refused L R`: line L of the script is refused for this reason
abbrev pub refused_line : ℕ → Refusal → List ℕ
refused_line l r = line_of_fields (codes "refused") (decimal l ∷ reason_fields r)
