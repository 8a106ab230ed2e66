-- What occurs to a transition, and is told by an event.
use Rattle.std.specs.Prelude.{pos}
use Rattle.style_data.specs.declared.event.EventKind.TheVariants.{Run}
use Rattle.ticker.specs.Events.{occurrence}

-- the type that a value is of
abbrev pub TypeOf : {A : Type 0} → A → Type 0
TypeOf {A} x = A

-- a kind of event with its elapsed time and its scheduled time, as a tick has it
abbrev pub Occurrence : Type 0
Occurrence = TypeOf (occurrence Run (pos 0) (pos 0))
