use Rattle.std.proofs.Common.{◌≡◌, ◌++◌, take, map}
use Rattle.style_data.specs.declared.gone.Subject.TheVariants.{Property}
use Rattle.ticker.specs.Events.{told_event}
use Rattle.ticker.proofs.event.push_of_property.Given as goal

abbrev pub invariant-loop-o : goal.invariant-loop-o
invariant-loop-o l = l.events.items ≡ l.initial.events.items ++ map (told_event l.element (Property l.p) l.at) (take l.o-index l.occurrences)
