use Rattle.std.proofs.Common.{◌≡◌, ◌++◌, take, map}
use Rattle.style_data.specs.declared.gone.Subject.TheVariants.{Animation}
use Rattle.ticker.specs.Events.{told_event}
use Rattle.ticker.proofs.event.push_of_animation.Given as goal

abbrev pub invariant-loop-o : goal.invariant-loop-o
invariant-loop-o l = l.events.items ≡ l.initial.events.items ++ map (told_event l.element (Animation l.name) l.at) (take l.o-index l.occurrences)
