-- The events of a frame in the order in which they are sent (Web Animations 1, "update animations and send events").
use Rattle.std.specs.Prelude.{List, [], ◌∷◌, if◌then◌else◌}
use Rattle.std.specs.Ordering.{is_lt}
use Rattle.style_data.specs.Events.{key_order}
use Rattle.style_data.specs.declared.event.Event.{Event}

-- an event before the first of these whose key isn't less
abbrev pub with_event : Event → List Event → List Event
with_event e [] = e ∷ []
with_event e (x ∷ xs) = if is_lt (key_order x.key e.key) then x ∷ with_event e xs else e ∷ x ∷ xs

-- the events by ascending keys: by scheduled event time, and then in composite order
abbrev pub in_order : List Event → List Event
in_order [] = []
in_order (e ∷ es) = with_event e (in_order es)
