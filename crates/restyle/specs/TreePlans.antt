-- The plan of a pass over a whole document.
use Rattle.std.specs.Prelude.{List, map, unwrap_or}
use Rattle.std.specs.Option.{option_and_then}
use Rattle.doc_tree.specs.Element.{Document, Element, position_of, subtree_end_of}
use Rattle.pass_core.specs.declared.plan.Place.{Place}

-- an element's place: that of its parent is the parent's position, and it ends where its subtree does
abbrev pub element_place : Document → Element → Place
element_place d e = record {
  element = e.number;
  parent = option_and_then (λ p. position_of p d) e.parent;
  end = unwrap_or (subtree_end_of e.number d) 0;
}

-- the places of all elements, in tree order
abbrev pub places_of : Document → List Place
places_of d = map (element_place d) d.elements
