-- The components of a value: what its parts are by themselves or together (CSS Syntax 3, "Component value").
use Rattle.std.specs.Prelude.{Bool, if◌then◌else◌, List, [], ◌∷◌, Option, None, Some}
use Rattle.token_parts.specs.Parts.{TokenPart}
use Rattle.list_text.specs.ItemReading.{is_inside, onto_first_group}

-- the components of the parts, where a bracket may be open: a function goes up to its bracket, any other part is one by itself
abbrev pub component_values_of : Bool → List TokenPart → List (List TokenPart)
component_values_of inside [] = (if inside then [] ∷ [] else [])
component_values_of inside (p ∷ ps) =
    (if is_inside inside p then onto_first_group (p ∷ []) (component_values_of (is_inside inside p) ps) else (p ∷ []) ∷ component_values_of (is_inside inside p) ps)

-- the first, where there is one, else the other
abbrev pub first_some : {T : Type 0} → Option T → Option T → Option T
first_some (Some x) other = Some x
first_some None other = other

-- what the first component that fits is
abbrev pub fitting : {T : Type 0} → (List TokenPart → Option T) → List (List TokenPart) → Option T
fitting meaning [] = None
fitting meaning (c ∷ cs) = first_some (meaning c) (fitting meaning cs)

-- the rest behind a component that fits, else all of them
abbrev pub behind : {T A : Type 0} → Option T → List A → List A → List A
behind (Some x) rest all = rest
behind None rest all = all

-- the components but the first that fits
abbrev pub others : {T : Type 0} → (List TokenPart → Option T) → List (List TokenPart) → List (List TokenPart)
others meaning [] = []
others meaning (c ∷ cs) = behind (meaning c) cs (c ∷ others meaning cs)
