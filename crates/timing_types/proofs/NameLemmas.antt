-- Names of animations.
use Rattle.std.proofs.Common.{◌≡◌, ℕ, List, true}
use Rattle.std.proofs.lemmas.Bool.{and_parts}
use Rattle.css_token.specs.Productions.{begins_identifier}
use Rattle.timing_types.specs.Names.{IsAnimationName, is_animation_name}

-- what passes the test is one
pub animation_name_told : (name : List ℕ) → is_animation_name name ≡ true → IsAnimationName name
animation_name_told name h =
    let both = and_parts _ _ h in
    let first = and_parts (begins_identifier name) _ both.0 in
    record { identifier = (first.0, first.1); free = both.1 }
