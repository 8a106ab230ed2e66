-- Properties and timing lists by their places.
use Rattle.std.proofs.Common.{◌≡◌, ℕ, ◌<◌, refl, sym, ◌∙◌, ap, arith}
use Rattle.std.specs.Prelude.{◌==◌, if◌then◌else◌, Some, slice_get}
use Rattle.std.proofs.lemmas.Option.{slice_get_within}
use Rattle.value_types.specs.Properties.{number_of, all_properties}
use Rattle.value_types.specs.declared.property.PropertyId.{PropertyId}
use Rattle.value_types.specs.declared.list_value.ListName.{ListName}
use Rattle.value_types.specs.declared.list_value.ListName.TheVariants.{TransitionProperty, TransitionDuration, TransitionDelay, TransitionEasing, AnimationName, AnimationDuration, AnimationDelay, AnimationEasing, AnimationCount, AnimationDirection, AnimationFill, AnimationPlayState}
use Rattle.value_types.proofs.PropertyLemmas.{at_its_number}
use Rattle.computed_style.specs.Winners.{place_of}

some_same : {A : Type 0} (x y : A) → Some x ≡ Some y → x ≡ y
some_same x y e = cc

pub same_property : (p q : PropertyId) → number_of p ≡ number_of q → p ≡ q
same_property p q e = some_same p q (sym (at_its_number p) ∙ ap (slice_get all_properties) e ∙ at_its_number q)

pub number_small : (p : PropertyId) → number_of p < 24
number_small p = slice_get_within all_properties (number_of p) p (at_its_number p)

-- the list at a place
list_at : ℕ → ListName
list_at n =
    (if n == 0 then TransitionProperty
    else if n == 1 then TransitionDuration
    else if n == 2 then TransitionDelay
    else if n == 3 then TransitionEasing
    else if n == 4 then AnimationName
    else if n == 5 then AnimationDuration
    else if n == 6 then AnimationDelay
    else if n == 7 then AnimationEasing
    else if n == 8 then AnimationCount
    else if n == 9 then AnimationDirection
    else if n == 10 then AnimationFill
    else AnimationPlayState)

at_its_place : (name : ListName) → list_at (place_of name) ≡ name
unfolding list_at
at_its_place TransitionProperty = refl
at_its_place TransitionDuration = refl
at_its_place TransitionDelay = refl
at_its_place TransitionEasing = refl
at_its_place AnimationName = refl
at_its_place AnimationDuration = refl
at_its_place AnimationDelay = refl
at_its_place AnimationEasing = refl
at_its_place AnimationCount = refl
at_its_place AnimationDirection = refl
at_its_place AnimationFill = refl
at_its_place AnimationPlayState = refl

pub same_list : (a b : ListName) → place_of a ≡ place_of b → a ≡ b
same_list a b e = sym (at_its_place a) ∙ ap list_at e ∙ at_its_place b

pub place_small : (name : ListName) → place_of name < 12
place_small TransitionProperty = omega arith
place_small TransitionDuration = omega arith
place_small TransitionDelay = omega arith
place_small TransitionEasing = omega arith
place_small AnimationName = omega arith
place_small AnimationDuration = omega arith
place_small AnimationDelay = omega arith
place_small AnimationEasing = omega arith
place_small AnimationCount = omega arith
place_small AnimationDirection = omega arith
place_small AnimationFill = omega arith
place_small AnimationPlayState = omega arith
