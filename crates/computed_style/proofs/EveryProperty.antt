-- Tables over every property and every timing list.
use Rattle.std.proofs.Common.{◌≡◌, refl}
use Rattle.std.specs.Prelude.{List, ◌∷◌, map, set, slice_index_or, Option, Some}
use Rattle.value_types.specs.ListValues.{timing_lists}
use Rattle.value_types.specs.Properties.{all_properties, number_of}
use Rattle.value_types.specs.declared.list_value.ListName.{ListName}
use Rattle.value_types.specs.declared.list_value.ListName.TheVariants.{TransitionProperty, TransitionDuration, TransitionDelay, TransitionEasing, AnimationName, AnimationDuration, AnimationDelay, AnimationEasing, AnimationCount, AnimationDirection, AnimationFill, AnimationPlayState}
use Rattle.value_types.specs.declared.property.PropertyId.{PropertyId}
use Rattle.value_types.specs.declared.property.PropertyId.TheVariants.{BackgroundColor, Bottom, Color, Display, FontSize, Height, Left, LetterSpacing, MarginBottom, MarginLeft, MarginRight, MarginTop, Opacity, PaddingBottom, PaddingLeft, PaddingRight, PaddingTop, Right, Rotate, Top, Translate, Visibility, Width, ZIndex}
use Rattle.computed_style.specs.ByProperty.{kept_for}
use Rattle.computed_style.specs.Winners.{kept_for_list, place_of}

-- a table at a property's number
pub at_property : {X : Type 0} (f : PropertyId → X) (d : X) (p : PropertyId) → slice_index_or (map f all_properties) (number_of p) d ≡ f p
at_property f d BackgroundColor = refl
at_property f d Bottom = refl
at_property f d Color = refl
at_property f d Display = refl
at_property f d FontSize = refl
at_property f d Height = refl
at_property f d Left = refl
at_property f d LetterSpacing = refl
at_property f d MarginBottom = refl
at_property f d MarginLeft = refl
at_property f d MarginRight = refl
at_property f d MarginTop = refl
at_property f d Opacity = refl
at_property f d PaddingBottom = refl
at_property f d PaddingLeft = refl
at_property f d PaddingRight = refl
at_property f d PaddingTop = refl
at_property f d Right = refl
at_property f d Rotate = refl
at_property f d Top = refl
at_property f d Translate = refl
at_property f d Visibility = refl
at_property f d Width = refl
at_property f d ZIndex = refl

-- a table at a timing list's place
pub at_list : {X : Type 0} (f : ListName → X) (d : X) (name : ListName) → slice_index_or (map f timing_lists) (place_of name) d ≡ f name
at_list f d TransitionProperty = refl
at_list f d TransitionDuration = refl
at_list f d TransitionDelay = refl
at_list f d TransitionEasing = refl
at_list f d AnimationName = refl
at_list f d AnimationDuration = refl
at_list f d AnimationDelay = refl
at_list f d AnimationEasing = refl
at_list f d AnimationCount = refl
at_list f d AnimationDirection = refl
at_list f d AnimationFill = refl
at_list f d AnimationPlayState = refl

-- one more item that stands first changes a table at its property alone
pub put_property : {A X : Type 0} (g : Option A → PropertyId → X) (kept : List (PropertyId × A)) (v : A) (p : PropertyId)
    → map (λ q. g (kept_for q ((p, v) ∷ kept)) q) all_properties ≡ set (map (λ q. g (kept_for q kept) q) all_properties) (number_of p) (g (Some v) p)
put_property g kept v BackgroundColor = refl
put_property g kept v Bottom = refl
put_property g kept v Color = refl
put_property g kept v Display = refl
put_property g kept v FontSize = refl
put_property g kept v Height = refl
put_property g kept v Left = refl
put_property g kept v LetterSpacing = refl
put_property g kept v MarginBottom = refl
put_property g kept v MarginLeft = refl
put_property g kept v MarginRight = refl
put_property g kept v MarginTop = refl
put_property g kept v Opacity = refl
put_property g kept v PaddingBottom = refl
put_property g kept v PaddingLeft = refl
put_property g kept v PaddingRight = refl
put_property g kept v PaddingTop = refl
put_property g kept v Right = refl
put_property g kept v Rotate = refl
put_property g kept v Top = refl
put_property g kept v Translate = refl
put_property g kept v Visibility = refl
put_property g kept v Width = refl
put_property g kept v ZIndex = refl

-- and so for timing lists
pub put_list : {A X : Type 0} (g : Option A → ListName → X) (kept : List (ListName × A)) (v : A) (name : ListName)
    → map (λ q. g (kept_for_list q ((name, v) ∷ kept)) q) timing_lists ≡ set (map (λ q. g (kept_for_list q kept) q) timing_lists) (place_of name) (g (Some v) name)
put_list g kept v TransitionProperty = refl
put_list g kept v TransitionDuration = refl
put_list g kept v TransitionDelay = refl
put_list g kept v TransitionEasing = refl
put_list g kept v AnimationName = refl
put_list g kept v AnimationDuration = refl
put_list g kept v AnimationDelay = refl
put_list g kept v AnimationEasing = refl
put_list g kept v AnimationCount = refl
put_list g kept v AnimationDirection = refl
put_list g kept v AnimationFill = refl
put_list g kept v AnimationPlayState = refl
