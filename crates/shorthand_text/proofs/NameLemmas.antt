-- The table of known names, read both ways.
use Rattle.std.proofs.Common.{◌≡◌, refl, sym, ap, ◌∙◌, true, List, ℕ, Option, Some, None}
use Rattle.std.specs.Prelude.{option_map}
use Rattle.std.specs.List.{find}
use Rattle.std.specs.Str.{str_to_ascii_lowercase, str_eq_ignore_ascii_case, bytes_eq}
use Rattle.std.proofs.lemmas.Slice.Eq.{bytes_eq-Decides}
use Rattle.value_types.specs.ListValues.{timing_lists}
use Rattle.value_types.specs.Properties.{all_properties, is_named, name_of, property_named}
use Rattle.value_types.specs.declared.property.PropertyId.{PropertyId}
use Rattle.value_types.specs.declared.property.PropertyId.TheVariants as property
use Rattle.value_types.specs.declared.list_value.ListName.{ListName}
use Rattle.value_types.specs.declared.list_value.ListName.TheVariants as list
use Rattle.value_types.specs.declared.shorthand.Shorthand.{Shorthand}
use Rattle.value_types.specs.declared.shorthand.Shorthand.TheVariants as short
use Rattle.value_types.proofs.PropertyLemmas.{find_passes, lowercase-name_of}
use Rattle.shorthand_text.specs.Components.{first_some}
use Rattle.shorthand_text.specs.KnownNames.{all_shorthands, is_text_of, known_name, name_of_list, name_of_shorthand, text_of_name}
use Rattle.shorthand_text.specs.declared.known_name.KnownName.{KnownName}
use Rattle.shorthand_text.specs.declared.known_name.KnownName.TheVariants as known

-- the known name of these bytes, in lower case
abbrev pub known_by : List ℕ → Option KnownName
known_by bs =
    first_some (option_map known.Property (find (λ q. bytes_eq bs (str_to_ascii_lowercase (name_of q))) all_properties))
    (first_some (option_map known.List (find (λ n. bytes_eq bs (str_to_ascii_lowercase (name_of_list n))) timing_lists))
    (find (λ n. bytes_eq bs (str_to_ascii_lowercase (text_of_name n))) all_shorthands))

pub known_by_lowercase : (text : List ℕ) → known_name text ≡ known_by (str_to_ascii_lowercase text)
unfolding known_name property_named
known_by_lowercase text = refl

-- each name stands for what it names
pub first_known : (n : KnownName) → known_by (text_of_name n) ≡ Some n
first_known (known.Property property.BackgroundColor) = refl
first_known (known.Property property.Bottom) = refl
first_known (known.Property property.Color) = refl
first_known (known.Property property.Display) = refl
first_known (known.Property property.FontSize) = refl
first_known (known.Property property.Height) = refl
first_known (known.Property property.Left) = refl
first_known (known.Property property.LetterSpacing) = refl
first_known (known.Property property.MarginBottom) = refl
first_known (known.Property property.MarginLeft) = refl
first_known (known.Property property.MarginRight) = refl
first_known (known.Property property.MarginTop) = refl
first_known (known.Property property.Opacity) = refl
first_known (known.Property property.PaddingBottom) = refl
first_known (known.Property property.PaddingLeft) = refl
first_known (known.Property property.PaddingRight) = refl
first_known (known.Property property.PaddingTop) = refl
first_known (known.Property property.Right) = refl
first_known (known.Property property.Rotate) = refl
first_known (known.Property property.Top) = refl
first_known (known.Property property.Translate) = refl
first_known (known.Property property.Visibility) = refl
first_known (known.Property property.Width) = refl
first_known (known.Property property.ZIndex) = refl
first_known (known.List list.TransitionProperty) = refl
first_known (known.List list.TransitionDuration) = refl
first_known (known.List list.TransitionDelay) = refl
first_known (known.List list.TransitionEasing) = refl
first_known (known.List list.AnimationName) = refl
first_known (known.List list.AnimationDuration) = refl
first_known (known.List list.AnimationDelay) = refl
first_known (known.List list.AnimationEasing) = refl
first_known (known.List list.AnimationCount) = refl
first_known (known.List list.AnimationDirection) = refl
first_known (known.List list.AnimationFill) = refl
first_known (known.List list.AnimationPlayState) = refl
first_known (known.Short short.All) = refl
first_known (known.Short short.Background) = refl
first_known (known.Short short.Inset) = refl
first_known (known.Short short.Margin) = refl
first_known (known.Short short.Padding) = refl
first_known known.Transition = refl
first_known known.Animation = refl

-- the names are in lower case
pub lowercase-list : (n : ListName) → str_to_ascii_lowercase (name_of_list n) ≡ name_of_list n
lowercase-list list.TransitionProperty = refl
lowercase-list list.TransitionDuration = refl
lowercase-list list.TransitionDelay = refl
lowercase-list list.TransitionEasing = refl
lowercase-list list.AnimationName = refl
lowercase-list list.AnimationDuration = refl
lowercase-list list.AnimationDelay = refl
lowercase-list list.AnimationEasing = refl
lowercase-list list.AnimationCount = refl
lowercase-list list.AnimationDirection = refl
lowercase-list list.AnimationFill = refl
lowercase-list list.AnimationPlayState = refl

pub lowercase-shorthand : (s : Shorthand) → str_to_ascii_lowercase (name_of_shorthand s) ≡ name_of_shorthand s
lowercase-shorthand short.All = refl
lowercase-shorthand short.Background = refl
lowercase-shorthand short.Inset = refl
lowercase-shorthand short.Margin = refl
lowercase-shorthand short.Padding = refl

pub lowercase-name : (n : KnownName) → str_to_ascii_lowercase (text_of_name n) ≡ text_of_name n
lowercase-name (known.Property p) = lowercase-name_of p
lowercase-name (known.List n) = lowercase-list n
lowercase-name (known.Short s) = lowercase-shorthand s
lowercase-name known.Transition = refl
lowercase-name known.Animation = refl

-- what passes the test of a name has that name
has_name : (text : List ℕ) (n : KnownName) → is_text_of text n ≡ true → str_to_ascii_lowercase text ≡ text_of_name n
has_name text n h = (bytes_eq-Decides _ _).0 h ∙ lowercase-name n

-- a name that was found in one of the three tables is that of the text
found_in : (text : List ℕ) (p : Option PropertyId) (l : Option ListName) (s : Option KnownName) (n : KnownName)
    → ((q : PropertyId) → p ≡ Some q → is_text_of text (known.Property q) ≡ true)
    → ((m : ListName) → l ≡ Some m → is_text_of text (known.List m) ≡ true)
    → ((m : KnownName) → s ≡ Some m → is_text_of text m ≡ true)
    → first_some (option_map known.Property p) (first_some (option_map known.List l) s) ≡ Some n → is_text_of text n ≡ true
found_in text (Some q) l s n a b c h = let e : known.Property q ≡ n = cc in ap (is_text_of text) (sym e) ∙ a q refl
found_in text None (Some m) s n a b c h = let e : known.List m ≡ n = cc in ap (is_text_of text) (sym e) ∙ b m refl
found_in text None None s n a b c h = c n h

pub known_has_name : (text : List ℕ) (n : KnownName) → known_name text ≡ Some n → str_to_ascii_lowercase text ≡ text_of_name n
unfolding known_name property_named
known_has_name text n h =
    has_name text n
    (found_in text (find (is_named text) all_properties) (find (λ m. str_eq_ignore_ascii_case text (name_of_list m)) timing_lists) (find (is_text_of text) all_shorthands) n
    (λ q e. find_passes (is_named text) all_properties q e)
    (λ m e. find_passes (λ k. str_eq_ignore_ascii_case text (name_of_list k)) timing_lists m e)
    (λ m e. find_passes (is_text_of text) all_shorthands m e) h)
