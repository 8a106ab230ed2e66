-- Words that hold no space.
use Rattle.std.proofs.Common.{◌≡◌, ℕ, ◌<◌, Bool, true, false, List, [], ◌∷◌, ◌++◌, length, refl, ap, sym, ◌∙◌, arith}
use Rattle.std.specs.Prelude.{◌&&◌, nat_lt, Some}
use Rattle.std.specs.List.{list_all}
use Rattle.std.specs.Char.{is_ascii_digit, to_ascii_lowercase}
use Rattle.std.specs.Str.{str_to_ascii_lowercase}
use Rattle.std.proofs.lemmas.Bool.{and_parts, and_from}
use Rattle.std.proofs.lemmas.Bool.Decides.{nat_tests}
use Rattle.std.proofs.lemmas.List.{append-nil}
use Rattle.std.proofs.lemmas.Slice.Eq.{bytes_eq-Decides}
use Rattle.value_types.specs.declared.property.PropertyId.{PropertyId}
use Rattle.value_types.specs.declared.property.PropertyId.TheVariants.{BackgroundColor, Bottom, Color, Display, FontSize, Height, Left, LetterSpacing, MarginBottom, MarginLeft, MarginRight, MarginTop, Opacity, PaddingBottom, PaddingLeft, PaddingRight, PaddingTop, Right, Rotate, Top, Translate, Visibility, Width, ZIndex}
use Rattle.value_types.specs.Properties.{all_properties, is_named, name_of, property_named}
use Rattle.value_types.proofs.PropertyLemmas.{find_passes}
use Rattle.script_text.specs.Forms.{is_numeral, is_script_name, may_stand_in_name}
use Rattle.script_text.specs.Words.{AreInOrder, IsSolid, is_word_byte}

abbrev is_solid : List ℕ → Bool
is_solid word = nat_lt 0 (length word) && list_all is_word_byte word

solid_from : (word : List ℕ) → is_solid word ≡ true → IsSolid word
solid_from word h = record { some = first (and_parts _ _ h).0; solid = (and_parts _ _ h).1 } where
  first : nat_lt 0 (length word) ≡ true → 0 < length word
  first t = grind (arith, nat_tests)

-- a word alone is in order
pub alone : (word : List ℕ) → IsSolid word → AreInOrder word (word ∷ []) []
alone word h = (h, ([], [], sym (append-nil (word ++ []) ∙ append-nil word), record { spaces = refl; some = λ e. refl; whole = refl }, refl))

-- ---- names and numbers

name_byte : (b : ℕ) → may_stand_in_name b ≡ true → is_word_byte b ≡ true
name_byte b h = grind (arith, nat_tests)

name_bytes : (word : List ℕ) → list_all may_stand_in_name word ≡ true → list_all is_word_byte word ≡ true
name_bytes [] h = refl
name_bytes (b ∷ bs) h = and_from _ _ (name_byte b (and_parts _ _ h).0) (name_bytes bs (and_parts _ _ h).1)

pub name_solid : (word : List ℕ) → is_script_name word ≡ true → IsSolid word
name_solid [] h = let no : false ≡ true = h in cc
name_solid (b ∷ bs) h = record { some = omega arith; solid = name_bytes (b ∷ bs) (and_parts _ _ h).1 }

digit_byte : (b : ℕ) → is_ascii_digit b ≡ true → is_word_byte b ≡ true
digit_byte b h = grind (arith, nat_tests)

pub digit_bytes : (word : List ℕ) → list_all is_ascii_digit word ≡ true → list_all is_word_byte word ≡ true
digit_bytes [] h = refl
digit_bytes (b ∷ bs) h = and_from _ _ (digit_byte b (and_parts _ _ h).0) (digit_bytes bs (and_parts _ _ h).1)

pub numeral_solid : (word : List ℕ) → is_numeral word ≡ true → IsSolid word
numeral_solid word h = solid_from word (and_from _ _ (and_parts _ _ h).0 (digit_bytes word (and_parts _ _ h).1))

-- ---- names of properties

property_solid : (p : PropertyId) → is_solid (str_to_ascii_lowercase (name_of p)) ≡ true
property_solid BackgroundColor = refl
property_solid Bottom = refl
property_solid Color = refl
property_solid Display = refl
property_solid FontSize = refl
property_solid Height = refl
property_solid Left = refl
property_solid LetterSpacing = refl
property_solid MarginBottom = refl
property_solid MarginLeft = refl
property_solid MarginRight = refl
property_solid MarginTop = refl
property_solid Opacity = refl
property_solid PaddingBottom = refl
property_solid PaddingLeft = refl
property_solid PaddingRight = refl
property_solid PaddingTop = refl
property_solid Right = refl
property_solid Rotate = refl
property_solid Top = refl
property_solid Translate = refl
property_solid Visibility = refl
property_solid Width = refl
property_solid ZIndex = refl

lowered_byte : (b : ℕ) → is_word_byte (to_ascii_lowercase b) ≡ true → is_word_byte b ≡ true
lowered_byte b h = grind (arith, nat_tests)

lowered_bytes : (word : List ℕ) → list_all is_word_byte (str_to_ascii_lowercase word) ≡ true → list_all is_word_byte word ≡ true
lowered_bytes [] h = refl
lowered_bytes (b ∷ bs) h = and_from _ _ (lowered_byte b (and_parts _ _ h).0) (lowered_bytes bs (and_parts _ _ h).1)

lowered_solid : (word : List ℕ) → is_solid (str_to_ascii_lowercase word) ≡ true → IsSolid word
lowered_solid [] h = let no : false ≡ true = h in cc
lowered_solid (b ∷ bs) h = record { some = omega arith; solid = lowered_bytes (b ∷ bs) (and_parts _ _ h).1 }

pub named_solid : (word : List ℕ) (p : PropertyId) → property_named word ≡ Some p → IsSolid word
unfolding property_named
named_solid word p h =
    let same : str_to_ascii_lowercase word ≡ str_to_ascii_lowercase (name_of p) = (bytes_eq-Decides _ _).0 (find_passes (is_named word) all_properties p h) in
    lowered_solid word (ap is_solid same ∙ property_solid p)
