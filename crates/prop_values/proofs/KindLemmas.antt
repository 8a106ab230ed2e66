-- The kind of value that a property's text is of.
use Rattle.std.proofs.Common.{◌≡◌, true, List, [], ◌∷◌, Some, None, refl, ap, ◌∙◌}
use Rattle.std.specs.Prelude.{codes, find}
use Rattle.std.proofs.lemmas.Bool.{cond-true, false≢true}
use Rattle.token_parts.specs.Parts.{TokenPart, Ident}
use Rattle.value_types.specs.Table.{keeps_percent, range_of, takes}
use Rattle.value_types.specs.Validity.{declared_range_of}
use Rattle.value_types.specs.declared.declared.Declared.TheVariants as declared
use Rattle.value_types.specs.declared.declared.Size.{Size}
use Rattle.value_types.specs.declared.property.PropertyId.{PropertyId}
use Rattle.value_types.specs.declared.property.PropertyId.TheVariants as property
use Rattle.value_types.specs.declared.table.ValueKind.{ValueKind}
use Rattle.value_types.specs.declared.table.ValueKind.TheVariants as kind
use Rattle.value_text.specs.Reading.{declared_in, declared_reading, kind_at, kind_in, read_of, value_in}
use Rattle.value_text.specs.Spelling.{cascade_keyword, declared_percent}

-- what is of a kind is read as that kind
pub read_by_kind : (p : PropertyId) (k : ValueKind) (parts : List TokenPart) → cascade_keyword parts ≡ None → kind_at p parts ≡ Some k → declared_reading p parts ≡ kind_in p k parts
unfolding declared_reading value_in
read_by_kind p k parts none is = ap (declared_in p parts) none ∙ ap (read_of (λ (k : ValueKind). kind_in p k parts)) is

-- the first kind that a part may begin
pub first_kind : (p : PropertyId) (k : ValueKind) (ks : List ValueKind) → takes p k ≡ true → find (takes p) (k ∷ ks) ≡ Some k
first_kind p k ks h = cond-true (takes p k) (Some k) (find (takes p) ks) h

-- ---- the one property of a kind

pub only_opacity : (p : PropertyId) → takes p kind.Number ≡ true → p ≡ property.Opacity
only_opacity property.Opacity h = refl
only_opacity p h = absurd (false≢true h)

pub only_z_index : (p : PropertyId) → takes p kind.Int ≡ true → p ≡ property.ZIndex
only_z_index property.ZIndex h = refl
only_z_index p h = absurd (false≢true h)

pub only_rotate : (p : PropertyId) → takes p kind.Angle ≡ true → p ≡ property.Rotate
only_rotate property.Rotate h = refl
only_rotate p h = absurd (false≢true h)

pub only_translate : (p : PropertyId) → takes p kind.Pair ≡ true → p ≡ property.Translate
only_translate property.Translate h = refl
only_translate p h = absurd (false≢true h)

pub only_visibility : (p : PropertyId) → takes p kind.Visibility ≡ true → p ≡ property.Visibility
only_visibility property.Visibility h = refl
only_visibility p h = absurd (false≢true h)

pub only_display : (p : PropertyId) → takes p kind.Display ≡ true → p ≡ property.Display
only_display property.Display h = refl
only_display p h = absurd (false≢true h)

pub absent_kind : (p : PropertyId) → takes p kind.Absent ≡ true → kind_at p (Ident (codes "none") ∷ []) ≡ Some kind.Absent
absent_kind property.Rotate h = refl
absent_kind property.Translate h = refl
absent_kind p h = absurd (false≢true h)

-- ---- lengths and percents

pub length_range : (p : PropertyId) → takes p kind.Length ≡ true → declared_range_of p ≡ range_of p
length_range property.Opacity h = absurd (false≢true h)
length_range p h = refl

pub kept_is_taken : (p : PropertyId) → takes p kind.Length ≡ true → keeps_percent p ≡ true → takes p kind.Percent ≡ true
kept_is_taken property.FontSize h kept = absurd (false≢true kept)
kept_is_taken property.Opacity h kept = absurd (false≢true kept)
kept_is_taken property.Translate h kept = absurd (false≢true h)
kept_is_taken p h kept = kept

pub percent_is_length : (p : PropertyId) (s : Size) → takes p kind.Length ≡ true → declared_percent p s ≡ declared.Length s
percent_is_length property.Opacity s h = absurd (false≢true h)
percent_is_length p s h = refl
