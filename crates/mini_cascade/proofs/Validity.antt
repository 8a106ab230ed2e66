-- What is computed is a value of its property.
use Rattle.std.proofs.Common.{◌≡◌, refl, sym, ◌∙◌, ap, subst, inl, inr, arith, rules}
use Rattle.std.proofs.lemmas.Bool.{false≢true}
use Rattle.std.specs.Prelude.{◌≢◌, ℤ, List, [], ◌∷◌, Option, None, Some, IfSome, option_map, if◌then◌else◌, false}
use Rattle.fix_num.specs.declared.units.Fix.{Fix}
use Rattle.value_types.specs.Ranges.{IsSize}
use Rattle.value_types.specs.Table.{fix, initial_value, is_inherited}
use Rattle.value_types.specs.Validity.{IsDeclaredFor, IsValid}
use Rattle.value_types.specs.declared.declared.Declared.{Declared}
use Rattle.value_types.specs.declared.declared.Declared.TheVariants as declared
use Rattle.value_types.specs.declared.property.PropertyId.{PropertyId}
use Rattle.value_types.specs.declared.property.PropertyId.TheVariants.{Color, FontSize, LetterSpacing, Visibility}
use Rattle.value_types.specs.declared.value.Value.{Value}
use Rattle.value_types.specs.declared.value.Value.TheVariants as value
use Rattle.computed_value.specs.Absolute.{em_size_of}
use Rattle.computed_value.proofs.Validity.{em_size_is, resolved_valid}
use Rattle.computed_style.specs.ByProperty.{kept_for}
use Rattle.computed_style.specs.ComputedStyles.{FontSizes, StyleSources, animated_value, cascaded_value, computed_font_size, computed_style, computed_value, declared_value, first_of, font_sizes, important_value, inherited_value, normal_value, parent_size, root_size, underlying_value}
use Rattle.computed_style.specs.Styles.{AreInherited, AreValid, ComputedStyle, inherited_of, pixels_of_length, value_of}
use Rattle.computed_style.specs.Winners.{winners_of}
use Rattle.computed_style.specs.declared.inherited.InheritedValues.{InheritedValues}
use Rattle.computed_style.proofs.EveryProperty.{at_property}
use Rattle.computed_style.proofs.Lookups.{found_has}
use Rattle.mini_cascade.specs.Sources.{AreSources}
use Rattle.mini_cascade.proofs.CascadeLemmas.{computed_value-other, is_font_size}

pub initial_valid : (p : PropertyId) → IsValid p (initial_value p)
initial_valid p = search rules

-- a size is a font size
pub size_valid : (n : Fix) → IsSize n → IsValid FontSize (value.Length n (fix 0))
size_valid n size = search rules

pub pixels_are : (v : Value) → IsValid FontSize v → IsSize (pixels_of_length v)
pixels_are v valid = search rules

pub inherited_valid : (parent : Option InheritedValues) (p : PropertyId) → IfSome parent AreInherited → IsValid p (inherited_value parent p)
inherited_valid None p is = initial_valid p
inherited_valid (Some i) Color is = is.color
inherited_valid (Some i) FontSize is = size_valid i.font_size is.font_size
inherited_valid (Some i) LetterSpacing is = is.letter_spacing
inherited_valid (Some i) Visibility is = is.visibility
inherited_valid (Some i) p is = initial_valid p

-- of the properties that aren't inherited the initial value
pub inherited_value-other : (parent : Option InheritedValues) (p : PropertyId) → p ≢ Color → p ≢ FontSize → p ≢ LetterSpacing → p ≢ Visibility
    → inherited_value parent p ≡ initial_value p
inherited_value-other None p a b c d = refl
inherited_value-other (Some i) Color a b c d = absurd (a refl)
inherited_value-other (Some i) FontSize a b c d = absurd (b refl)
inherited_value-other (Some i) LetterSpacing a b c d = absurd (c refl)
inherited_value-other (Some i) Visibility a b c d = absurd (d refl)
inherited_value-other (Some i) p a b c d = refl

pub parent_size_is : (parent : Option InheritedValues) → IfSome parent AreInherited → IsSize (parent_size parent)
parent_size_is None is = record { low = omega arith; high = omega arith }
parent_size_is (Some i) is = is.font_size

pub root_size_is : (parent : Option InheritedValues) (own : Fix) → IfSome parent AreInherited → IsSize own → IsSize (root_size parent own)
root_size_is None own is size = size
root_size_is (Some i) own is size = is.root_size

declared_valid : (parent : Option InheritedValues) (own : Fix) (p : PropertyId) (d : Declared) → IfSome parent AreInherited → IsSize own → IsDeclaredFor p d
    → IsValid p (declared_value parent (font_sizes parent own) p d)
declared_valid parent own p declared.Inherit is size ok = inherited_valid parent p is
declared_valid parent own p declared.Initial is size ok = initial_valid p
declared_valid parent own p d is size ok =
    resolved_valid p (em_size_of p (parent_size parent) own) (root_size parent own) d (em_size_is p (parent_size parent) own (parent_size_is parent is) size)
    (root_size_is parent own is size) tt ok

-- ---- the first of several values

mapped_has : {A : Type 0} (P : A → Type 0) (Q : Value → Type 0) (f : A → Value) (o : Option A) → ((a : A) → P a → Q (f a)) → IfSome o P → IfSome (option_map f o) Q
mapped_has P Q f None step has = tt
mapped_has P Q f (Some a) step has = step a has

first_has : (Q : Value → Type 0) (o : Option Value) (rest : List (Option Value)) (otherwise : Value) → IfSome o Q → Q (first_of rest otherwise)
    → Q (first_of (o ∷ rest) otherwise)
first_has Q None rest otherwise has below = below
first_has Q (Some v) rest otherwise has below = has

pub cascaded_valid : (x : StyleSources) (own : Fix) (p : PropertyId) → AreSources x → IsSize own → IsValid p (cascaded_value x (font_sizes x.parent own) p)
cascaded_valid x own p are size =
    let sizes : FontSizes = font_sizes x.parent own in
    let inherited = inherited_valid x.parent p are.parent in
    let step : (d : Declared) → IsDeclaredFor p d → IsValid p (declared_value x.parent sizes p d) = λ d ok. declared_valid x.parent own p d are.parent size ok in
    let important : IfSome (important_value x sizes p) (IsValid p) =
    mapped_has (IsDeclaredFor p) (IsValid p) (declared_value x.parent sizes p) (winners_of x.declared p).important step (are.declared.each p).important in
    let normal : IfSome (normal_value x sizes p) (IsValid p) =
    mapped_has (IsDeclaredFor p) (IsValid p) (declared_value x.parent sizes p) (winners_of x.declared p).normal step (are.declared.each p).normal in
    let below : IsValid p (first_of (normal_value x sizes p ∷ []) (inherited_value x.parent p)) =
    first_has (IsValid p) (normal_value x sizes p) [] (inherited_value x.parent p) normal inherited in
    let under : IsValid p (underlying_value x sizes p) =
    first_has (IsValid p) (important_value x sizes p) (normal_value x sizes p ∷ []) (inherited_value x.parent p) important below in
    let animated : IfSome (animated_value x sizes p) (IsValid p) =
    are.animated p sizes.parent sizes.own sizes.root (underlying_value x sizes p) under (parent_size_is x.parent are.parent) size (root_size_is x.parent own are.parent size) in
    first_has (IsValid p) (kept_for p x.transitioned) _ (inherited_value x.parent p) (found_has IsValid x.transitioned p (kept_for p x.transitioned) refl are.transitioned)
    (first_has (IsValid p) (important_value x sizes p) _ (inherited_value x.parent p) important
    (first_has (IsValid p) (animated_value x sizes p) _ (inherited_value x.parent p) animated below))

pub font_size_valid : (x : StyleSources) → AreSources x → IsValid FontSize (computed_font_size x)
font_size_valid x are = cascaded_valid x (parent_size x.parent) FontSize are (parent_size_is x.parent are.parent)

pub computed_valid : (x : StyleSources) (p : PropertyId) → AreSources x → IsValid p (computed_value x p)
computed_valid x p are = elim (is_font_size p) [
  | inl is ↦ rw is (font_size_valid x are)
  | inr other ↦
      rw (computed_value-other x p other)
      (cascaded_valid x (pixels_of_length (computed_font_size x)) p are (pixels_are (computed_font_size x) (font_size_valid x are)))
]

pub style_valid : (x : StyleSources) → AreSources x → AreValid (computed_style x).values
unfolding computed_style
style_valid x are = record {
  count = refl;
  each = λ p. subst (IsValid p) (sym (at_property (computed_value x) value.Auto p)) (computed_valid x p are);
}

-- ---- inheritance

length_again : (v : Value) → IsValid FontSize v → value.Length (pixels_of_length v) (fix 0) ≡ v
length_again (value.Length px pct) valid = ap (λ (n : ℤ). value.Length px (record { 0 = n })) (sym valid.2)
length_again v valid = absurd (cc)

pub inherited_by_table : (s : ComputedStyle) (root_size : Fix) (p : PropertyId) → AreValid s.values
    → inherited_value (Some (inherited_of s root_size)) p ≡ (if is_inherited p then value_of s p else initial_value p)
inherited_by_table s root_size FontSize valid = length_again (value_of s FontSize) (valid.each FontSize)
inherited_by_table s root_size p valid = refl

-- what isn't inherited is initial
pub not_inherited : (parent : Option InheritedValues) (p : PropertyId) → is_inherited p ≡ false → inherited_value parent p ≡ initial_value p
not_inherited parent p off =
    inherited_value-other parent p (λ is. false≢true (sym off ∙ ap is_inherited is)) (λ is. false≢true (sym off ∙ ap is_inherited is))
    (λ is. false≢true (sym off ∙ ap is_inherited is)) (λ is. false≢true (sym off ∙ ap is_inherited is))
