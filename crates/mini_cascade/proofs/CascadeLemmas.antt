-- Values of the cascade by their parts.
use Rattle.std.proofs.Common.{◌≡◌, refl, sym, ◌∙◌, ap, subst, inl, inr}
use Rattle.std.specs.Prelude.{◌≢◌, ◌⊎◌, Bool, false, is_some, Result, Ok, Err, IfOk, List, [], ◌∷◌, map, Option, None, Some, option_map, unwrap_or}
use Rattle.std.proofs.lemmas.Bool.{cases_eq}
use Rattle.std.proofs.lemmas.List.{get_or-set_other}
use Rattle.fix_num.specs.declared.units.Fix.{Fix}
use Rattle.value_types.specs.Properties.{all_properties, number_of}
use Rattle.timing_types.specs.TimingLists.{AnimationValues}
use Rattle.value_types.specs.TransitionLists.{TransitionValues}
use Rattle.value_types.specs.declared.declared.Declared.{Declared}
use Rattle.value_types.specs.declared.property.PropertyId.{PropertyId}
use Rattle.value_types.specs.declared.property.PropertyId.TheVariants.{FontSize}
use Rattle.value_types.specs.declared.value.Value.{Value}
use Rattle.value_types.specs.declared.value.Value.TheVariants.{Auto}
use Rattle.computed_style.specs.ByProperty.{kept_for}
use Rattle.computed_style.specs.ComputedStyles.{AnimatedValues, FontSizes, GiveNothing, StyleSources, animated_value, animation_lists_of, cascaded_value, computed_font_size, computed_style, computed_value, declared_value, first_of, font_sizes, important_value, inherited_value, normal_value, parent_size, transition_lists_of, underlying_value}
use Rattle.computed_style.specs.Styles.{pixels_of_length, style_of_values, style_with, values_with}
use Rattle.computed_style.specs.Winners.{no_winners, with_winner, winners_of}
use Rattle.computed_style.specs.declared.winners.Winners.{Winners}
use Rattle.computed_style.proofs.ByIndex.{same_by_property}
use Rattle.computed_style.proofs.EveryProperty.{at_property}
use Rattle.computed_style.proofs.StyleLemmas.{length-values_with, value_at-values_with}
use Rattle.computed_style.proofs.Tables.{same_property}
use Rattle.mini_cascade.specs.Sources.{GiveAlike, computed_values, with_animated, with_declared, with_transitioned}

-- the font sizes around an element whose font size is computed
abbrev pub sizes_of : StyleSources → FontSizes
sizes_of x = font_sizes x.parent (pixels_of_length (computed_font_size x))

-- the value of a property but font-size
pub computed_value-other : (x : StyleSources) (p : PropertyId) → p ≢ FontSize → computed_value x p ≡ cascaded_value x (sizes_of x) p
computed_value-other x FontSize other = absurd (other refl)
computed_value-other x p other = refl

-- the same, from the font size of the element
pub computed_by : (x : StyleSources) (p : PropertyId) (font_size : Value) (own : Fix) (v : Value) → p ≢ FontSize → font_size ≡ computed_font_size x
    → own ≡ pixels_of_length font_size → v ≡ cascaded_value x (font_sizes x.parent own) p → v ≡ computed_value x p
computed_by x p font_size own v other same size is =
    is ∙ ap (λ (o : Fix). cascaded_value x (font_sizes x.parent o) p) (size ∙ ap pixels_of_length same) ∙ sym (computed_value-other x p other)

-- the first of several values by the first of them
pub first_of-cons : (o : Option Value) (rest : List (Option Value)) (otherwise : Value) → first_of (o ∷ rest) otherwise ≡ unwrap_or o (first_of rest otherwise)
first_of-cons None rest otherwise = refl
first_of-cons (Some v) rest otherwise = refl

-- ---- declarations of another property

winners_of-other : (x : StyleSources) (p q : PropertyId) (important : Bool) (v : Declared) → p ≢ q → winners_of (with_declared x p important v).declared q ≡ winners_of x.declared q
winners_of-other x p q important v apart =
    get_or-set_other x.declared.properties (number_of p) (number_of q) (with_winner (winners_of x.declared p) important v) no_winners
    (λ e. apart (same_property p q (sym e)))

-- the value of a property where these declarations win
cascaded_with : StyleSources → FontSizes → PropertyId → Winners → Value
cascaded_with x sizes p w =
    let important : Option Value = option_map (declared_value x.parent sizes p) w.important in
    let normal : Option Value = option_map (declared_value x.parent sizes p) w.normal in
    let under = first_of (important ∷ normal ∷ []) (inherited_value x.parent p) in
    first_of (kept_for p x.transitioned ∷ important ∷ x.animated p sizes.parent sizes.own sizes.root under ∷ normal ∷ []) (inherited_value x.parent p)

pub cascaded_value-other : (x : StyleSources) (sizes : FontSizes) (p q : PropertyId) (important : Bool) (v : Declared) → p ≢ q
    → cascaded_value (with_declared x p important v) sizes q ≡ cascaded_value x sizes q
unfolding cascaded_with
cascaded_value-other x sizes p q important v apart = ap (cascaded_with x sizes q) (winners_of-other x p q important v apart)

-- the value of another property, where the font size stays
pub computed_value-through : (x : StyleSources) (p q : PropertyId) (important : Bool) (v : Declared) → p ≢ q → q ≢ FontSize
    → computed_font_size (with_declared x p important v) ≡ computed_font_size x → computed_value (with_declared x p important v) q ≡ computed_value x q
computed_value-through x p q important v apart other same =
    computed_value-other (with_declared x p important v) q other
    ∙ ap (λ size. cascaded_value (with_declared x p important v) (font_sizes x.parent (pixels_of_length size)) q) same
    ∙ cascaded_value-other x (sizes_of x) p q important v apart
    ∙ sym (computed_value-other x q other)

-- the font size, where another property is declared
size-other : (x : StyleSources) (p : PropertyId) (important : Bool) (v : Declared) → p ≢ FontSize
    → computed_font_size (with_declared x p important v) ≡ computed_font_size x
size-other x p important v apart = cascaded_value-other x (font_sizes x.parent (parent_size x.parent)) p FontSize important v apart

-- font-size, or another property
pub is_font_size : (q : PropertyId) → (q ≡ FontSize) ⊎ (q ≢ FontSize)
is_font_size q = elim (cases_eq (number_of q) (number_of FontSize)) [
  | inl same ↦ inl (same_property q FontSize same)
  | inr other ↦ inr (λ e. other (ap number_of e))
]

pub computed_value-apart : (x : StyleSources) (p q : PropertyId) (important : Bool) (v : Declared) → p ≢ FontSize → p ≢ q
    → computed_value (with_declared x p important v) q ≡ computed_value x q
computed_value-apart x p q important v not_size apart = elim (is_font_size q) [
  | inl is ↦ rw is (size-other x p important v not_size)
  | inr other ↦ computed_value-through x p q important v apart other (size-other x p important v not_size)
]

-- ---- transitions on top

-- the value of a property of these sizes, whatever transitions give others
cascaded_value-on_top : (x : StyleSources) (sizes : FontSizes) (p : PropertyId)
    → cascaded_value x sizes p ≡ unwrap_or (kept_for p x.transitioned) (cascaded_value (with_transitioned x []) sizes p)
cascaded_value-on_top x sizes p = first_of-cons (kept_for p x.transitioned) _ _

size-without : (x : StyleSources) → kept_for FontSize x.transitioned ≡ None → computed_font_size x ≡ computed_font_size (with_transitioned x [])
size-without x none =
    cascaded_value-on_top x (font_sizes x.parent (parent_size x.parent)) FontSize
    ∙ ap (λ o. unwrap_or o (computed_font_size (with_transitioned x []))) none

computed_value-on_top : (x : StyleSources) (p : PropertyId) → kept_for FontSize x.transitioned ≡ None
    → computed_value x p ≡ unwrap_or (kept_for p x.transitioned) (computed_value (with_transitioned x []) p)
computed_value-on_top x p none = elim (is_font_size p) [
  | inl is ↦ rw is (cascaded_value-on_top x (font_sizes x.parent (parent_size x.parent)) FontSize)
  | inr other ↦
      computed_value-other x p other
      ∙ ap (λ size. cascaded_value x (font_sizes x.parent (pixels_of_length size)) p) (size-without x none)
      ∙ cascaded_value-on_top x (sizes_of (with_transitioned x [])) p
      ∙ ap (λ v. unwrap_or (kept_for p x.transitioned) v) (sym (computed_value-other (with_transitioned x []) p other))
]

pub values-on_top : (x : StyleSources) → kept_for FontSize x.transitioned ≡ None
    → map (computed_value x) all_properties ≡ values_with (map (computed_value (with_transitioned x [])) all_properties) x.transitioned
values-on_top x none =
    let below : List Value = map (computed_value (with_transitioned x [])) all_properties in
    same_by_property (map (computed_value x) all_properties) (values_with below x.transitioned) Auto refl (length-values_with below x.transitioned)
    (λ p.
    at_property (computed_value x) Auto p
    ∙ computed_value-on_top x p none
    ∙ ap (λ v. unwrap_or (kept_for p x.transitioned) v) (sym (at_property (computed_value (with_transitioned x [])) Auto p))
    ∙ sym (value_at-values_with below x.transitioned p refl))

pub style-on_top : (x : StyleSources) → kept_for FontSize x.transitioned ≡ None
    → computed_style x ≡ style_with (computed_style (with_transitioned x [])) x.transitioned
unfolding computed_style
style-on_top x none = ap (λ vs. style_of_values vs (transition_lists_of x.declared) (animation_lists_of x.declared)) (values-on_top x none)

-- ---- properties to which nothing gives a value

first_none : (a b c d : Option Value) (otherwise : Value) → a ≡ None → b ≡ None → c ≡ None → d ≡ None → first_of (a ∷ b ∷ c ∷ d ∷ []) otherwise ≡ otherwise
first_none a b c d otherwise ea eb ec ed = rw (ea, eb, ec, ed) refl

cascaded_value-inherited : (x : StyleSources) (sizes : FontSizes) (p : PropertyId) → x.transitioned ≡ [] → GiveNothing x.animated → winners_of x.declared p ≡ no_winners
    → cascaded_value x sizes p ≡ inherited_value x.parent p
cascaded_value-inherited x sizes p empty nothing none =
    first_none (kept_for p x.transitioned) (important_value x sizes p) (animated_value x sizes p) (normal_value x sizes p) (inherited_value x.parent p)
    (ap (λ (given : List (PropertyId × Value)). kept_for p given) empty)
    (ap (λ (w : Winners). option_map (declared_value x.parent sizes p) w.important) none)
    (nothing p sizes.parent sizes.own sizes.root (underlying_value x sizes p))
    (ap (λ (w : Winners). option_map (declared_value x.parent sizes p) w.normal) none)

-- it is inherited, or initial
pub computed_value-inherited : (x : StyleSources) (p : PropertyId) → x.transitioned ≡ [] → GiveNothing x.animated → winners_of x.declared p ≡ no_winners
    → computed_value x p ≡ inherited_value x.parent p
computed_value-inherited x p empty nothing none = elim (is_font_size p) [
  | inl is ↦
      subst (λ q. winners_of x.declared q ≡ no_winners → computed_value x q ≡ inherited_value x.parent q) (sym is)
      (λ size_none. cascaded_value-inherited x (font_sizes x.parent (parent_size x.parent)) FontSize empty nothing size_none) none
  | inr other ↦ computed_value-other x p other ∙ cascaded_value-inherited x (sizes_of x) p empty nothing none
]

-- ---- animations that give the same

cascaded_value-animated : (x : StyleSources) (animated : AnimatedValues) (sizes : FontSizes) (p : PropertyId) → GiveAlike x.animated animated
    → cascaded_value x sizes p ≡ cascaded_value (with_animated x animated) sizes p
cascaded_value-animated x animated sizes p alike =
    ap (λ o. first_of (kept_for p x.transitioned ∷ important_value x sizes p ∷ o ∷ normal_value x sizes p ∷ []) (inherited_value x.parent p))
    (alike p sizes.parent sizes.own sizes.root (underlying_value x sizes p))

computed_value-animated : (x : StyleSources) (animated : AnimatedValues) (p : PropertyId) → GiveAlike x.animated animated
    → computed_value x p ≡ computed_value (with_animated x animated) p
computed_value-animated x animated p alike = elim (is_font_size p) [
  | inl is ↦ rw is (cascaded_value-animated x animated (font_sizes x.parent (parent_size x.parent)) FontSize alike)
  | inr other ↦
      computed_value-other x p other
      ∙ ap (λ size. cascaded_value x (font_sizes x.parent (pixels_of_length size)) p)
      (cascaded_value-animated x animated (font_sizes x.parent (parent_size x.parent)) FontSize alike)
      ∙ cascaded_value-animated x animated (sizes_of (with_animated x animated)) p alike
      ∙ sym (computed_value-other (with_animated x animated) p other)
]

pub style-animated : (x : StyleSources) (animated : AnimatedValues) → GiveAlike x.animated animated → computed_style x ≡ computed_style (with_animated x animated)
unfolding computed_style
style-animated x animated alike =
    ap (λ vs. style_of_values vs (transition_lists_of x.declared) (animation_lists_of x.declared))
    (same_by_property (map (computed_value x) all_properties) (map (computed_value (with_animated x animated)) all_properties) Auto refl refl
    (λ p. at_property (computed_value x) Auto p ∙ computed_value-animated x animated p alike ∙ sym (at_property (computed_value (with_animated x animated)) Auto p)))

-- ---- styles from their parts

pub style_of_parts : (x : StyleSources) (values : List Value) (t : TransitionValues) (a : AnimationValues) → values ≡ computed_values x
    → t ≡ transition_lists_of x.declared → a ≡ animation_lists_of x.declared → style_of_values values t a ≡ computed_style x
unfolding computed_style computed_values
style_of_parts x values t a are times plays = rw (are, times, plays) refl

-- what is left out is as said
pub unwrap_none : {A : Type 0} (o : Option A) (d : A) → is_some o ≡ false → d ≡ unwrap_or o d
unwrap_none None d none = refl
unwrap_none (Some x) d none = absurd (cc)

pub ok_then : {T E : Type 0} (r : Result T E) (a b : T) → a ≡ b → IfOk r (λ s. s ≡ a) → IfOk r (λ s. s ≡ b)
ok_then (Ok s) a b same is = is ∙ same
ok_then (Err e) a b same is = tt
