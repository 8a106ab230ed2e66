-- Styles by the after-change style, with the values of running transitions laid over it.
use Rattle.std.proofs.Common.{◌≡◌, sym, ◌∙◌, ap}
use Rattle.std.specs.Prelude.{ℤ, List, None, Option}
use Rattle.value_types.specs.declared.property.PropertyId.{PropertyId}
use Rattle.value_types.specs.declared.property.PropertyId.TheVariants.{FontSize}
use Rattle.computed_style.specs.ByProperty.{kept_for}
use Rattle.computed_style.specs.ComputedStyles.{AnimatedValues, GiveNothing, style_sources}
use Rattle.computed_style.specs.Styles.{style_with}
use Rattle.computed_style.specs.Winners.{Declarations}
use Rattle.computed_style.specs.declared.inherited.InheritedValues.{InheritedValues}
use Rattle.mini_cascade.proofs.CascadeLemmas.{style-animated, style-on_top}
use Rattle.style_data.specs.Entries.{EntryParts}
use Rattle.style_data.specs.declared.transition.Transition.{Transition}
use Rattle.change_styles.specs.ThreeStyles.{after_change_style, before_change_style, current_style, transitioned_at}
use Rattle.change_styles.proofs.PathLemmas.{none_given}

-- where no transition of the font size runs
pub current-on_top : (d : Declarations) (animated : AnimatedValues) (running : List (PropertyId × Transition)) (t : ℤ) (parent : Option InheritedValues)
    → kept_for FontSize running ≡ None → current_style d animated running t parent ≡ style_with (after_change_style d animated parent) (transitioned_at running t)
current-on_top d animated running t parent none = style-on_top (style_sources d animated (transitioned_at running t) parent) (none_given running FontSize t none)

-- the before-change style, where the declarations and what is inherited are those of the after-change style
pub before-on_top : (e : EntryParts) (d : Declarations) (old : AnimatedValues) (t : ℤ) (before after : Option InheritedValues) → e.declared ≡ d → before ≡ after
    → kept_for FontSize e.effects.transitions.running ≡ None
    → style_with (after_change_style d old after) (transitioned_at e.effects.transitions.running t) ≡ before_change_style e old t before
before-on_top e d old t before after declared inherited none =
    sym (current-on_top d old e.effects.transitions.running t after none)
    ∙ ap (λ (k : Declarations). current_style k old e.effects.transitions.running t after) (sym declared)
    ∙ ap (λ (i : Option InheritedValues). current_style e.declared old e.effects.transitions.running t i) (sym inherited)

-- the current style, where no animation gives a value and what is inherited is that of the after-change style
pub current-over_after : (d : Declarations) (old new : AnimatedValues) (running : List (PropertyId × Transition)) (t : ℤ) (now after : Option InheritedValues) → now ≡ after
    → GiveNothing old → GiveNothing new → kept_for FontSize running ≡ None
    → style_with (after_change_style d old after) (transitioned_at running t) ≡ current_style d new running t now
current-over_after d old new running t now after inherited olds news none =
    sym (current-on_top d old running t after none)
    ∙ style-animated (style_sources d old (transitioned_at running t) after) new
    (λ p parent own root under. olds p parent own root under ∙ sym (news p parent own root under))
    ∙ ap (λ (i : Option InheritedValues). current_style d new running t i) (sym inherited)
