-- Elements that are rendered, and elements that aren't.
use Rattle.std.proofs.Common.{◌≡◌, refl, sym, ◌∙◌, ap}
use Rattle.std.specs.Prelude.{Bool, true, false, ◌==◌, ◌&&◌, if◌then◌else◌, List, [], ◌∷◌, ◌++◌, length, Option, None, Some}
use Rattle.std.specs.List.{list_all}
use Rattle.computed_style.specs.Styles.{ComputedStyle, value_of}
use Rattle.computed_style.specs.declared.inherited.InheritedValues.{InheritedValues}
use Rattle.change_styles.specs.Inheritance.{handed_down}
use Rattle.change_styles.specs.ThreeStyles.{after_change_style, before_change_style, current_style, no_animations}
use Rattle.interpolation.proofs.EqualityLemmas.{same_tells}
use Rattle.interpolation.specs.Equality.{is_same}
use Rattle.style_data.specs.Entries.{EntryParts, effect_lists, entry_parts}
use Rattle.style_data.specs.TransitionSets.{TransitionSet, no_transitions}
use Rattle.style_data.specs.declared.gone.Gone.{Gone}
use Rattle.transition_update.specs.Updates.{all_cancelled}
use Rattle.value_types.specs.Properties.{all_properties}
use Rattle.value_types.specs.declared.property.PropertyId.{PropertyId}
use Rattle.element_step.specs.Settling.{has_ended, have_same_values}
use Rattle.element_step.specs.Updates.{ElementUpdate, after_of, after_parent, before_parent, cancelled_from, cancelled_of, change_in, down_after, down_told, down_with, entry_after, handed_after, handed_before, handed_now, now_of, now_parent, rendered_after, settled_after, transitions_from, transitions_of, unless_leaf}

-- ---- rendered

pub transitions_rendered : (x : ElementUpdate) → rendered_after x ≡ true → transitions_of x ≡ transitions_from x.entry.rendered (change_in x) x.entry.effects.transitions
unfolding transitions_of
transitions_rendered x is = rw is refl

pub cancelled_rendered : (x : ElementUpdate) → rendered_after x ≡ true → cancelled_of x ≡ cancelled_from x.entry.rendered (change_in x) x.entry.effects.transitions
unfolding cancelled_of
cancelled_rendered x is = rw is refl

pub now_rendered : (x : ElementUpdate) → rendered_after x ≡ true → now_of x ≡ current_style x.declared x.new (transitions_of x).running x.event.time.0 (now_parent x.parent)
unfolding now_of
now_rendered x is = rw is refl

pub after_rendered : (x : ElementUpdate) → rendered_after x ≡ true → after_of x ≡ after_change_style x.declared x.old (after_parent x.parent)
unfolding after_of
after_rendered x is = rw is refl

-- ---- not rendered

pub transitions_unrendered : (x : ElementUpdate) → rendered_after x ≡ false → transitions_of x ≡ no_transitions
unfolding transitions_of
transitions_unrendered x is = rw is refl

pub cancelled_unrendered : (x : ElementUpdate) → rendered_after x ≡ false → cancelled_of x ≡ all_cancelled x.entry.effects.transitions x.event.time.0
unfolding cancelled_of
cancelled_unrendered x is = rw is refl

pub now_unrendered : (x : ElementUpdate) → rendered_after x ≡ false → now_of x ≡ current_style x.declared no_animations [] x.event.time.0 (now_parent x.parent)
unfolding now_of
now_unrendered x is = rw is refl

pub after_unrendered : (x : ElementUpdate) → rendered_after x ≡ false → after_of x ≡ now_of x
unfolding after_of
after_unrendered x is = rw is refl

-- ---- settled

pub settled_is : (x : ElementUpdate) (ts : TransitionSet) (after now : ComputedStyle) → ts ≡ transitions_of x → after ≡ after_of x → now ≡ now_of x
    → ((length ts.running == 0) && list_all (has_ended x.event.time.0) x.animations && have_same_values after now) ≡ settled_after x
unfolding settled_after
settled_is x ts after now t a n =
    ap (λ (s : TransitionSet). (length s.running == 0) && list_all (has_ended x.event.time.0) x.animations && have_same_values after now) t
    ∙ ap (λ s. (length (transitions_of x).running == 0) && list_all (has_ended x.event.time.0) x.animations && have_same_values s now) a
    ∙ ap (λ s. (length (transitions_of x).running == 0) && list_all (has_ended x.event.time.0) x.animations && have_same_values (after_of x) s) n

-- a style has its own values
pub same_itself : (s : ComputedStyle) (ps : List PropertyId) → list_all (λ p. is_same (value_of s p) (value_of s p)) ps ≡ true
same_itself s [] = refl
same_itself s (p ∷ ps) =
    ap (λ b. b && list_all (λ q. is_same (value_of s q) (value_of s q)) ps) ((same_tells (value_of s p) (value_of s p)).1 refl) ∙ same_itself s ps

and_true : (b : Bool) → (true && b && true) ≡ b
and_true true = refl
and_true false = refl

pub settled_unrendered : (x : ElementUpdate) → rendered_after x ≡ false → list_all (has_ended x.event.time.0) x.animations ≡ settled_after x
settled_unrendered x is =
    sym (and_true (list_all (has_ended x.event.time.0) x.animations))
    ∙ ap (λ b. true && list_all (has_ended x.event.time.0) x.animations && b) (sym (same_itself (now_of x) all_properties))
    ∙ settled_is x no_transitions (now_of x) (now_of x) (sym (transitions_unrendered x is)) (sym (after_unrendered x is)) refl

-- ---- what is handed down

pub down_is : (x : ElementUpdate) (before : Option InheritedValues) (after now : InheritedValues) (rendered : Bool) → before ≡ handed_before x → after ≡ handed_after x
    → now ≡ handed_now x → rendered ≡ rendered_after x → down_with x.entry x.root_size before after now rendered ≡ down_after x
unfolding down_after
down_is x before after now rendered b a n r =
    ap (λ v. down_with x.entry x.root_size v after now rendered) b ∙ ap (λ v. down_with x.entry x.root_size (handed_before x) v now rendered) a
    ∙ ap (λ v. down_with x.entry x.root_size (handed_before x) (handed_after x) v rendered) n
    ∙ ap (down_with x.entry x.root_size (handed_before x) (handed_after x) (handed_now x)) r

pub handed_after_rendered : (x : ElementUpdate) → rendered_after x ≡ true
    → handed_down (after_parent x.parent) (after_change_style x.declared x.old (after_parent x.parent)) ≡ handed_after x
handed_after_rendered x is =
    ap (handed_down (after_parent x.parent)) (sym (after_rendered x is))
    ∙ ap (λ b. handed_down (if b then after_parent x.parent else now_parent x.parent) (after_of x)) (sym is)

pub handed_after_unrendered : (x : ElementUpdate) → rendered_after x ≡ false → handed_now x ≡ handed_after x
handed_after_unrendered x is =
    ap (handed_down (now_parent x.parent)) (sym (after_unrendered x is))
    ∙ ap (λ b. handed_down (if b then after_parent x.parent else now_parent x.parent) (after_of x)) (sym is)

-- ---- the entry

entry_with : ElementUpdate → List Gone → Bool → Bool → ComputedStyle → TransitionSet → List Gone → EntryParts
entry_with x gone rendered settled now ts cancelled =
    entry_parts true rendered settled x.declared now (effect_lists ts x.animations (x.entry.effects.gone ++ cancelled ++ gone))

pub entry_is : (x : ElementUpdate) (gone : List Gone) (rendered settled : Bool) (now : ComputedStyle) (ts : TransitionSet) (cancelled : List Gone) → rendered ≡ rendered_after x
    → settled ≡ settled_after x → now ≡ now_of x → ts ≡ transitions_of x → cancelled ≡ cancelled_of x
    → entry_parts true rendered settled x.declared now (effect_lists ts x.animations (x.entry.effects.gone ++ cancelled ++ gone)) ≡ entry_after x gone
unfolding entry_after entry_with
entry_is x gone rendered settled now ts cancelled r s n t c =
    ap (λ v. entry_with x gone v settled now ts cancelled) r ∙ ap (λ v. entry_with x gone (rendered_after x) v now ts cancelled) s
    ∙ ap (λ v. entry_with x gone (rendered_after x) (settled_after x) v ts cancelled) n
    ∙ ap (λ v. entry_with x gone (rendered_after x) (settled_after x) (now_of x) v cancelled) t
    ∙ ap (entry_with x gone (rendered_after x) (settled_after x) (now_of x) (transitions_of x)) c

-- what its before-change style hands down
abbrev pub down_before : ElementUpdate → InheritedValues
down_before x = handed_down (before_parent x.parent) (before_change_style x.entry x.old x.event.time.0 (before_parent x.parent))

-- unless it is a leaf, the element is told what its styles hand down
pub told_is : (leaf : Bool) (x : ElementUpdate) (before after now : Option InheritedValues) (rendered : Bool)
    → before ≡ (if x.entry.rendered then unless_leaf leaf (down_before x) else None) → after ≡ unless_leaf leaf (handed_after x) → now ≡ unless_leaf leaf (handed_now x)
    → rendered ≡ rendered_after x → down_told x.entry x.root_size before after now rendered ≡ unless_leaf leaf (down_after x)
told_is true x before after now rendered b a n r = ap (λ o. down_told x.entry x.root_size before o now rendered) a
told_is false x before after now rendered b a n r =
    ap (λ o. down_told x.entry x.root_size before o now rendered) a
    ∙ ap (λ o. down_told x.entry x.root_size before (Some (handed_after x)) o rendered) n
    ∙ ap Some (down_is x before (handed_after x) (handed_now x) rendered b refl refl r)
