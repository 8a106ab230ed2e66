-- An element's update in the event of a document, from its parts.
use Rattle.std.proofs.Common.{◌≡◌, ◌∙◌, refl, ap, arith, ℕ, Bool, true, false, ◌&&◌, List, [], ◌∷◌, length, Option, Some}
use Rattle.std.specs.Prelude.{◌==◌, unwrap_or}
use Rattle.std.proofs.lemmas.Bool.{eqb-true}
use Rattle.animation_names.specs.Numbered.{given_below}
use Rattle.animation_names.specs.Updates.{animations_after, gone_after, paired_of}
use Rattle.computed_style.specs.ComputedStyles.{AnimatedValues}
use Rattle.computed_style.specs.Winners.{Declarations}
use Rattle.computed_style.specs.declared.inherited.Down.{Down}
use Rattle.doc_tree.specs.Element.{is_in}
use Rattle.fix_num.specs.declared.units.Fix.{Fix}
use Rattle.fix_num.specs.declared.units.Micros.{Micros}
use Rattle.pass_core.specs.declared.step.Step.TheVariants.{Kept, Updated}
use Rattle.sheet_types.specs.Sheets.{SheetRules}
use Rattle.style_data.specs.Entries.{EntryParts}
use Rattle.style_data.specs.declared.animation.AnimationState.{AnimationState}
use Rattle.timing_types.specs.TimingLists.{AnimationValues, initial_animations}
use Rattle.transition_update.specs.declared.event.StyleChangeEvent.{StyleChangeEvent}
use Rattle.element_step.specs.Quiet.{declared_in, handed_at_rest, is_at_rest, moving_step, outcome_where, quiet_down}
use Rattle.element_step.specs.Rendering.{is_rendered}
use Rattle.element_step.specs.Updates.{element_update}
use Rattle.element_step.specs.Works.{DocumentEvent, animated_values_in, animation_lists_after, animations_before, animations_updated, element_declarations, entry_with, event_at, from_parent, handed_with, outcome_in, outcome_with, paired_with, top_down, update_at, update_with}
use Rattle.element_step.specs.declared.quiet.QuietDown.{QuietDown}

-- ---- animations

pub paired_is : (w : DocumentEvent) (event : StyleChangeEvent) (rendered : Bool) (entry : EntryParts) (d : Declarations) (before : List AnimationState) (lists : AnimationValues) (sheets : List (Option SheetRules))
    → before ≡ animations_before rendered entry → lists ≡ animation_lists_after rendered d → sheets ≡ w.sheets
    → paired_of before lists sheets event.time event.generation event.position ≡ animations_updated w event rendered entry d
unfolding animations_updated
paired_is w event rendered entry d before lists sheets b l s =
    ap (λ v. paired_of v lists sheets event.time event.generation event.position) b
    ∙ ap (λ v. paired_of (animations_before rendered entry) v sheets event.time event.generation event.position) l
    ∙ ap (λ v. paired_of (animations_before rendered entry) (animation_lists_after rendered d) v event.time event.generation event.position) s

-- where there is no animation and no name, there is none after the event
pub nothing_paired : (sheets : List (Option SheetRules)) (time : Micros) (generation position : ℕ) → paired_of [] initial_animations sheets time generation position ≡ record { animations = []; gone = [] }
unfolding animations_after gone_after given_below
nothing_paired sheets time generation position = refl

-- ---- the update

pub update_is : (w : DocumentEvent) (n : ℕ) (entry : EntryParts) (parent : Option Down) (d : Declarations) (old new : AnimatedValues) (animations : List AnimationState) (root_size : Option Fix) (event : StyleChangeEvent)
    → old ≡ animated_values_in w w.old entry.effects.animations → new ≡ animated_values_in w w.sheets animations → animations ≡ (paired_with w n entry d parent).animations
    → root_size ≡ w.root_size → event ≡ event_at w n → element_update entry d parent old new animations root_size event ≡ update_with w n entry d parent
update_is w n entry parent d old new animations root_size event olds news paired size at =
    ap (λ v. element_update entry d parent v new animations root_size event) olds
    ∙ ap (λ v. element_update entry d parent (animated_values_in w w.old entry.effects.animations) v animations root_size event) news
    ∙ ap (λ v. element_update entry d parent (animated_values_in w w.old entry.effects.animations) (animated_values_in w w.sheets v) v root_size event) paired
    ∙ ap (λ v. element_update entry d parent (animated_values_in w w.old entry.effects.animations) (animated_values_in w w.sheets (paired_with w n entry d parent).animations) (paired_with w n entry d parent).animations v event) size
    ∙ ap (λ v. element_update entry d parent (animated_values_in w w.old entry.effects.animations) (animated_values_in w w.sheets (paired_with w n entry d parent).animations) (paired_with w n entry d parent).animations w.root_size v) at

-- the animations of the event at the element, by its parts
pub pairs_at : (w : DocumentEvent) (n : ℕ) (entry : EntryParts) (parent : Option Down) (event : StyleChangeEvent) (rendered : Bool) (d : Declarations)
    → event ≡ event_at w n → rendered ≡ is_rendered d parent → animations_updated w event rendered entry d ≡ paired_with w n entry d parent
pairs_at w n entry parent event rendered d at shown = ap (λ v. animations_updated w v rendered entry d) at ∙ ap (λ v. animations_updated w (event_at w n) v entry d) shown

-- ---- the outcome

pub outside_is : (w : DocumentEvent) (n : ℕ) (entry : EntryParts) (d : Declarations) (down : Down) → is_in n w.document.elements ≡ false → outcome_with w n entry d down ≡ Kept down
unfolding outcome_with
outside_is w n entry d down is = rw is refl

pub inside_is : (w : DocumentEvent) (n : ℕ) (entry : EntryParts) (d : Declarations) (down : Down) → is_in n w.document.elements ≡ true
    → Updated (entry_with w n entry d (from_parent w n down)) (handed_with w n entry d (from_parent w n down)) ≡ outcome_with w n entry d down
unfolding outcome_with
inside_is w n entry d down is = rw is refl

-- an element declares what the sheets and its style attribute tell
pub outcome_is : (w : DocumentEvent) (n : ℕ) (entry : EntryParts) (down : Down) → outcome_with w n entry (element_declarations w n) down ≡ outcome_in w n entry down
unfolding outcome_with outcome_in update_at
outcome_is w n entry down = refl

-- ---- the outcome in a quiet event

pub at_rest_is : (untouched : Bool) (w : DocumentEvent) (n : ℕ) (entry : EntryParts) (down : QuietDown) → (untouched && down.rests && is_at_rest entry) ≡ true
    → Kept (quiet_down (Some (handed_at_rest entry down.parent)) true true) ≡ outcome_where untouched w n entry down
unfolding outcome_where
at_rest_is untouched w n entry down is = rw is refl

pub in_motion_is : (untouched : Bool) (w : DocumentEvent) (n : ℕ) (entry : EntryParts) (down : QuietDown) → (untouched && down.rests && is_at_rest entry) ≡ false
    → moving_step untouched (outcome_with w n entry (declared_in untouched w n entry) (unwrap_or down.parent top_down)) ≡ outcome_where untouched w n entry down
unfolding outcome_where
in_motion_is untouched w n entry down is = rw is refl

-- nothing is left of an empty list
pub empty_of : {X : Type 0} (xs : List X) → (length xs == 0) ≡ true → xs ≡ []
empty_of [] is = refl
empty_of (x ∷ xs) is = absurd (omega (arith, eqb-true (length (x ∷ xs)) 0 is))
