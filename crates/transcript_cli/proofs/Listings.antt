-- The listing of an element, part by part.
use Rattle.std.proofs.Common.{◌≡◌, ℕ, ap, ◌∙◌, List, ◌++◌, append_assoc}
use Rattle.std.specs.Prelude.{flat_map, filter, Result, Ok, Err, OnOk}
use Rattle.style_data.specs.Entries.{EntryParts}
use Rattle.style_data.specs.declared.animation.AnimationState.{AnimationState}
use Rattle.style_data.specs.declared.gone.Gone.{Gone}
use Rattle.style_data.specs.declared.transition.Completed.{Completed}
use Rattle.style_data.specs.declared.transition.Transition.{Transition}
use Rattle.transcript_text.specs.Lines.{animation_line, completed_line, gone_line, running_line}
use Rattle.transcript_cli.specs.Listing.{is_animation, is_transition, listing_of}
use Rattle.value_types.specs.declared.property.PropertyId.{PropertyId}

appended : (start x y p q : List ℕ) → x ≡ start ++ p → y ≡ x ++ q → y ≡ start ++ (p ++ q)
appended start x y p q first second = second ∙ ap (λ (text : List ℕ). text ++ q) first ∙ append_assoc start p q

-- what was read of the entry
pub record IsRead (e : EntryParts) (running : List (PropertyId × Transition)) (completed : List (PropertyId × Completed)) (animations : List AnimationState) (gone again : List Gone) : Type 0 where
  pub running_are : running ≡ e.effects.transitions.running
  pub completed_are : completed ≡ e.effects.transitions.completed
  pub animations_are : animations ≡ e.effects.animations
  pub gone_are : gone ≡ e.effects.gone
  pub again_are : again ≡ e.effects.gone

-- and appended, one part after the other
pub record AreAppended (n : ℕ) (running : List (PropertyId × Transition)) (completed : List (PropertyId × Completed)) (animations : List AnimationState) (gone : List Gone)
    (start a b c d : List ℕ) : Type 0 where
  pub first : a ≡ start ++ flat_map (λ r. running_line n r.0 r.1) running
  pub second : b ≡ a ++ flat_map (λ r. completed_line n r.0 r.1) completed
  pub third : c ≡ b ++ flat_map (animation_line n) animations
  pub fourth : d ≡ c ++ flat_map (gone_line n) (filter is_transition gone)

pub listed : {E : Type 0} (r : Result (Unit {0}) E) (n : ℕ) (e : EntryParts) (running : List (PropertyId × Transition)) (completed : List (PropertyId × Completed)) (animations : List AnimationState)
    (gone again : List Gone) (start a b c d out : List ℕ) → IsRead e running completed animations gone again → AreAppended n running completed animations gone start a b c d
    → OnOk r (out ≡ d ++ flat_map (gone_line n) (filter is_animation again)) → OnOk r (out ≡ start ++ listing_of n e)
listed (Err fault) n e running completed animations gone again start a b c d out is read last = tt
listed (Ok x) n e running completed animations gone again start a b c d out is read last =
    appended start d out _ (flat_map (gone_line n) (filter is_animation e.effects.gone))
    (appended start c d _ (flat_map (gone_line n) (filter is_transition e.effects.gone))
    (appended start b c _ (flat_map (animation_line n) e.effects.animations)
    (appended start a b _ (flat_map (λ r. completed_line n r.0 r.1) e.effects.transitions.completed)
    (read.first ∙ ap (λ xs. start ++ flat_map (λ r. running_line n r.0 r.1) xs) is.running_are)
    (read.second ∙ ap (λ xs. a ++ flat_map (λ r. completed_line n r.0 r.1) xs) is.completed_are))
    (read.third ∙ ap (λ xs. b ++ flat_map (animation_line n) xs) is.animations_are))
    (read.fourth ∙ ap (λ xs. c ++ flat_map (gone_line n) (filter is_transition xs)) is.gone_are))
    (last ∙ ap (λ xs. d ++ flat_map (gone_line n) (filter is_animation xs)) is.again_are)
