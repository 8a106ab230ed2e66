-- What is handed down stands for whole styles.
use Rattle.std.proofs.Common.{◌≡◌, ℕ, refl, ap, ◌∙◌, Bool, true, false, Option, Some, None}
use Rattle.std.specs.Prelude.{option_map, if◌then◌else◌}
use Rattle.change_styles.specs.Inheritance.{Ancestors, handed_down, inherited_from, with_child}
use Rattle.computed_style.specs.Styles.{ComputedStyle}
use Rattle.computed_style.specs.declared.inherited.Down.{Down}
use Rattle.computed_style.specs.declared.inherited.InheritedValues.{InheritedValues}
use Rattle.element_step.specs.Updates.{ElementUpdate, after_of, after_parent, before_parent, cancelled_of, down_after, down_with, entry_after, handed_after, handed_before, handed_now, now_of, now_parent, rendered_after, settled_after, transitions_of}
use Rattle.element_step.specs.Works.{DocumentEvent, animations_updated, handed_by, entry_at, update_at}
use Rattle.style_data.specs.Entries.{EntryParts}
use Rattle.restyle.specs.StyleChanges.{StylesAbove, after_above, before_above, before_of, inherited_above, now_above, styles_below}

-- what is handed down, but for whether the elements below have to be updated
abbrev pub plain : Down → Down
plain d = record d { changed = false }

abbrev pub plainly : Option Down → Option Down
plainly o = option_map plain o

-- ---- an update asks no more of its parent

pub now_plainly : (parent : Option Down) → now_parent parent ≡ now_parent (plainly parent)
now_plainly None = refl
now_plainly (Some d) = refl

pub entry_plainly : (w : DocumentEvent) (n : ℕ) (entry : EntryParts) (parent : Option Down) → entry_at w n entry parent ≡ entry_at w n entry (plainly parent)
unfolding update_at animations_updated entry_after transitions_of cancelled_of now_of after_of settled_after
entry_plainly w n entry None = refl
entry_plainly w n entry (Some d) = refl

pub down_plainly : (w : DocumentEvent) (n : ℕ) (entry : EntryParts) (parent : Option Down) → handed_by w n entry parent ≡ handed_by w n entry (plainly parent)
unfolding update_at animations_updated down_after down_with transitions_of now_of after_of
down_plainly w n entry None = refl
down_plainly w n entry (Some d) = refl

-- ---- five values stand for styles

pub handed : (above : Option Ancestors) (s : ComputedStyle) → handed_down (option_map inherited_from above) s ≡ inherited_from (with_child above s)
handed None s = refl
handed (Some a) s = refl

pub before_inherited : (above : Option StylesAbove) → before_parent (option_map inherited_above above) ≡ option_map inherited_from (before_above above)
before_inherited None = refl
before_inherited (Some a) = refl

pub after_inherited : (above : Option StylesAbove) → after_parent (option_map inherited_above above) ≡ option_map inherited_from (after_above above)
after_inherited None = refl
after_inherited (Some a) = refl

pub now_inherited : (above : Option StylesAbove) → now_parent (option_map inherited_above above) ≡ option_map inherited_from (now_above above)
now_inherited None = refl
now_inherited (Some a) = refl

unfoldable pub made : Option InheritedValues → InheritedValues → InheritedValues → Bool → Down
made before after now rendered = record { before = before; after = after; now = now; rendered = rendered; changed = false }

module _ (above : Option StylesAbove) (x : ElementUpdate) (under : x.parent ≡ option_map inherited_above above) where
  before_handed : handed_before x ≡ option_map inherited_from (if x.entry.rendered then Some (with_child (before_above above) (before_of x)) else None)
  before_handed = at x.entry.rendered where
    at : (b : Bool) → (if b then Some (handed_down (before_parent x.parent) (before_of x)) else None) ≡ option_map inherited_from (if b then Some (with_child (before_above above) (before_of x)) else None)
    at true = ap Some (ap (λ p. handed_down (before_parent p) (before_of x)) under ∙ ap (λ p. handed_down p (before_of x)) (before_inherited above) ∙ handed (before_above above) (before_of x))
    at false = refl

  after_handed : handed_after x ≡ inherited_from (with_child (if rendered_after x then after_above above else now_above above) (after_of x))
  after_handed = at (rendered_after x) where
    at : (b : Bool) → handed_down (if b then after_parent x.parent else now_parent x.parent) (after_of x) ≡ inherited_from (with_child (if b then after_above above else now_above above) (after_of x))
    at true = ap (λ p. handed_down (after_parent p) (after_of x)) under ∙ ap (λ p. handed_down p (after_of x)) (after_inherited above) ∙ handed (after_above above) (after_of x)
    at false = ap (λ p. handed_down (now_parent p) (after_of x)) under ∙ ap (λ p. handed_down p (after_of x)) (now_inherited above) ∙ handed (now_above above) (after_of x)

  now_handed : handed_now x ≡ inherited_from (with_child (now_above above) (now_of x))
  now_handed = ap (λ p. handed_down (now_parent p) (now_of x)) under ∙ ap (λ p. handed_down p (now_of x)) (now_inherited above) ∙ handed (now_above above) (now_of x)

  pub below_is : plain (down_after x) ≡ inherited_above (styles_below above x)
  unfolding down_after down_with made styles_below
  below_is =
      ap (λ b. made b (handed_after x) (handed_now x) (rendered_after x)) before_handed
      ∙ ap (λ a. made (option_map inherited_from (if x.entry.rendered then Some (with_child (before_above above) (before_of x)) else None)) a (handed_now x) (rendered_after x)) after_handed
      ∙ ap (λ n. made (option_map inherited_from (if x.entry.rendered then Some (with_child (before_above above) (before_of x)) else None))
      (inherited_from (with_child (if rendered_after x then after_above above else now_above above) (after_of x))) n (rendered_after x)) now_handed

pub parent_is : (w : DocumentEvent) (n : ℕ) (entry : EntryParts) (parent : Option Down) → (update_at w n entry parent).parent ≡ parent
unfolding update_at
parent_is w n entry parent = refl
