-- What a work on a tree does.
use Rattle.std.specs.Prelude.{◌≡◌, ℕ, Bool, if◌then◌else◌, Option, None, Some, IfSome}
use Rattle.pass_core.specs.declared.sibling.Sibling.{Sibling}
use Rattle.pass_core.specs.declared.step.Step.{Step}
use Rattle.pass_core.specs.declared.step.Step.TheVariants.{Updated, Kept}

-- the outcome of an element's update, from its entry and from what is handed down to it; and what is handed down where the parent isn't in the plan
pub record Meaning (E D : Type 0) : Type 0 where
  pub outcome : ℕ → E → D → Step E D
  pub top : D

-- what the outcome hands down
abbrev pub down_of : {E D : Type 0} → Step E D → D
down_of (Updated x d) = d
down_of (Kept d) = d

-- the entry after the outcome, from the one before it
abbrev pub entry_after : {E D : Type 0} → Step E D → E → E
entry_after (Updated x d) before = x
entry_after (Kept d) before = before

-- the outcome as it is asked for: at a leaf of the plan without what it hands down
abbrev pub asked : {E D : Type 0} → Bool → Step E D → Step E (Option D)
asked leaf (Updated x d) = Updated x (if leaf then None else Some d)
asked leaf (Kept d) = Kept (if leaf then None else Some d)

-- the sibling's update gave this, over what is handed down
pub record IsSibling {E D : Type 0} (m : Meaning E D) (down : D) (s : Sibling E D) : Type 0 where
  pub handed : D
  pub outcome_is : m.outcome s.element s.before.now down ≡ Updated s.after.now handed
  pub handed_is : IfSome s.down (λ d. d.now ≡ handed)
