-- Outcomes as they are asked for: below a leaf nobody asks for what is handed down.
use Rattle.std.proofs.Common.{◌≡◌, ◌||◌, Bor, refl, ap, Bool, true, false, Option, Some, None}
use Rattle.std.specs.Prelude.{IfSome, if◌then◌else◌, is_some, option_copied}
use Rattle.computed_style.specs.declared.inherited.Down.{Down}
use Rattle.pass_core.specs.Work.{asked}
use Rattle.pass_core.specs.declared.step.Step.{Step}
use Rattle.pass_core.specs.declared.step.Step.TheVariants.{Kept, Updated}
use Rattle.style_data.specs.Entries.{EntryParts}
use Rattle.element_step.specs.Quiet.{moving_step, moving_told}
use Rattle.element_step.specs.Updates.{unless_leaf}
use Rattle.element_step.specs.declared.quiet.QuietDown.{QuietDown}

pub moving_asked : (leaf untouched : Bool) (s : Step EntryParts Down) → moving_told untouched (asked leaf s) ≡ asked leaf (moving_step untouched s)
moving_asked true untouched (Updated entry down) = refl
moving_asked true untouched (Kept down) = refl
moving_asked false untouched (Updated entry down) = refl
moving_asked false untouched (Kept down) = refl

-- what is taken over of what a sibling hands down is that, where it tells what is asked for
pub sibling_tells : (leaf : Bool) (told : Option (Bor QuietDown)) (handed : QuietDown) → IfSome told (λ d. d.now ≡ handed) → (leaf || is_some told) ≡ true
    → (if leaf then None else option_copied told) ≡ unless_leaf leaf handed
sibling_tells true told handed is enough = refl
sibling_tells false (Some d) handed is enough = ap Some is
sibling_tells false None handed is enough = absurd (cc)
