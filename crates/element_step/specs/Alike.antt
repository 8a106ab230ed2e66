-- Elements whose updates give the same.
use Rattle.std.specs.Prelude.{◌≡◌, ℕ, List, IsTrue}
use Rattle.cascade_sort.specs.Alike.{AreSiblingsAlike}
use Rattle.computed_style.specs.Styles.{inherited_of}
use Rattle.fix_num.specs.declared.units.Fix.{Fix}
use Rattle.pass_core.specs.declared.sibling.Sibling.{Sibling}
use Rattle.style_data.specs.Entries.{EntryParts, no_effects}
use Rattle.element_step.specs.Quiet.{has_no_effects, is_untouched_below}
use Rattle.element_step.specs.Works.{DocumentEvent, element_declarations}
use Rattle.element_step.specs.declared.quiet.QuietDown.{QuietDown}

-- both entries tell an update the same: the elements were styled and rendered alike, they declare and hand down the same, and neither has effects
pub record TellTheSame (a b : EntryParts) : Type 0 where
  pub styled : a.styled ≡ b.styled
  pub rendered : a.rendered ≡ b.rendered
  pub declared : a.declared ≡ b.declared
  pub inherited : (root : Fix) → inherited_of a.now root ≡ inherited_of b.now root
  pub no_effects_before : a.effects ≡ no_effects
  pub nor_there : b.effects ≡ no_effects

-- elements n and m are siblings alike, and so declare the same
pub record AreOfOneKind (w : DocumentEvent) (n m : ℕ) : Type 0 where
  pub alike : AreSiblingsAlike n m w.document.elements
  pub declared : element_declarations w n ≡ element_declarations w m

-- the sibling's update gives what that of element n does: nothing tells them apart but their places, neither was touched or both were, and the update leaves no effects, which alone note places
pub record GivesTheSame (touched : List ℕ) (w : DocumentEvent) (n : ℕ) (entry : EntryParts) (down : QuietDown) (s : Sibling EntryParts QuietDown) : Type 0 where
  pub elements : AreOfOneKind w n s.element
  pub entries : TellTheSame entry s.before.now
  pub touched_alike : is_untouched_below touched s.element down ≡ is_untouched_below touched n down
  pub no_effects_after : IsTrue (has_no_effects s.after.now.effects)
