-- What an update takes of the entry before it.
use Rattle.std.proofs.Common.{◌≡◌, ◌∙◌, refl, ap, sym, ℕ, Bool, false, Option, None, Some}
use Rattle.std.specs.Prelude.{not, ◌||◌, option_map, if◌then◌else◌}
use Rattle.std.specs.Bool.{beq}
use Rattle.std.specs.Option.{option_map_or}
use Rattle.computed_style.specs.Styles.{ComputedStyle, inherited_of}
use Rattle.computed_style.specs.Winners.{Declarations}
use Rattle.computed_style.specs.declared.inherited.Down.{Down}
use Rattle.computed_style.specs.declared.inherited.InheritedValues.{InheritedValues}
use Rattle.doc_tree.specs.Element.{is_in}
use Rattle.fix_num.specs.declared.units.Fix.{Fix}
use Rattle.pass_core.specs.declared.step.Step.TheVariants.{Kept, Updated}
use Rattle.style_data.specs.Entries.{EntryParts, entry_parts, no_effects}
use Rattle.element_step.specs.Alike.{TellTheSame}
use Rattle.element_step.specs.Updates.{after_of, cancelled_of, differs, down_after, down_with, entry_after, handed_after, handed_before, handed_now, now_of, rendered_after, settled_after, transitions_of}
use Rattle.element_step.specs.Works.{DocumentEvent, animations_updated, entry_with, from_parent, handed_with, outcome_with, update_with}

-- the entry with another current style, and settled or not
abbrev restyled : EntryParts → ComputedStyle → Bool → EntryParts
restyled e s b = entry_parts e.styled e.rendered b e.declared s e.effects

same_entry : (w : DocumentEvent) (n : ℕ) (e : EntryParts) (s : ComputedStyle) (b : Bool) (d : Declarations) (parent : Option Down)
    → entry_with w n (restyled e s b) d parent ≡ entry_with w n e d parent
unfolding entry_after transitions_of cancelled_of now_of after_of settled_after animations_updated
same_entry w n e s b d parent = refl

last_is : (s t : ComputedStyle) (o : Option Fix) → ((root : Fix) → inherited_of s root ≡ inherited_of t root) → option_map (inherited_of s) o ≡ option_map (inherited_of t) o
last_is s t None same = refl
last_is s t (Some root) same = ap Some (same root)

same_down : (w : DocumentEvent) (n : ℕ) (e : EntryParts) (s : ComputedStyle) (b : Bool) (d : Declarations) (parent : Option Down)
    → option_map (inherited_of s) w.root_size ≡ option_map (inherited_of e.now) w.root_size → handed_with w n (restyled e s b) d parent ≡ handed_with w n e d parent
unfolding down_after down_with transitions_of cancelled_of now_of after_of settled_after animations_updated
same_down w n e s b d parent same =
    let x = update_with w n e d parent in
    ap (λ (was : Option InheritedValues). record {
      before = handed_before x;
      after = handed_after x;
      now = handed_now x;
      rendered = rendered_after x;
      changed = not e.styled || option_map_or (differs was) (handed_before x) false || differs was (handed_after x) || differs was (handed_now x) || not (beq (rendered_after x) e.rendered);
    }) same

-- an entry that tells the same is the other with its own current style
other_is : (a b : EntryParts) → TellTheSame a b → a ≡ restyled b a.now a.settled
other_is a b same =
    ap (λ v. entry_parts v a.rendered a.settled a.declared a.now a.effects) same.styled
    ∙ ap (λ v. entry_parts b.styled v a.settled a.declared a.now a.effects) same.rendered
    ∙ ap (λ v. entry_parts b.styled b.rendered a.settled v a.now a.effects) same.declared
    ∙ ap (λ v. entry_parts b.styled b.rendered a.settled b.declared a.now v) (same.no_effects_before ∙ sym same.nor_there)

pub told_alike : (w : DocumentEvent) (n : ℕ) (a b : EntryParts) (d : Declarations) (down : Down) → TellTheSame a b → outcome_with w n a d down ≡ outcome_with w n b d down
unfolding outcome_with
told_alike w n a b d down same =
    let parent = from_parent w n down in
    let other = restyled b a.now a.settled in
    ap (λ e. outcome_with w n e d down) (other_is a b same)
    ∙ ap (λ e. if is_in n w.document.elements then Updated e (handed_with w n other d parent) else Kept down) (same_entry w n b a.now a.settled d parent)
    ∙ ap (λ x. if is_in n w.document.elements then Updated (entry_with w n b d parent) x else Kept down)
    (same_down w n b a.now a.settled d parent (last_is a.now b.now w.root_size same.inherited))

-- entries tell the same by their parts
pub told_by : (a b : EntryParts) → a.styled ≡ b.styled → a.rendered ≡ b.rendered → a.declared ≡ b.declared → a.effects ≡ no_effects → b.effects ≡ no_effects
    → (s t : ComputedStyle) → s ≡ a.now → t ≡ b.now → ((root : Fix) → inherited_of s root ≡ inherited_of t root) → TellTheSame a b
told_by a b styled rendered declared none nor s t first second same = record {
  styled = styled;
  rendered = rendered;
  declared = declared;
  inherited = λ root. ap (λ x. inherited_of x root) (sym first) ∙ same root ∙ ap (λ x. inherited_of x root) second;
  no_effects_before = none;
  nor_there = nor;
}
