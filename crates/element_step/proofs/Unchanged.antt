-- Elements of which nothing changes but by their transitions.
use Rattle.std.proofs.Common.{◌≡◌, ℕ, refl, sym, ◌∙◌, ap, subst, arith, rules}
use Rattle.std.specs.Prelude.{ℤ, Bool, true, false, cond, find, nat_eq, not, ◌&&◌, List, [], ◌∷◌, Option, None, Some, length, option_map, unwrap_or}
use Rattle.std.specs.Bool.{OnTrue}
use Rattle.std.proofs.lemmas.Bool.Decides.{Decides-and, Decides-int_eq}
use Rattle.fix_num.specs.declared.units.Fix.{Fix}
use Rattle.value_types.specs.declared.property.PropertyId.{PropertyId}
use Rattle.value_types.specs.declared.property.PropertyId.TheVariants.{Color, FontSize, LetterSpacing, Visibility}
use Rattle.value_types.specs.declared.value.Value.{Value}
use Rattle.value_types.specs.Properties.{all_properties, number_of}
use Rattle.value_types.specs.Table.{is_inherited}
use Rattle.computed_style.specs.ByProperty.{kept_for}
use Rattle.computed_style.proofs.StyleLemmas.{value_at-values_with}
use Rattle.computed_style.proofs.Tables.{same_property}
use Rattle.computed_style.specs.ComputedStyles.{AnimatedValues, computed_style}
use Rattle.computed_style.specs.Styles.{ComputedStyle, font_size_of, inherited_of, pixels_of_length, style_with, value_of}
use Rattle.computed_style.specs.Winners.{Declarations}
use Rattle.computed_style.specs.declared.inherited.Down.{Down}
use Rattle.computed_style.specs.declared.inherited.InheritedValues.{InheritedValues}
use Rattle.interpolation.proofs.EqualityLemmas.{same_tells}
use Rattle.change_styles.specs.Inheritance.{handed_down}
use Rattle.change_styles.specs.ThreeStyles.{after_change_style, before_change_style, transitioned_at}
use Rattle.change_styles.proofs.OnTop.{before-on_top}
use Rattle.change_styles.proofs.PathLemmas.{none_given}
use Rattle.style_data.specs.Entries.{EntryParts}
use Rattle.style_data.specs.TransitionSets.{TransitionSet}
use Rattle.style_data.specs.declared.transition.Transition.{Transition}
use Rattle.transition_update.specs.Idle.{AreOthersSame}
use Rattle.transition_update.specs.Updates.{style_change}
use Rattle.transition_update.specs.declared.event.StyleChangeEvent.{StyleChangeEvent}
use Rattle.element_step.specs.Restyling.{IsUnchanged, RunOn, none_inherited}
use Rattle.element_step.specs.Settling.{have_same_values, is_same_inherited}
use Rattle.element_step.specs.Updates.{after_parent, before_parent, cancelled_from, transitions_from}
use Rattle.element_step.proofs.Rendered.{same_itself}

-- ---- what is inherited

inherited : Value → Fix → Value → Value → Fix → InheritedValues
inherited color font_size letter_spacing visibility root_size =
    record { color = color; font_size = font_size; letter_spacing = letter_spacing; visibility = visibility; root_size = root_size }

fix_again : (a b : Fix) → a.0 ≡ b.0 → a ≡ b
fix_again a b same = ap (λ (n : ℤ). let f : Fix = record { 0 = n } in f) same

pub same_inherited : (a b : InheritedValues) → is_same_inherited a b ≡ true → a ≡ b
unfolding inherited
same_inherited a b same =
    let ((((color, size), spacing), visibility), root) =
    (Decides-and _ _
    (Decides-and _ _ (Decides-and _ _ (Decides-and _ _ (same_tells a.color b.color) (Decides-int_eq a.font_size.0 b.font_size.0)) (same_tells a.letter_spacing b.letter_spacing))
    (same_tells a.visibility b.visibility)) (Decides-int_eq a.root_size.0 b.root_size.0)).0 same in
    ap (λ v. inherited v a.font_size a.letter_spacing a.visibility a.root_size) color
    ∙ ap (λ v. inherited b.color v a.letter_spacing a.visibility a.root_size) (fix_again a.font_size b.font_size size)
    ∙ ap (λ v. inherited b.color b.font_size v a.visibility a.root_size) spacing
    ∙ ap (λ v. inherited b.color b.font_size b.letter_spacing v a.root_size) visibility
    ∙ ap (λ v. inherited b.color b.font_size b.letter_spacing b.visibility v) (fix_again a.root_size b.root_size root)

pub on_true : {P : Type 0} (b : Bool) → (b ≡ true → P) → OnTrue b P
on_true true h = h refl
on_true false h = tt

-- ---- an element with transitions

-- a property of which none runs has the same value below
same_value : (d : Declarations) (old : AnimatedValues) (parent : Option InheritedValues) (after : ComputedStyle) (running : List (PropertyId × Transition)) (t : ℤ)
    → after ≡ after_change_style d old parent → (p : PropertyId) → kept_for p running ≡ None → value_of (style_with after (transitioned_at running t)) p ≡ value_of after p
unfolding computed_style
same_value d old parent after running t is p none =
    value_at-values_with after.values (transitioned_at running t) p (ap (λ (s : ComputedStyle). length s.values) is)
    ∙ ap (λ o. unwrap_or o (value_of after p)) (none_given running p t none)

-- a property of which none runs has the same value under the values that the running ones give
pub others_same : (d : Declarations) (old : AnimatedValues) (parent : Option InheritedValues) (after : ComputedStyle) (ts : TransitionSet) (t : ℤ)
    → after ≡ after_change_style d old parent → AreOthersSame (style_with after (transitioned_at ts.running t)) after ts
others_same d old parent after ts t is = λ p none. same_value d old parent after ts.running t is p none.running

number : (m n : ℕ) → nat_eq m n ≡ true → m ≡ n
number m n e = grind (arith, rules)

and_left : (a b : Bool) → (a && b) ≡ true → a ≡ true
and_left true b e = refl
and_left false b e = absurd (cc)

and_right : (a b : Bool) → (a && b) ≡ true → b ≡ true
and_right true b e = e
and_right false b e = absurd (cc)

no_longer : (a : Bool) → not a ≡ true → a ≡ true → ⊥
no_longer true e is = cc
no_longer false e is = cc

-- none runs of an inherited property
none_runs : (running : List (PropertyId × Transition)) (p : PropertyId) → none_inherited running ≡ true → is_inherited p ≡ true → kept_for p running ≡ None
none_runs [] p none is = refl
none_runs (r ∷ rs) p none is = go (nat_eq (number_of r.0) (number_of p)) refl (λ later. none_runs rs p later is) where
  go : (b : Bool) → nat_eq (number_of r.0) (number_of p) ≡ b → (none_inherited rs ≡ true → kept_for p rs ≡ None)
      → option_map (λ k. k.1) (cond b (Some r) (find (λ k. nat_eq (number_of k.0) (number_of p)) rs)) ≡ None
  go true e later =
      absurd
      (no_longer (is_inherited r.0) (and_left (not (is_inherited r.0)) (none_inherited rs) none)
      (ap is_inherited (same_property r.0 p (number (number_of r.0) (number_of p) e)) ∙ is))
  go false e later = later (and_right (not (is_inherited r.0)) (none_inherited rs) none)

-- styles with the same inherited values hand down the same
same_inherited_of : (a b : ComputedStyle) (root : Fix) → ((p : PropertyId) → is_inherited p ≡ true → value_of a p ≡ value_of b p) → inherited_of a root ≡ inherited_of b root
unfolding inherited
same_inherited_of a b root same =
    ap (λ v. inherited v (font_size_of a) (value_of a LetterSpacing) (value_of a Visibility) root) (same Color refl)
    ∙ ap (λ v. inherited (value_of b Color) (pixels_of_length v) (value_of a LetterSpacing) (value_of a Visibility) root) (same FontSize refl)
    ∙ ap (λ v. inherited (value_of b Color) (font_size_of b) v (value_of a Visibility) root) (same LetterSpacing refl)
    ∙ ap (λ v. inherited (value_of b Color) (font_size_of b) (value_of b LetterSpacing) v root) (same Visibility refl)

same_handed : (above : Option InheritedValues) (a b : ComputedStyle) → ((p : PropertyId) → is_inherited p ≡ true → value_of a p ≡ value_of b p) → handed_down above a ≡ handed_down above b
same_handed None a b same = same_inherited_of a b (font_size_of a) same ∙ ap (λ v. inherited_of b (pixels_of_length v)) (same FontSize refl)
same_handed (Some i) a b same = same_inherited_of a b i.root_size same

-- where none runs of an inherited property, the values that the running ones give change nothing of what is handed down
pub handed_alike : (d : Declarations) (old : AnimatedValues) (parent : Option InheritedValues) (after s : ComputedStyle) (running : List (PropertyId × Transition)) (t : ℤ)
    → after ≡ after_change_style d old parent → s ≡ style_with after (transitioned_at running t) → none_inherited running ≡ true → (above : Option InheritedValues) → above ≡ parent
    → handed_down parent after ≡ handed_down above s
handed_alike d old parent after s running t is on_top none above inherits =
    sym
    (ap (handed_down above) on_top
    ∙ same_handed above (style_with after (transitioned_at running t)) after (λ p inherited. same_value d old parent after running t is p (none_runs running p none inherited))
    ∙ ap (λ (i : Option InheritedValues). handed_down i after) inherits)

-- ---- an element whose transitions run on

-- none runs of the font size, which is inherited: its before-change style is its after-change style with the values that the
-- running ones give
on_top : (e : EntryParts) (d : Declarations) (old : AnimatedValues) (t : ℤ) (parent : Option Down) (after : ComputedStyle) → IsUnchanged e d parent
    → RunOn after e.effects.transitions → after ≡ after_change_style d old (after_parent parent)
    → style_with after (transitioned_at e.effects.transitions.running t) ≡ before_change_style e old t (before_parent parent)
on_top e d old t parent after unchanged on is =
    ap (λ (s : ComputedStyle). style_with s (transitioned_at e.effects.transitions.running t)) is
    ∙ before-on_top e d old t (before_parent parent) (after_parent parent) unchanged.declared unchanged.inherited
    (none_runs e.effects.transitions.running FontSize on.inherited refl)

others_stay : (e : EntryParts) (d : Declarations) (old : AnimatedValues) (t : ℤ) (parent : Option Down) (after : ComputedStyle) → IsUnchanged e d parent
    → RunOn after e.effects.transitions → after ≡ after_change_style d old (after_parent parent)
    → AreOthersSame (before_change_style e old t (before_parent parent)) after e.effects.transitions
others_stay e d old t parent after unchanged on is =
    subst (λ (s : ComputedStyle). AreOthersSame s after e.effects.transitions) (on_top e d old t parent after unchanged on is)
    (others_same d old (after_parent parent) after e.effects.transitions t is)

pub all_left : (e : EntryParts) (d : Declarations) (old : AnimatedValues) (parent : Option Down) (after : ComputedStyle) (event : StyleChangeEvent) → e.rendered ≡ true
    → IsUnchanged e d parent → RunOn after e.effects.transitions → after ≡ after_change_style d old (after_parent parent)
    → e.effects.transitions
    ≡ transitions_from e.rendered (style_change (before_change_style e old event.time.0 (before_parent parent)) after event) e.effects.transitions
all_left e d old parent after event rendered unchanged on is =
    let before = before_change_style e old event.time.0 (before_parent parent) in
    sym
    (ap (λ (b : Bool). transitions_from b (style_change before after event) e.effects.transitions) rendered
    ∙ on.stay.transitions before event (others_stay e d old event.time.0 parent after unchanged on is))

pub none_gone : (e : EntryParts) (d : Declarations) (old : AnimatedValues) (parent : Option Down) (after : ComputedStyle) (event : StyleChangeEvent) → e.rendered ≡ true
    → IsUnchanged e d parent → RunOn after e.effects.transitions → after ≡ after_change_style d old (after_parent parent)
    → [] ≡ cancelled_from e.rendered (style_change (before_change_style e old event.time.0 (before_parent parent)) after event) e.effects.transitions
none_gone e d old parent after event rendered unchanged on is =
    let before = before_change_style e old event.time.0 (before_parent parent) in
    sym
    (ap (λ (b : Bool). cancelled_from b (style_change before after event) e.effects.transitions) rendered
    ∙ on.stay.cancelled before event (others_stay e d old event.time.0 parent after unchanged on is))

-- its before-change style hands down what its after-change style does
pub handed_on : (e : EntryParts) (d : Declarations) (old : AnimatedValues) (t : ℤ) (parent : Option Down) (after : ComputedStyle) → IsUnchanged e d parent
    → RunOn after e.effects.transitions → after ≡ after_change_style d old (after_parent parent)
    → handed_down (after_parent parent) after ≡ handed_down (before_parent parent) (before_change_style e old t (before_parent parent))
handed_on e d old t parent after unchanged on is =
    handed_alike d old (after_parent parent) after (before_change_style e old t (before_parent parent)) e.effects.transitions.running t is
    (sym (on_top e d old t parent after unchanged on is)) on.inherited (before_parent parent) unchanged.inherited

-- ---- settled

and_same : (b c : Bool) → c ≡ true → b ≡ (b && c)
and_same true c is = sym is
and_same false c is = refl

-- where nothing runs the styles are the same, and where something runs it doesn't matter
pub settled_by : (running : List (PropertyId × Transition)) (ended : Bool) (t : ℤ) (after now : ComputedStyle) (none : Bool) → (none ≡ true → running ≡ [])
    → now ≡ style_with after (transitioned_at running t) → (none && ended) ≡ (none && ended && have_same_values after now)
settled_by running ended t after now true empty on_top =
    let same : now ≡ after = on_top ∙ ap (λ (rs : List (PropertyId × Transition)). style_with after (transitioned_at rs t)) (empty refl) in
    and_same ended (have_same_values after now) (ap (λ (s : ComputedStyle). have_same_values after s) same ∙ same_itself after all_properties)
settled_by running ended t after now false empty on_top = refl
