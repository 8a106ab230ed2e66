-- What an event leaves of elements at rest, where neither they nor their ancestors nor the sheets have changed since the event before.
use Rattle.std.proofs.Common.{◌≡◌, ℕ, refl, ap, sym, ◌∙◌, subst, Bool, true, false, ◌&&◌, List, [], ◌∷◌, Option, Some, None}
use Rattle.std.specs.Prelude.{ℤ, All, IsSome, option_map, if◌then◌else◌}
use Rattle.std.proofs.lemmas.Bool.{and_parts}
use Rattle.std.proofs.lemmas.List.Elements.{All-head, All-tail}
use Rattle.animation_names.specs.Updates.{AreAnimationsOf}
use Rattle.change_styles.specs.Inheritance.{handed_down, inherited_from, with_child}
use Rattle.computed_style.specs.Winners.{Declarations}
use Rattle.computed_style.specs.declared.inherited.Down.{Down}
use Rattle.computed_style.specs.declared.inherited.InheritedValues.{InheritedValues}
use Rattle.cascade_sort.specs.Winning.{declared_of}
use Rattle.doc_tree.specs.Element.{Document, Element, is_in}
use Rattle.element_step.specs.Quiet.{down_of_one, handed_at_rest}
use Rattle.element_step.specs.Rendering.{is_displayed, is_rendered}
use Rattle.element_step.specs.Updates.{ElementUpdate, after_of, now_of, now_parent, rendered_after}
use Rattle.element_step.specs.Works.{DocumentEvent, animation_lists_after, element_declarations, entry_at, event_at, update_at}
use Rattle.fix_num.specs.declared.units.Fix.{Fix}
use Rattle.fix_num.specs.declared.units.Micros.{Micros}
use Rattle.style_data.specs.Entries.{EffectLists, EntryParts}
use Rattle.restyle.specs.Rest.{IsStill}
use Rattle.restyle.specs.StyleChanges.{StylesAbove, after_above, ancestors_of, before_above, before_of, entry_after_event, entry_for, inherited_above, now_above, styles_along, styles_below}
use Rattle.restyle.proofs.AncestorChains.{IsChain}
use Rattle.restyle.proofs.QuietUpdates.{InheritsOne, StaysSame, StillLaws, event_after, one_style, same_after, same_before, same_entry, same_now, same_update, stays, stays_settled, still_style, still_update, still_values}
use Rattle.restyle.proofs.StylesAlong.{after_inherited, before_inherited, handed, made, now_inherited}

-- ---- what elements stand under

-- the current styles above are those of the event before, and where the parent is rendered the before-change and the after-change styles are too
pub record IsQuiet (a b : StylesAbove) : Type 0 where
  pub now : b.now ≡ a.now
  pub rendered : b.rendered ≡ a.rendered
  pub before : a.rendered ≡ true → b.before ≡ Some a.now
  pub after : a.rendered ≡ true → b.after ≡ a.now

abbrev pub AreQuiet : Option StylesAbove → Option StylesAbove → Type 0
AreQuiet None None = Unit {0}
AreQuiet None (Some b) = ⊥
AreQuiet (Some a) None = ⊥
AreQuiet (Some a) (Some b) = IsQuiet a b

shown_alike : (d : Declarations) (a b : Option StylesAbove) → AreQuiet a b → is_rendered d (option_map inherited_above b) ≡ is_rendered d (option_map inherited_above a)
shown_alike d None None quiet = refl
shown_alike d None (Some b) quiet = absurd quiet
shown_alike d (Some a) None quiet = absurd quiet
shown_alike d (Some a) (Some b) quiet = ap (λ r. r && is_displayed d) quiet.rendered

now_alike : (a b : Option StylesAbove) → AreQuiet a b → now_above b ≡ now_above a
now_alike None None quiet = refl
now_alike None (Some b) quiet = absurd quiet
now_alike (Some a) None quiet = absurd quiet
now_alike (Some a) (Some b) quiet = ap Some quiet.now

-- the parent of a rendered element is rendered
parent_shown : (d : Declarations) (a b : StylesAbove) → IsQuiet a b → is_rendered d (Some (inherited_above b)) ≡ true → a.rendered ≡ true
parent_shown d a b quiet on = sym quiet.rendered ∙ (and_parts b.rendered (is_displayed d) on).0

before_alike : (d : Declarations) (a b : Option StylesAbove) → AreQuiet a b → is_rendered d (option_map inherited_above b) ≡ true → before_above b ≡ now_above a
before_alike d None None quiet on = refl
before_alike d None (Some b) quiet on = absurd quiet
before_alike d (Some a) None quiet on = absurd quiet
before_alike d (Some a) (Some b) quiet on = quiet.before (parent_shown d a b quiet on)

after_alike : (d : Declarations) (a b : Option StylesAbove) → AreQuiet a b → is_rendered d (option_map inherited_above b) ≡ true → after_above b ≡ now_above a
after_alike d None None quiet on = refl
after_alike d None (Some b) quiet on = absurd quiet
after_alike d (Some a) None quiet on = absurd quiet
after_alike d (Some a) (Some b) quiet on = ap Some (quiet.after (parent_shown d a b quiet on))

inherits_one : (d : Declarations) (r : Bool) (a b : Option StylesAbove) → AreQuiet a b → is_rendered d (option_map inherited_above b) ≡ r
    → InheritsOne r (option_map inherited_above b) (now_parent (option_map inherited_above a))
inherits_one d r a b quiet is = record {
  now = now_inherited b ∙ ap (option_map inherited_from) (now_alike a b quiet) ∙ sym (now_inherited a);
  before = λ on. before_inherited b ∙ ap (option_map inherited_from) (before_alike d a b quiet (is ∙ on)) ∙ sym (now_inherited a);
  after = λ on. after_inherited b ∙ ap (option_map inherited_from) (after_alike d a b quiet (is ∙ on)) ∙ sym (now_inherited a);
}

-- ---- one element

-- what the event of w leaves of element n, which stands under these: the entry is still, and its animations give at time t what they gave
pub record IsLeftStill (w : DocumentEvent) (n : ℕ) (opening : EntryParts) (above : Option StylesAbove) (t : ℤ) (e : EntryParts) : Type 0 where
  pub still : IsStill e
  pub styled : e.styled ≡ true
  pub declared : e.declared ≡ element_declarations w n
  pub rendered : e.rendered ≡ is_rendered (element_declarations w n) (option_map inherited_above above)
  pub now : e.now ≡ now_of (update_at w n opening (option_map inherited_above above))
  pub style : e.now
      ≡ still_style e.rendered e.declared (still_values w t e) (now_parent (option_map inherited_above above))
  pub animations : AreAnimationsOf (animation_lists_after e.rendered e.declared) w.sheets e.effects.animations

shown_after : (w : DocumentEvent) (n : ℕ) (entry : EntryParts) (parent : Option Down) → rendered_after (update_at w n entry parent) ≡ is_rendered (element_declarations w n) parent
unfolding update_at
shown_after w n entry parent = refl

-- the next event is of a document in which the element declares what it did
module _ (laws : StillLaws) (w : DocumentEvent) (d : Document) (t : Micros) (generation : ℕ) (root : Option Fix) (n : ℕ) (opening e : EntryParts) (a b : Option StylesAbove)
    (same : element_declarations (event_after w d t generation root) n ≡ element_declarations w n) (quiet : AreQuiet a b) (left : IsLeftStill w n opening a t.0 e) where
  abbrev after : DocumentEvent
  after = event_after w d t generation root

  abbrev parent : Option Down
  parent = option_map inherited_above b

  abbrev was : ElementUpdate
  was = update_at w n opening (option_map inherited_above a)

  abbrev x : ElementUpdate
  x = still_update w d t generation root n e parent

  shown : is_rendered e.declared parent ≡ e.rendered
  shown = ap (λ d. is_rendered d parent) left.declared ∙ shown_alike (element_declarations w n) a b quiet ∙ sym left.rendered

  one : InheritsOne e.rendered parent (now_parent (option_map inherited_above a))
  one = inherits_one e.declared e.rendered a b quiet shown

  -- the three styles are those of now, as the event before left it
  now_is : now_of x ≡ now_of was
  now_is = same_now laws e parent (still_values w t.0 e) _ root (event_at after n) left.still.transitions shown one left.style ∙ left.now

  before_is : e.rendered ≡ true → before_of x ≡ now_of was
  before_is on =
      same_before laws e parent (still_values w t.0 e) _ root (event_at after n) left.still.transitions shown one left.style on ∙ left.now

  after_is : e.rendered ≡ true → after_of x ≡ now_of was
  after_is on =
      same_after laws e parent (still_values w t.0 e) _ root (event_at after n) left.still.transitions shown one left.style on ∙ left.now

  was_on : rendered_after was ≡ true → e.rendered ≡ true
  was_on on = left.rendered ∙ sym (shown_after w n opening (option_map inherited_above a)) ∙ on

  shown_now : e.rendered ≡ true → is_rendered e.declared parent ≡ true
  shown_now on = shown ∙ on

  handed_before : rendered_after was ≡ true
      → (if e.rendered then Some (with_child (before_above b) (before_of x)) else None) ≡ Some (with_child (now_above a) (now_of was))
  handed_before on =
      ap (λ r. if r then Some (with_child (before_above b) (before_of x)) else None) (was_on on)
      ∙ ap (λ above. Some (with_child above (before_of x))) (before_alike e.declared a b quiet (shown_now (was_on on)))
      ∙ ap (λ s. Some (with_child (now_above a) s)) (before_is (was_on on))

  handed_after : rendered_after was ≡ true
      → with_child (if rendered_after x then after_above b else now_above b) (after_of x) ≡ with_child (now_above a) (now_of was)
  handed_after on =
      ap (λ r. with_child (if r then after_above b else now_above b) (after_of x)) (shown_now (was_on on))
      ∙ ap (λ above. with_child above (after_of x)) (after_alike e.declared a b quiet (shown_now (was_on on)))
      ∙ ap (with_child (now_above a)) (after_is (was_on on))

  below_quiet : IsQuiet (styles_below a was) (styles_below b x)
  unfolding styles_below
  below_quiet = record {
    now = ap (λ above. with_child above (now_of x)) (now_alike a b quiet) ∙ ap (with_child (now_above a)) now_is;
    rendered = shown ∙ left.rendered ∙ sym (shown_after w n opening (option_map inherited_above a));
    before = handed_before;
    after = handed_after;
  }

  pub quiet_below : IsQuiet (styles_below a was) (styles_below b (update_at after n e parent))
  quiet_below =
      subst (λ y. IsQuiet (styles_below a was) (styles_below b y)) (sym (same_update laws w d t generation root n e parent (left.declared ∙ sym same) shown left.animations)) below_quiet

  pub stays_under : StaysSame e (entry_at after n e parent)
  stays_under =
      subst (StaysSame e) (sym (same_entry laws w d t generation root n e parent (left.declared ∙ sym same) shown left.animations))
      (stays laws e parent (still_values w t.0 e) _ root (event_at after n) left.still.transitions shown one left.style left.styled)

  pub settled_under : e.effects.animations ≡ [] → (entry_at after n e parent).settled ≡ true
  settled_under none =
      subst (λ (y : EntryParts). y.settled ≡ true) (sym (same_entry laws w d t generation root n e parent (left.declared ∙ sym same) shown left.animations))
      (stays_settled laws e parent (still_values w t.0 e) _ root (event_at after n) left.still.transitions shown one left.style none)

  -- ---- what it hands down

  -- what its current style hands down
  abbrev handed_one : InheritedValues
  handed_one = inherited_from (with_child (now_above b) e.now)

  one_handed : handed_down (now_parent parent) e.now ≡ handed_one
  one_handed = ap (λ p. handed_down p e.now) (now_inherited b) ∙ handed (now_above b) e.now

  now_one : now_of x ≡ e.now
  now_one = now_is ∙ sym left.now

  before_one : option_map inherited_from (if e.rendered then Some (with_child (before_above b) (before_of x)) else None) ≡ (if e.rendered then Some handed_one else None)
  before_one = at e.rendered refl
    where
      at : (r : Bool) → e.rendered ≡ r → option_map inherited_from (if r then Some (with_child (before_above b) (before_of x)) else None) ≡ (if r then Some handed_one else None)
      at true on =
          ap (λ above. Some (inherited_from (with_child above (before_of x)))) (before_alike e.declared a b quiet (shown_now on) ∙ sym (now_alike a b quiet))
          ∙ ap (λ s. Some (inherited_from (with_child (now_above b) s))) (before_is on ∙ sym left.now)
      at false off = refl

  after_one : inherited_from (with_child (if rendered_after x then after_above b else now_above b) (after_of x)) ≡ handed_one
  after_one =
      at e.rendered refl
      ∙ ap (λ s. inherited_from (with_child (now_above b) s))
      (one_style laws e parent (still_values w t.0 e) _ root (event_at after n) left.still.transitions shown one left.style ∙ now_one)
    where
      at : (r : Bool) → e.rendered ≡ r
          → inherited_from (with_child (if rendered_after x then after_above b else now_above b) (after_of x)) ≡ inherited_from (with_child (now_above b) (after_of x))
      at true on =
          ap (λ r. inherited_from (with_child (if r then after_above b else now_above b) (after_of x))) (shown_now on)
          ∙ ap (λ above. inherited_from (with_child above (after_of x))) (after_alike e.declared a b quiet (shown_now on) ∙ sym (now_alike a b quiet))
      at false off = ap (λ r. inherited_from (with_child (if r then after_above b else now_above b) (after_of x))) (shown ∙ off)

  below_handed : inherited_above (styles_below b x) ≡ handed_at_rest e parent
  unfolding styles_below made
  below_handed =
      ap (λ i. made i (inherited_from (with_child (if rendered_after x then after_above b else now_above b) (after_of x))) (inherited_from (with_child (now_above b) (now_of x))) (rendered_after x)) before_one
      ∙ ap (λ i. made (if e.rendered then Some handed_one else None) i (inherited_from (with_child (now_above b) (now_of x))) (rendered_after x)) after_one
      ∙ ap (λ s. made (if e.rendered then Some handed_one else None) handed_one (inherited_from (with_child (now_above b) s)) (rendered_after x)) now_one
      ∙ ap (made (if e.rendered then Some handed_one else None) handed_one handed_one) shown ∙ ap (λ i. down_of_one e.rendered i) (sym one_handed)

  pub handed_under : inherited_above (styles_below b (update_at after n e parent)) ≡ handed_at_rest e parent
  handed_under =
      subst (λ y. inherited_above (styles_below b y) ≡ handed_at_rest e parent) (sym (same_update laws w d t generation root n e parent (left.declared ∙ sym same) shown left.animations)) below_handed

-- ---- an element and its ancestors

-- the element stands in this document as it did at the event of w: it has the same ancestors, and it declares the same
pub record StandsAlike (w : DocumentEvent) (d : Document) (n : ℕ) : Type 0 where
  pub ancestors : ancestors_of d n ≡ ancestors_of w.document n
  pub declared : declared_of w.sheets d.elements n ≡ element_declarations w n

pub stands_alike : (w : DocumentEvent) (n : ℕ) → StandsAlike w w.document n
stands_alike w n = record { ancestors = refl; declared = refl }

still_as : (a b : EntryParts) → b.effects ≡ a.effects → IsStill a → IsStill b
still_as a b same still = record {
  transitions = ap (λ (f : EffectLists). f.transitions) same ∙ still.transitions;
  animations = subst (λ (f : EffectLists). All (λ x. IsSome x.hold) f.animations) (sym same) still.animations;
}

-- those that are at rest are left still, and stand in the document of the next event as they did
module _ (laws : StillLaws) (w : DocumentEvent) (d : Document) (t : Micros) (generation : ℕ) (root : Option Fix) (opening entries : List (ℕ × EntryParts)) (IsAtRest : ℕ → Type 0)
    (alike : (n : ℕ) → is_in n d.elements ≡ true → IsAtRest n → StandsAlike w d n)
    (left : (n : ℕ) → is_in n d.elements ≡ true → IsAtRest n
    → IsLeftStill w n (entry_for opening n) (styles_along w opening (ancestors_of w.document n)) t.0 (entry_for entries n)) where
  abbrev next : DocumentEvent
  next = event_after w d t generation root

  abbrev AllAtRest : List Element → Type 0
  AllAtRest chain = All (λ a. IsAtRest a.number) chain

  alike_first : (a : Element) (above : List Element) → IsChain d (a ∷ above) → AllAtRest (a ∷ above) → StandsAlike w d a.number
  alike_first a above chain rest = alike a.number chain.0 (All-head (λ (x : Element). IsAtRest x.number) a above rest)

  left_first : (a : Element) (above : List Element) → IsChain d (a ∷ above) → AllAtRest (a ∷ above)
      → IsLeftStill w a.number (entry_for opening a.number) (styles_along w opening above) t.0 (entry_for entries a.number)
  left_first a above chain rest =
      subst (λ c. IsLeftStill w a.number (entry_for opening a.number) (styles_along w opening c) t.0 (entry_for entries a.number))
      (sym (alike_first a above chain rest).ancestors ∙ chain.1)
      (left a.number chain.0 (All-head (λ (x : Element). IsAtRest x.number) a above rest))

  quiet_along : (chain : List Element) → IsChain d chain → AllAtRest chain → AreQuiet (styles_along w opening chain) (styles_along next entries chain)
  quiet_along [] chain rest = tt
  quiet_along (a ∷ above) chain rest =
      quiet_below laws w d t generation root a.number (entry_for opening a.number) (entry_for entries a.number) (styles_along w opening above) (styles_along next entries above)
      (alike_first a above chain rest).declared (quiet_along above chain.2 (All-tail (λ (x : Element). IsAtRest x.number) a above rest)) (left_first a above chain rest)

  -- the entry of the first of a chain stays
  pub stays_first : (a : Element) (above : List Element) → IsChain d (a ∷ above) → AllAtRest (a ∷ above)
      → StaysSame (entry_for entries a.number) (entry_after_event next entries a.number)
  stays_first a above chain rest =
      subst (λ c. StaysSame (entry_for entries a.number) (entry_at next a.number (entry_for entries a.number) (option_map inherited_above (styles_along next entries c))))
      (sym chain.1)
      (stays_under laws w d t generation root a.number (entry_for opening a.number) (entry_for entries a.number) (styles_along w opening above) (styles_along next entries above)
      (alike_first a above chain rest).declared (quiet_along above chain.2 (All-tail (λ (x : Element). IsAtRest x.number) a above rest)) (left_first a above chain rest))

  -- which is still again
  pub still_first : (a : Element) (above : List Element) → IsChain d (a ∷ above) → AllAtRest (a ∷ above) → IsStill (entry_after_event next entries a.number)
  still_first a above chain rest =
      still_as (entry_for entries a.number) (entry_after_event next entries a.number) (stays_first a above chain rest).effects (left_first a above chain rest).still

  -- it is settled again, where it has no animation
  pub settled_first : (a : Element) (above : List Element) → IsChain d (a ∷ above) → AllAtRest (a ∷ above) → (entry_for entries a.number).effects.animations ≡ []
      → (entry_after_event next entries a.number).settled ≡ true
  settled_first a above chain rest none =
      subst (λ c. (entry_at next a.number (entry_for entries a.number) (option_map inherited_above (styles_along next entries c))).settled ≡ true) (sym chain.1)
      (settled_under laws w d t generation root a.number (entry_for opening a.number) (entry_for entries a.number) (styles_along w opening above) (styles_along next entries above)
      (alike_first a above chain rest).declared (quiet_along above chain.2 (All-tail (λ (x : Element). IsAtRest x.number) a above rest)) (left_first a above chain rest) none)

  -- and what it hands down is what its entry tells
  pub handed_first : (a : Element) (above : List Element) → IsChain d (a ∷ above) → AllAtRest (a ∷ above)
      → option_map inherited_above (styles_along next entries (a ∷ above))
      ≡ Some (handed_at_rest (entry_for entries a.number) (option_map inherited_above (styles_along next entries above)))
  handed_first a above chain rest =
      ap Some
      (handed_under laws w d t generation root a.number (entry_for opening a.number) (entry_for entries a.number) (styles_along w opening above) (styles_along next entries above)
      (alike_first a above chain rest).declared (quiet_along above chain.2 (All-tail (λ (x : Element). IsAtRest x.number) a above rest)) (left_first a above chain rest))
