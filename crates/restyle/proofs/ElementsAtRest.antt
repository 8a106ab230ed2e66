-- Elements at rest, which an event leaves as they are where they, their ancestors and the sheets are as they were at the frame before.
use Rattle.std.proofs.Common.{◌≡◌, ℕ, refl, ap, sym, ◌∙◌, subst, inl, inr, true, ◌&&◌, List, [], ◌∷◌, ◌++◌, length, map, Option, Some, None}
use Rattle.std.specs.Prelude.{ℤ, ◌==◌, All, IsSome, option_map}
use Rattle.std.specs.Option.{option_map_or}
use Rattle.std.proofs.lemmas.Bool.{and_parts, cases_Bool}
use Rattle.std.proofs.lemmas.List.Elements.{All-head, All-nil}
use Rattle.cascade_sort.specs.Applying.{applied_from, applied_in_sheets, style_declarations, style_text}
use Rattle.cascade_sort.specs.Precedences.{of_style}
use Rattle.cascade_sort.specs.Winning.{all_winners, declared_of}
use Rattle.doc_tree.specs.Element.{Document, Element, element_of, inclusive_ancestors, is_in}
use Rattle.doc_tree.specs.Shape.{IsTree}
use Rattle.element_step.proofs.Working.{empty_of}
use Rattle.element_step.specs.Quiet.{handed_at_rest, has_no_effects, is_at_rest}
use Rattle.element_step.specs.Updates.{entry_after}
use Rattle.element_step.specs.Works.{DocumentEvent, document_event, element_declarations, update_at}
use Rattle.fix_num.specs.declared.units.Fix.{Fix}
use Rattle.fix_num.specs.declared.units.Micros.{Micros}
use Rattle.sheet_types.specs.Sheets.{SheetRules}
use Rattle.style_data.specs.Entries.{EffectLists, EntryParts, effect_lists, entry_parts, no_effects}
use Rattle.style_data.specs.TransitionSets.{no_transitions, transition_set}
use Rattle.style_data.specs.declared.animation.AnimationState.{AnimationState}
use Rattle.restyle.specs.Distinct.{AreInTreeOrder}
use Rattle.restyle.specs.Quiet.{IsQuietEvent, is_untouched}
use Rattle.restyle.specs.Rest.{IsStill}
use Rattle.restyle.specs.StyleChanges.{FrameParts, ancestors_of, entry_after_event, entry_for, frame_after, frame_event, inherited_above, styles_along}
use Rattle.restyle.proofs.AncestorChains.{Chain, IsChain, chain_of}
use Rattle.restyle.proofs.ProperPlans.{TreeLaws}
use Rattle.restyle.proofs.QuietEvents.{IsLeftStill, StandsAlike, handed_first, settled_first, stays_first}
use Rattle.restyle.proofs.QuietFrames.{ancestors-none, entry_there}
use Rattle.restyle.proofs.QuietUpdates.{StaysSame, StillLaws, event_after}
use Rattle.restyle.proofs.StillEntries.{left_settled, ticked_parts}

-- ---- an entry at rest

pub record IsResting (e : EntryParts) : Type 0 where
  pub styled : e.styled ≡ true
  pub settled : e.settled ≡ true
  pub effects : e.effects ≡ no_effects

nothing : (f : EffectLists) → has_no_effects f ≡ true → f ≡ no_effects
nothing f none =
    let gone = and_parts ((length f.transitions.running == 0) && (length f.transitions.completed == 0) && (length f.animations == 0)) (length f.gone == 0) none in
    let animations = and_parts ((length f.transitions.running == 0) && (length f.transitions.completed == 0)) (length f.animations == 0) gone.0 in
    let transitions = and_parts (length f.transitions.running == 0) (length f.transitions.completed == 0) animations.0 in
    ap (λ xs. effect_lists (transition_set xs f.transitions.completed) f.animations f.gone) (empty_of f.transitions.running transitions.0)
    ∙ ap (λ xs. effect_lists (transition_set [] xs) f.animations f.gone) (empty_of f.transitions.completed transitions.1)
    ∙ ap (λ xs. effect_lists no_transitions xs f.gone) (empty_of f.animations animations.1) ∙ ap (λ xs. effect_lists no_transitions [] xs) (empty_of f.gone gone.1)

resting : (e : EntryParts) → is_at_rest e ≡ true → IsResting e
resting e rest =
    let parts = and_parts (e.styled && e.settled) (has_no_effects e.effects) rest in
    let flags = and_parts e.styled e.settled parts.0 in
    record { styled = flags.0; settled = flags.1; effects = nothing e.effects parts.1 }

still_at_rest : (e : EntryParts) → IsResting e → IsStill e
still_at_rest e rest = record {
  transitions = ap (λ (f : EffectLists). f.transitions) rest.effects;
  animations = subst (λ (f : EffectLists). All (λ a. IsSome a.hold) f.animations) (sym rest.effects) (All-nil (λ (a : AnimationState). IsSome a.hold));
}

-- an entry of the same parts is the same
same_whole : (was now : EntryParts) → StaysSame was now → now.settled ≡ was.settled → now ≡ was
same_whole was now same settled =
    ap (λ b. entry_parts b now.rendered now.settled now.declared now.now now.effects) same.styles.styled
    ∙ ap (λ b. entry_parts was.styled b now.settled now.declared now.now now.effects) same.styles.rendered
    ∙ ap (λ b. entry_parts was.styled was.rendered b now.declared now.now now.effects) settled
    ∙ ap (λ d. entry_parts was.styled was.rendered was.settled d now.now now.effects) same.styles.declared
    ∙ ap (λ s. entry_parts was.styled was.rendered was.settled was.declared s now.effects) same.styles.style
    ∙ ap (λ f. entry_parts was.styled was.rendered was.settled was.declared was.now f) same.effects

-- ---- elements that stand as they did

some_only : {X : Type 0} (x : X) → Some x ≡ None → ⊥
some_only x is = cc

-- what an element declares is told by its inclusive ancestors and by itself
same_declared : (sheets : List (Option SheetRules)) (es earlier : List Element) (n : ℕ) → inclusive_ancestors es n ≡ inclusive_ancestors earlier n → element_of n es ≡ element_of n earlier
    → declared_of sheets es n ≡ declared_of sheets earlier n
same_declared sheets es earlier n ancestors element =
    ap (λ chain. all_winners (applied_in_sheets chain sheets ++ applied_from of_style 0 (style_declarations (style_text es n)))) ancestors
    ∙ ap (λ (o : Option Element). all_winners (applied_in_sheets (inclusive_ancestors earlier n) sheets ++ applied_from of_style 0 (style_declarations (option_map_or (λ e. e.style) o [])))) element

abbrev first_of : List Element → Option Element
first_of [] = None
first_of (e ∷ es) = Some e

abbrev rest_of : List Element → List Element
rest_of [] = []
rest_of (e ∷ es) = es

-- the element stands in both documents, under the same ancestors
module _ (trees : TreeLaws) (d earlier : Document) (tree : IsTree d) (was : IsTree earlier) (n : ℕ) (within : is_in n d.elements ≡ true)
    (same : inclusive_ancestors d.elements n ≡ inclusive_ancestors earlier.elements n) where
  abbrev now : Chain d tree trees n
  now = chain_of d tree trees n within

  stood : is_in n earlier.elements ≡ true
  stood =
      elim (cases_Bool (is_in n earlier.elements)) [
        | inl there ↦ there
        | inr without ↦ absurd (some_only now.item (ap first_of (sym now.is ∙ same ∙ ancestors-none n earlier without)))
      ]

  abbrev past : Chain earlier was trees n
  past = chain_of earlier was trees n stood

  same_chain : now.item ∷ ancestors_of d n ≡ past.item ∷ ancestors_of earlier n
  same_chain = sym now.is ∙ same ∙ past.is

  same_element : element_of n d.elements ≡ element_of n earlier.elements
  same_element = now.found ∙ ap first_of same_chain ∙ sym past.found

  stands : (w : DocumentEvent) → w.document ≡ earlier → StandsAlike w d n
  stands w document = record {
    ancestors = ap rest_of same_chain ∙ ap (λ x. ancestors_of x n) (sym document);
    declared = same_declared w.sheets d.elements earlier.elements n same same_element ∙ ap (λ (x : Document). declared_of w.sheets x.elements n) (sym document);
  }

-- ---- an untouched element at rest under ancestors at rest

-- the element is at rest, and neither it nor an ancestor was touched
abbrev pub IsUntouchedAtRest : List ℕ → Document → List (ℕ × EntryParts) → ℕ → Type 0
IsUntouchedAtRest touched d entries n = (is_untouched touched d n ≡ true) × (is_at_rest (entry_for entries n) ≡ true)

abbrev pub AreResting : List ℕ → Document → List (ℕ × EntryParts) → List Element → Type 0
AreResting touched d entries chain = All (λ a. IsUntouchedAtRest touched d entries a.number) chain

-- the event leaves its entry, and what it hands down is what its entry tells; each untouched element declares what it did at the event before
pub record LeavesAtRest (touched : List ℕ) (w : DocumentEvent) (entries : List (ℕ × EntryParts)) : Type 0 where
  pub entry : (a : Element) (above : List Element) → IsChain w.document (a ∷ above) → AreResting touched w.document entries (a ∷ above)
      → entry_after_event w entries a.number ≡ entry_for entries a.number
  pub handed : (a : Element) (above : List Element) → IsChain w.document (a ∷ above) → AreResting touched w.document entries (a ∷ above)
      → option_map inherited_above (styles_along w entries (a ∷ above))
      ≡ Some (handed_at_rest (entry_for entries a.number) (option_map inherited_above (styles_along w entries above)))
  pub declared : (n : ℕ) → is_in n w.document.elements ≡ true → is_untouched touched w.document n ≡ true → (entry_for entries n).declared ≡ element_declarations w n

closing_entries : (f : FrameParts) → (frame_after f).entries ≡ map (λ x. (x.0, entry_after_event (frame_event f) f.entries x.0)) f.entries
unfolding frame_after
closing_entries f = refl

-- an event of document d after the frame f, whose untouched elements have the ancestors of then, and the entries that it left, after a tick
module _ (trees : TreeLaws) (laws : StillLaws) (touched : List ℕ) (f : FrameParts) (tick : ℤ) (d : Document) (entries : List (ℕ × EntryParts)) (time : Micros) (generation : ℕ)
    (root : Option Fix) (tree : IsTree d) (was : IsTree f.document) (order : AreInTreeOrder f.document f.entries)
    (ancestors : (n : ℕ) → is_in n d.elements ≡ true → is_untouched touched d n ≡ true → inclusive_ancestors d.elements n ≡ inclusive_ancestors f.document.elements n)
    (left_entries : (n : ℕ) → is_in n d.elements ≡ true → is_untouched touched d n ≡ true → entry_for entries n ≡ ticked_parts tick (entry_for (frame_after f).entries n)) where
  abbrev w : DocumentEvent
  w = frame_event f

  abbrev next : DocumentEvent
  next = event_after w d time generation root

  there_before : (n : ℕ) → is_in n d.elements ≡ true → is_untouched touched d n ≡ true → is_in n f.document.elements ≡ true
  there_before n within untouched = stood trees d f.document tree was n within (ancestors n within untouched)

  alike : (n : ℕ) → is_in n d.elements ≡ true → is_untouched touched d n ≡ true → StandsAlike w d n
  alike n within untouched = stands trees d f.document tree was n within (ancestors n within untouched) w refl

  ticked_at : (n : ℕ) → is_in n d.elements ≡ true → is_untouched touched d n ≡ true → entry_for entries n ≡ ticked_parts tick (entry_after_event w f.entries n)
  ticked_at n within untouched =
      left_entries n within untouched ∙ ap (λ es. ticked_parts tick (entry_for es n)) (closing_entries f)
      ∙ ap (ticked_parts tick) (entry_there (entry_after_event w f.entries) f.document f.entries n order (there_before n within untouched))

  abbrev Rests : ℕ → Type 0
  Rests n = IsUntouchedAtRest touched d entries n

  left : (n : ℕ) → is_in n d.elements ≡ true → Rests n
      → IsLeftStill w n (entry_for f.entries n) (styles_along w f.entries (ancestors_of f.document n)) time.0 (entry_for entries n)
  left n within rests =
      let is = ticked_at n within rests.0 in
      let rest = subst (λ e. IsResting e) is (resting (entry_for entries n) rests.1) in
      subst (λ e. IsLeftStill w n (entry_for f.entries n) (styles_along w f.entries (ancestors_of f.document n)) time.0 e) (sym is)
      (left_settled laws w n (entry_for f.entries n) (styles_along w f.entries (ancestors_of f.document n)) time.0 tick rest.settled
      (still_at_rest (ticked_parts tick (entry_after_event w f.entries n)) rest))

  declared_after : (n : ℕ) → (entry_after_event w f.entries n).declared ≡ element_declarations w n
  unfolding update_at entry_after
  declared_after n = refl

  left_at_rest : LeavesAtRest touched next entries
  left_at_rest = record {
    entry = λ a above chain rest.
        let own = resting (entry_for entries a.number) (All-head (λ (x : Element). Rests x.number) a above rest).1 in
        same_whole (entry_for entries a.number) (entry_after_event next entries a.number)
        (stays_first laws w d time generation root f.entries entries Rests (λ n within rests. alike n within rests.0) left a above chain rest)
        (settled_first laws w d time generation root f.entries entries Rests (λ n within rests. alike n within rests.0) left a above chain rest (ap (λ (x : EffectLists). x.animations) own.effects)
        ∙ sym own.settled);
    handed = handed_first laws w d time generation root f.entries entries Rests (λ n within rests. alike n within rests.0) left;
    declared = λ n within untouched.
        ap (λ (e : EntryParts). e.declared) (ticked_at n within untouched) ∙ declared_after n ∙ sym (alike n within untouched).declared;
  }

-- ---- a quiet event

event_again : (w : DocumentEvent) (sheets : List (Option SheetRules)) → w.old ≡ sheets → w.sheets ≡ sheets
    → w ≡ document_event w.time w.generation w.document sheets sheets w.root_size
event_again w sheets old now =
    ap (λ x. document_event w.time w.generation w.document x w.sheets w.root_size) old ∙ ap (λ x. document_event w.time w.generation w.document sheets x w.root_size) now

pub quiet_leaves : (trees : TreeLaws) (laws : StillLaws) (touched : List ℕ) (w : DocumentEvent) (tree : IsTree w.document) (entries : List (ℕ × EntryParts)) → IsQuietEvent touched w entries
    → LeavesAtRest touched w entries
quiet_leaves trees laws touched w tree entries quiet =
    subst (λ x. LeavesAtRest touched x entries) (sym (event_again w quiet.last.sheets quiet.old quiet.sheets))
    (left_at_rest trees laws touched quiet.last quiet.tick w.document entries w.time w.generation w.root_size tree quiet.tree quiet.order quiet.ancestors quiet.entries)
