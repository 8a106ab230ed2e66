-- One element of a tour is changed, and keeps its number and its parent.
use Rattle.std.proofs.Common.{◌≡◌, ◌≢◌, ℕ, ◌≤◌, true, false, eqb, cond, Option, Some, None, List, [], ◌∷◌, map, drop, get_or, refl, sym, ap, ◌∙◌, subst, inl, inr, is_some}
use Rattle.std.specs.Option.{option_map, option_map_or}
use Rattle.std.specs.List.{list_all}
use Rattle.std.proofs.lemmas.Bool.{cases_Bool, eqb-true, eq-eqb, ne_eqb, and_from, and_parts, or_right, false≢true}
use Rattle.std.proofs.lemmas.List.{length-set, get_or-set_same, get_or-set_other}
use Rattle.doc_tree.specs.Element.{Element}
use Rattle.doc_tree.specs.Shape.{is_bounded}
use Rattle.doc_tree.specs.Change.{with_change}
use Rattle.doc_tree.specs.declared.node.Node.{Node}
use Rattle.doc_tree.specs.declared.limits.TheConstants.{MAX_DEPTH}
use Rattle.doc_tree.specs.Marks.{Kept, Mark, Open, Close, opened, has, document_of, element_at, depth_at, is_live, number_above, no_element, with_element, IsAt, AreMarksOfTree, IsSlotOf, Nests}
use Rattle.doc_tree.proofs.Numbers.{has-self}
use Rattle.doc_tree.proofs.Sound.{opened-live, elements-sound, same-slot}

-- the element keeps its number and its parent
pub record KeepsPlace (old new : Element) : Type 0 where
  pub number : new.number ≡ old.number
  pub parent : new.parent ≡ old.parent

record IsPlacedAs (el el' : ℕ → Element) (dep dep' : ℕ → ℕ) (t : ℕ) : Type 0 where
  place : KeepsPlace (el t) (el' t)
  depth : dep' t ≡ dep t

above-placed : (el el' : ℕ → Element) (dep dep' : ℕ → ℕ) (stack : List ℕ) → ((t : ℕ) → IsPlacedAs el el' dep dep' t) → number_above el stack ≡ number_above el' stack
above-placed el el' dep dep' [] same = refl
above-placed el el' dep dep' (q ∷ stack) same = ap (λ (n : ℕ). Some n) (sym (same q).place.number)

nests-placed : (el el' : ℕ → Element) (dep dep' : ℕ → ℕ) (ms : List Mark) (stack end : List ℕ) → ((t : ℕ) → IsPlacedAs el el' dep dep' t) → Nests el dep ms stack end → Nests el' dep' ms stack end
nests-placed el el' dep dep' [] stack end same n = n
nests-placed el el' dep dep' (Open s ∷ ms) stack end same n = (
  record { parent = (same s).place.parent ∙ (n.0.parent ∙ above-placed el el' dep dep' stack same); depth = (same s).depth ∙ n.0.depth },
  nests-placed el el' dep dep' ms (s ∷ stack) end same n.1,
)
nests-placed el el' dep dep' (Close s ∷ ms) [] end same n = absurd n
nests-placed el el' dep dep' (Close s ∷ ms) (q ∷ stack) end same n = (n.0, nests-placed el el' dep dep' ms stack end same n.1)

rooted-placed : (el el' : ℕ → Element) (dep dep' : ℕ → ℕ) (ss : List ℕ) → ((t : ℕ) → IsPlacedAs el el' dep dep' t) → list_all (λ s. is_some (el s).parent) ss ≡ true → list_all (λ s. is_some (el' s).parent) ss ≡ true
rooted-placed el el' dep dep' [] same all = refl
rooted-placed el el' dep dep' (s ∷ ss) same all =
    let parts = and_parts (is_some (el s).parent) _ all in
    and_from _ _ (ap (λ (o : Option ℕ). is_some o) (same s).place.parent ∙ parts.0) (rooted-placed el el' dep dep' ss same parts.1)

record IsThere (o : Option Node) : Type 0 where
  node : Node
  is : o ≡ Some node

there : (o : Option Node) → is_some o ≡ true → IsThere o
there None h = absurd (false≢true h)
there (Some x) h = record { node = x; is = refl }

module _ (k : Kept) (sound : AreMarksOfTree k) (n s : ℕ) (of : IsSlotOf k n s) (change : Element → Element) (keeps : (e : Element) → KeepsPlace e (change e)) (bounded : is_bounded (change (element_at k.slots s)) ≡ true) where
  abbrev el : ℕ → Element
  el = element_at k.slots

  abbrev dep : ℕ → ℕ
  dep = depth_at k.slots

  abbrev k' : Kept
  k' = with_element k s change

  abbrev el' : ℕ → Element
  el' = element_at k'.slots

  abbrev dep' : ℕ → ℕ
  dep' = depth_at k'.slots

  own : IsThere (get_or k.slots s None)
  own = there (get_or k.slots s None) of.live

  own-slot : get_or k'.slots s None ≡ Some (record own.node { element = change own.node.element })
  own-slot =
      get_or-set_same k.slots s (option_map {T = Node} (λ x. record x { element = change x.element }) (get_or k.slots s None)) None of.within
      ∙ ap (λ (o : Option Node). option_map {T = Node} (λ x. record x { element = change x.element }) o) own.is

  other-slot : (t : ℕ) → t ≢ s → get_or k'.slots t None ≡ get_or k.slots t None
  other-slot t other = get_or-set_other k.slots s t (option_map {T = Node} (λ x. record x { element = change x.element }) (get_or k.slots s None)) None other

  own-element : el' s ≡ change (el s)
  own-element =
      ap (λ (o : Option Node). option_map_or (λ x. x.element) o no_element) own-slot
      ∙ ap change (sym (ap (λ (o : Option Node). option_map_or (λ x. x.element) o no_element) own.is))

  own-depth : dep' s ≡ dep s
  own-depth =
      ap (λ (o : Option Node). option_map_or (λ x. x.depth) o 0) own-slot
      ∙ sym (ap (λ (o : Option Node). option_map_or (λ x. x.depth) o 0) own.is)

  other-element : (t : ℕ) → t ≢ s → el' t ≡ el t
  other-element t other = ap (λ (o : Option Node). option_map_or (λ x. x.element) o no_element) (other-slot t other)

  other-depth : (t : ℕ) → t ≢ s → dep' t ≡ dep t
  other-depth t other = ap (λ (o : Option Node). option_map_or (λ x. x.depth) o 0) (other-slot t other)

  not_equal : (t : ℕ) → eqb t s ≡ false → t ≢ s
  not_equal t h same = false≢true (sym h ∙ eq-eqb t s same)

  placed : (t : ℕ) → IsPlacedAs el el' dep dep' t
  placed t =
      elim (cases_Bool (eqb t s)) [
        | inl same ↦
            subst (IsPlacedAs el el' dep dep') (sym (eqb-true _ _ same))
            (record { place = subst (λ (e : Element). KeepsPlace (el s) e) (sym own-element) (keeps (el s)); depth = own-depth })
        | inr other ↦
            (let e = other-element t (not_equal t other) in
            record { place = record { number = ap (λ (x : Element). x.number) e; parent = ap (λ (x : Element). x.parent) e }; depth = other-depth t (not_equal t other) })
      ]

  live-changed : (t : ℕ) → is_live k'.slots t ≡ is_live k.slots t
  live-changed t =
      elim (cases_Bool (eqb t s)) [
        | inl same ↦
            subst (λ (u : ℕ). is_live k'.slots u ≡ is_live k.slots u) (sym (eqb-true _ _ same))
            (ap (λ (o : Option Node). is_some o) own-slot ∙ sym (ap (λ (o : Option Node). is_some o) own.is))
        | inr other ↦ ap (λ (o : Option Node). is_some o) (other-slot t (not_equal t other))
      ]

  bounded-changed : (t : ℕ) → is_live k.slots t ≡ true → is_bounded (el' t) ≡ true
  bounded-changed t live =
      elim (cases_Bool (eqb t s)) [
        | inl same ↦ subst (λ (u : ℕ). is_bounded (el' u) ≡ true) (sym (eqb-true _ _ same)) (ap is_bounded own-element ∙ bounded)
        | inr other ↦ ap is_bounded (other-element t (not_equal t other)) ∙ (sound.fit t live).bounded
      ]

  pub changed-sound : AreMarksOfTree k'
  changed-sound = record {
    marks = sound.marks;
    tour = record {
      linked = sound.tour.linked;
      many = sound.tour.many;
      nests = nests-placed el el' dep dep' sound.marks [] [] placed sound.tour.nests;
      different = sound.tour.different;
      rooted = rooted-placed el el' dep dep' (drop 1 (opened sound.marks)) placed sound.tour.rooted;
      live = λ t. sound.tour.live t ∙ sym (live-changed t);
      counted = λ fresh. (let c = sound.tour.counted fresh in record { ranks = c.ranks; order = c.order });
    };
    sized = record {
      few = sound.sized.few;
      slots = length-set k.slots s (option_map {T = Node} (λ x. record x { element = change x.element }) (get_or k.slots s None)) ∙ sound.sized.slots;
      next = sound.sized.next;
      previous = sound.sized.previous;
      ranks = sound.sized.ranks;
      order = sound.sized.order;
      links = sound.sized.links;
      back_links = sound.sized.back_links;
    };
    fit = λ t live.
        (let fit = sound.fit t (sym (live-changed t) ∙ live) in
        record {
          key = subst (λ (m : ℕ). IsAt k.keys t m) (sym (placed t).place.number) fit.key;
          depth = subst (λ (d : ℕ). d ≤ MAX_DEPTH) (sym (placed t).depth) fit.depth;
          bounded = bounded-changed t (sym (live-changed t) ∙ live);
        });
    different = sound.different;
    limit = sound.limit;
  }

  changed-at : (t : ℕ) → is_live k.slots t ≡ true → el' t ≡ cond (eqb (el t).number n) (change (el t)) (el t)
  changed-at t live =
      elim (cases_Bool (eqb t s)) [
        | inl same ↦
            (let is : eqb (el t).number n ≡ true = eq-eqb _ _ (ap (λ (u : ℕ). (el u).number) (eqb-true _ _ same) ∙ of.number) in
            rw is (subst (λ (u : ℕ). el' u ≡ change (el u)) (sym (eqb-true _ _ same)) own-element))
        | inr other ↦
            (let is : eqb (el t).number n ≡ false = ne_eqb _ _ (λ same. not_equal t other (same-slot k sound t s live of.live (same ∙ sym of.number))) in
            rw is (other-element t (not_equal t other)))
      ]

  changed-each : (ss : List ℕ) → ((t : ℕ) → has t ss ≡ true → is_live k.slots t ≡ true) → map el' ss ≡ map (λ e. cond (eqb e.number n) (change e) e) (map el ss)
  changed-each [] f = refl
  changed-each (t ∷ ss) f =
      let own = changed-at t (f t (has-self t ss)) in
      let rest = changed-each ss (λ u h. f u (or_right _ _ h)) in
      cc

  -- what is kept with the change stands for the document with it
  pub document-changed : document_of k' ≡ with_change (document_of k) n change
  unfolding changed-sound
  document-changed =
      let elements : (document_of k').elements ≡ map (λ e. cond (eqb e.number n) (change e) e) (document_of k).elements =
      elements-sound k' changed-sound ∙ (changed-each (opened sound.marks) (λ t h. opened-live k sound t h) ∙ ap (map (λ (e : Element). cond (eqb e.number n) (change e) e)) (sym (elements-sound k sound))) in
      ap (λ (es : List Element). record { elements = es; used = k.keys }) elements
