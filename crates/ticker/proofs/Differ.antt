-- The events of an element have different keys.
use Rattle.std.proofs.Common.{◌≡◌, ◌∙◌, ℕ, ◌%◌, ◌<◌, refl, sym, ap, arith, map}
use Rattle.std.specs.Prelude.{◌≢◌, ℤ, nat_eq, All, AllPairs, Bool, true, false, List, [], ◌∷◌, ◌++◌, if◌then◌else◌}
use Rattle.std.specs.List.{flat_map}
use Rattle.std.proofs.lemmas.List.Elements.{All-append, All-cons, All-map, All-nil}
use Rattle.std.proofs.lemmas.List.Kept.{AllPairs-cons}
use Rattle.computed_style.specs.ByProperty.{IsBefore}
use Rattle.style_data.specs.Entries.{AreAscending, EffectLists}
use Rattle.style_data.specs.Events.{kind_number}
use Rattle.style_data.specs.TransitionSets.{AreTransitions}
use Rattle.style_data.specs.declared.animation.AnimationState.{AnimationState}
use Rattle.style_data.specs.declared.event.Event.{Event}
use Rattle.style_data.specs.declared.event.EventKind.TheVariants.{Cancel}
use Rattle.style_data.specs.declared.event.Key.{Key}
use Rattle.style_data.specs.declared.gone.Gone.{Gone}
use Rattle.style_data.specs.declared.gone.Subject.{Subject}
use Rattle.style_data.specs.declared.gone.Subject.TheVariants.{Property, Animation}
use Rattle.style_data.specs.declared.transition.Phase.{Phase}
use Rattle.style_data.specs.declared.transition.Phase.TheVariants.{Idle, Before, Active, After}
use Rattle.style_data.specs.declared.transition.Transition.{Transition}
use Rattle.transition_start.specs.Phase.{phase_of}
use Rattle.value_types.specs.declared.property.PropertyId.{PropertyId}
use Rattle.ticker.proofs.Pairs.{all_flat_map, pairs_append, pairs_flat_map, pairs_map, pairs_none}
use Rattle.ticker.specs.AnimationEvents.{animation_occurrences, animation_phase, animationiteration, iteration_now}
use Rattle.ticker.specs.Distinct.{ItemsDiffer, KeysDiffer}
use Rattle.ticker.specs.Events.{animation_standing, cancel_occurrences, cancelled_standing, is_cancel_told, occurrence, standing, told_event, transition_standing}
use Rattle.ticker.specs.Ticks.{animation_events, cancel_events, effect_events, transition_events}
use Rattle.ticker.specs.TransitionEvents.{transition_occurrences}
use Rattle.ticker.specs.declared.event.Occurrence.{Occurrence}
use Rattle.ticker.specs.declared.event.Standing.{Standing}

-- ---- what one subject tells is of different kinds

abbrev KindsDiffer : Occurrence → Occurrence → Type 0
KindsDiffer a b = kind_number a.kind ≢ kind_number b.kind

alone : (a : Occurrence) → AllPairs KindsDiffer (a ∷ [])
alone a = AllPairs-cons KindsDiffer a [] (All-nil (KindsDiffer a)) (pairs_none KindsDiffer)

both : (a b : Occurrence) → KindsDiffer a b → AllPairs KindsDiffer (a ∷ b ∷ [])
both a b ab = AllPairs-cons KindsDiffer a (b ∷ []) (All-cons (KindsDiffer a) b [] ab (All-nil (KindsDiffer a))) (alone b)

three : (a b c : Occurrence) → KindsDiffer a b → KindsDiffer a c → KindsDiffer b c → AllPairs KindsDiffer (a ∷ b ∷ c ∷ [])
three a b c ab ac bc =
    AllPairs-cons KindsDiffer a (b ∷ c ∷ []) (All-cons (KindsDiffer a) b (c ∷ []) ab (All-cons (KindsDiffer a) c [] ac (All-nil (KindsDiffer a)))) (both b c bc)

transition_kinds : (r : Transition) (seen now : Phase) → AllPairs KindsDiffer (transition_occurrences r seen now)
transition_kinds r Idle Idle = pairs_none KindsDiffer
transition_kinds r Idle Before = alone _
transition_kinds r Idle Active = both _ _ (λ e. omega (arith, e))
transition_kinds r Idle After = three _ _ _ (λ e. omega (arith, e)) (λ e. omega (arith, e)) (λ e. omega (arith, e))
transition_kinds r Before Idle = pairs_none KindsDiffer
transition_kinds r Before Before = pairs_none KindsDiffer
transition_kinds r Before Active = alone _
transition_kinds r Before After = both _ _ (λ e. omega (arith, e))
transition_kinds r Active Idle = pairs_none KindsDiffer
transition_kinds r Active Before = pairs_none KindsDiffer
transition_kinds r Active Active = pairs_none KindsDiffer
transition_kinds r Active After = alone _
transition_kinds r After now = pairs_none KindsDiffer

animation_kinds : (a : AnimationState) (t : ℤ) (seen now : Phase) → AllPairs KindsDiffer (animation_occurrences a t seen now)
animation_kinds a t Idle Idle = pairs_none KindsDiffer
animation_kinds a t Idle Before = pairs_none KindsDiffer
animation_kinds a t Idle Active = alone _
animation_kinds a t Idle After = both _ _ (λ e. omega (arith, e))
animation_kinds a t Before Idle = pairs_none KindsDiffer
animation_kinds a t Before Before = pairs_none KindsDiffer
animation_kinds a t Before Active = alone _
animation_kinds a t Before After = both _ _ (λ e. omega (arith, e))
animation_kinds a t Active Idle = pairs_none KindsDiffer
animation_kinds a t Active Before = alone _
animation_kinds a t Active Active = go (nat_eq (iteration_now a t) a.iteration) where
  go : (b : Bool) → AllPairs KindsDiffer (if b then [] else animationiteration a t (iteration_now a t) ∷ [])
  go true = pairs_none KindsDiffer
  go false = alone _
animation_kinds a t Active After = alone _
animation_kinds a t After Idle = pairs_none KindsDiffer
animation_kinds a t After Before = both _ _ (λ e. omega (arith, e))
animation_kinds a t After Active = alone _
animation_kinds a t After After = pairs_none KindsDiffer

cancel_kinds : (g : Gone) → AllPairs KindsDiffer (cancel_occurrences g)
cancel_kinds g = go (is_cancel_told g.seen) where
  go : (b : Bool) → AllPairs KindsDiffer (if b then occurrence Cancel g.elapsed.0 g.cancelled.0 ∷ [] else [])
  go true = alone _
  go false = pairs_none KindsDiffer

told_differ : (element : ℕ) (subject : Subject) (at : Standing) (os : List Occurrence) → AllPairs KindsDiffer os → AllPairs KeysDiffer (map (told_event element subject at) os)
told_differ element subject at os differ = pairs_map KindsDiffer KeysDiffer (told_event element subject at) (λ o p kinds same. kinds (ap (λ (k : Key). k.kind) same)) os differ

-- ---- different subjects stand at different places

abbrev key_standing : Key → Standing
key_standing k = standing k.class k.first k.second k.third

abbrev StandAt : Standing → List Event → Type 0
StandAt at es = All (λ e. key_standing e.key ≡ at) es

told_stand : (element : ℕ) (subject : Subject) (at : Standing) (os : List Occurrence) → StandAt at (map (told_event element subject at) os)
told_stand element subject at os = All-map (λ e. key_standing e.key ≡ at) (told_event element subject at) os (λ i d l. refl)

abbrev pub AllApart : List Event → List Event → Type 0
AllApart xs ys = All (λ a. All (KeysDiffer a) ys) xs

stand_apart : (s t : Standing) (xs ys : List Event) → s ≢ t → StandAt s xs → StandAt t ys → AllApart xs ys
stand_apart s t xs ys differ there here = λ i d l j e k same. differ (sym (there i d l) ∙ ap key_standing same ∙ here j e k)

abbrev OfClass : ℕ → List Event → Type 0
OfClass class es = All (λ e. e.key.class ≡ class) es

class_apart : (m n : ℕ) (xs ys : List Event) → m ≢ n → OfClass m xs → OfClass n ys → AllApart xs ys
class_apart m n xs ys differ there here = λ i d l j e k same. differ (sym (there i d l) ∙ ap (λ (key : Key). key.class) same ∙ here j e k)

-- whether the subjects have an owning element
abbrev pub OfOwner : ℕ → List Event → Type 0
OfOwner n es = All (λ e. e.key.class % 2 ≡ n) es

pub owner_apart : (m n : ℕ) (xs ys : List Event) → m ≢ n → OfOwner m xs → OfOwner n ys → AllApart xs ys
owner_apart m n xs ys differ there here = λ i d l j e k same. differ (sym (there i d l) ∙ ap (λ (key : Key). key.class % 2) same ∙ here j e k)

-- ---- those of an element

transitions_differ : (element position : ℕ) (t : ℤ) (xs : List (PropertyId × Transition)) → AllPairs IsBefore xs → AllPairs KeysDiffer (flat_map (transition_events element position t) xs)
transitions_differ element position t xs ascend =
    pairs_flat_map IsBefore KeysDiffer (transition_events element position t)
    (λ x. told_differ element (Property x.0) (transition_standing position x.0 x.1) (transition_occurrences x.1 x.1.seen (phase_of x.1 t)) (transition_kinds x.1 x.1.seen (phase_of x.1 t)))
    (λ x y less. stand_apart (transition_standing position x.0 x.1) (transition_standing position y.0 y.1) _ _
    (λ same. let e = ap (λ (s : Standing). s.third) same in omega (arith, e, less))
    (told_stand element (Property x.0) (transition_standing position x.0 x.1) (transition_occurrences x.1 x.1.seen (phase_of x.1 t)))
    (told_stand element (Property y.0) (transition_standing position y.0 y.1) (transition_occurrences y.1 y.1.seen (phase_of y.1 t)))) xs ascend

animations_differ : (element position : ℕ) (t : ℤ) (xs : List AnimationState) → AreAscending xs → AllPairs KeysDiffer (flat_map (animation_events element position t) xs)
animations_differ element position t xs ascend =
    pairs_flat_map (λ a b. a.place < b.place) KeysDiffer (animation_events element position t)
    (λ a. told_differ element (Animation a.name) (animation_standing position a) (animation_occurrences a t a.seen (animation_phase a t)) (animation_kinds a t a.seen (animation_phase a t)))
    (λ a b less. stand_apart (animation_standing position a) (animation_standing position b) _ _
    (λ same. let e = ap (λ (s : Standing). s.second) same in omega (arith, e, less))
    (told_stand element (Animation a.name) (animation_standing position a) (animation_occurrences a t a.seen (animation_phase a t)))
    (told_stand element (Animation b.name) (animation_standing position b) (animation_occurrences b t b.seen (animation_phase b t)))) xs ascend

pub cancels_apart : (m n : ℕ) (g h : Gone) → ItemsDiffer g h → AllApart (cancel_events m g) (cancel_events n h)
cancels_apart m n g h differ =
    stand_apart (cancelled_standing g.subject g) (cancelled_standing h.subject h) (cancel_events m g) (cancel_events n h) differ
    (told_stand m g.subject (cancelled_standing g.subject g) (cancel_occurrences g)) (told_stand n h.subject (cancelled_standing h.subject h) (cancel_occurrences h))

pub cancel_differs : (element : ℕ) (g : Gone) → AllPairs KeysDiffer (cancel_events element g)
cancel_differs element g = told_differ element g.subject (cancelled_standing g.subject g) (cancel_occurrences g) (cancel_kinds g)

cancels_differ : (element : ℕ) (xs : List Gone) → AllPairs ItemsDiffer xs → AllPairs KeysDiffer (flat_map (cancel_events element) xs)
cancels_differ element xs differ =
    pairs_flat_map ItemsDiffer KeysDiffer (cancel_events element) (cancel_differs element) (λ g h apart. cancels_apart element element g h apart) xs differ

transitions_class : (element position : ℕ) (t : ℤ) (xs : List (PropertyId × Transition)) → OfClass 0 (flat_map (transition_events element position t) xs)
transitions_class element position t xs =
    all_flat_map (λ e. e.key.class ≡ 0) (transition_events element position t) xs (λ i d l. All-map (λ e. e.key.class ≡ 0) _ _ (λ j e k. refl))

animations_class : (element position : ℕ) (t : ℤ) (xs : List AnimationState) → OfClass 2 (flat_map (animation_events element position t) xs)
animations_class element position t xs =
    all_flat_map (λ e. e.key.class ≡ 2) (animation_events element position t) xs (λ i d l. All-map (λ e. e.key.class ≡ 2) _ _ (λ j e k. refl))

pub owned : (element position : ℕ) (t : ℤ) (e : EffectLists)
    → OfOwner 0 (flat_map (transition_events element position t) e.transitions.running ++ flat_map (animation_events element position t) e.animations)
owned element position t e =
    All-append (λ x. x.key.class % 2 ≡ 0) (flat_map (transition_events element position t) e.transitions.running) (flat_map (animation_events element position t) e.animations)
    (λ i d l. ap (λ n. n % 2) (transitions_class element position t e.transitions.running i d l))
    (λ i d l. ap (λ n. n % 2) (animations_class element position t e.animations i d l))

pub ownerless : (element : ℕ) (g : Gone) → OfOwner 1 (cancel_events element g)
ownerless element g = All-map (λ x. x.key.class % 2 ≡ 1) (told_event element g.subject (cancelled_standing g.subject g)) (cancel_occurrences g) (λ i d l. odd g.subject) where
  odd : (s : Subject) → (cancelled_standing s g).class % 2 ≡ 1
  odd (Property p) = refl
  odd (Animation name) = refl

pub owned_differ : (element position : ℕ) (t : ℤ) (e : EffectLists) → AreTransitions e.transitions → AreAscending e.animations
    → AllPairs KeysDiffer (flat_map (transition_events element position t) e.transitions.running ++ flat_map (animation_events element position t) e.animations)
owned_differ element position t e are ascend =
    pairs_append KeysDiffer (flat_map (transition_events element position t) e.transitions.running) (flat_map (animation_events element position t) e.animations)
    (transitions_differ element position t e.transitions.running are.running_ascend) (animations_differ element position t e.animations ascend)
    (class_apart 0 2 _ _ (λ same. omega (arith, same)) (transitions_class element position t e.transitions.running) (animations_class element position t e.animations))

pub effects_differ : (element position : ℕ) (t : ℤ) (e : EffectLists) → AreTransitions e.transitions → AreAscending e.animations → AllPairs ItemsDiffer e.gone
    → AllPairs KeysDiffer (effect_events element position t e)
effects_differ element position t e are ascend differ =
    pairs_append KeysDiffer
    (flat_map (transition_events element position t) e.transitions.running ++ flat_map (animation_events element position t) e.animations)
    (flat_map (cancel_events element) e.gone) (owned_differ element position t e are ascend) (cancels_differ element e.gone differ)
    (owner_apart 0 1 _ _ (λ same. omega (arith, same)) (owned element position t e)
    (all_flat_map (λ x. x.key.class % 2 ≡ 1) (cancel_events element) e.gone (λ i d l. ownerless element _)))
