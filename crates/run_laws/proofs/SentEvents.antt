-- The order in which a frame's events are sent is, of one transition, that in which its tick has them.
use Rattle.std.proofs.Common.{◌≡◌, ℕ, zero, suc, ◌<◌, refl, ap, sym, ◌∙◌, inl, inr, subst, arith, Bool, true, false, Option, Some, None, List, [], ◌∷◌, ◌++◌, append-nil, append_assoc, filter, map}
use Rattle.std.specs.Prelude.{ℤ, ◌≤ℤ◌, ◌<ℤ◌, AllPairs, if◌then◌else◌}
use Rattle.std.specs.Cmp.{int_ranks, nat_cmp_is}
use Rattle.std.specs.List.{Contains}
use Rattle.std.specs.Ordering.{MatchOrdering, int_cmp, nat_cmp, ordering_then}
use Rattle.std.specs.declared.cmp.Ordering.{Ordering}
use Rattle.std.specs.declared.cmp.Ordering.TheVariants.{Less, Equal, Greater}
use Rattle.std.proofs.lemmas.Bool.{cases_Bool, eq-eqb, ne_eqb}
use Rattle.std.proofs.lemmas.Cmp.{nat_cmp_total, tied_itself}
use Rattle.std.proofs.lemmas.Int.{ints}
use Rattle.std.proofs.lemmas.List.Kept.{AllPairs-filter}
use Rattle.std.proofs.lemmas.List.Sorted.{Contains-permutation, IsPermutation-sym}
use Rattle.computed_style.specs.ByProperty.{kept_for}
use Rattle.event_order.proofs.Ascending.{one_order}
use Rattle.event_order.specs.Order.{IsInOrderOf}
use Rattle.script_text.specs.declared.command.Command.{Command}
use Rattle.script_text.specs.declared.command.Command.TheVariants.{Frame}
use Rattle.style_data.specs.Events.{key_order, kind_number}
use Rattle.style_data.specs.declared.event.Event.{Event}
use Rattle.style_data.specs.declared.event.EventKind.TheVariants.{Cancel}
use Rattle.style_data.specs.declared.gone.Gone.{Gone}
use Rattle.style_data.specs.declared.gone.Subject.{Subject}
use Rattle.style_data.specs.declared.gone.Subject.TheVariants.{Property}
use Rattle.style_data.specs.declared.transition.Phase.{Phase}
use Rattle.style_data.specs.declared.transition.Phase.TheVariants.{Idle, Before, Active, After}
use Rattle.style_data.specs.declared.transition.Transition.{Transition}
use Rattle.ticker.specs.Events.{cancelled_standing, is_cancel_told, occurrence, told_event, transition_standing}
use Rattle.ticker.specs.Ticks.{cancel_events, position_in_tree, transition_events}
use Rattle.ticker.specs.TransitionEvents.{transition_occurrences, transitionend, transitionrun, transitionstart}
use Rattle.ticker.specs.declared.event.Standing.{Standing}
use Rattle.transition_start.specs.Phase.{phase_of}
use Rattle.restyle.specs.Entries.{are_apart}
use Rattle.restyle.specs.StyleChanges.{entry_for}
use Rattle.restyle.specs.Worlds.{WorldParts, events_of_frame, new_world}
use Rattle.run_laws.specs.Occurrences.{Occurrence}
use Rattle.run_laws.specs.Runs.{AreSent, events_of_command, events_of_run, world_after_command}
use Rattle.run_laws.specs.TransitionNames.{TransitionName, is_event_of, occurrence_told, told_of}
use Rattle.run_laws.proofs.CourseTimes.{by_max, maxes}
use Rattle.run_laws.proofs.DeclaredDurations.{ReadingLaws}
use Rattle.run_laws.proofs.FrameEvents.{departed_items, gone_events, is_gone_of, of_tick, running_events}
use Rattle.run_laws.proofs.OrderedRuns.{new_along, still}
use Rattle.run_laws.proofs.OrderedUpdates.{IsOrdered}
use Rattle.run_laws.proofs.Runs.{HoldsAlong, IsRunSoFar, new_so_far, one_command, told_in_turn}
use Rattle.run_laws.proofs.SoFar.{IsNotOf, IsToldSoFar, leaves, over, runs, swapped, waits}

abbrev IsEarlier : Event → Event → Type 0
IsEarlier a b = key_order a.key b.key ≡ Less

-- ---- the events that pass a test

in_filter : (m : Event → Bool) (xs : List Event) (e : Event) → Contains xs e → m e ≡ true → Contains (filter m xs) e
in_filter m [] e (k, l, is) passes = absurd (omega (arith, l))
in_filter m (y ∷ xs) e (zero, l, is) passes = rw (ap m is ∙ passes) (0, omega arith, is)
in_filter m (y ∷ xs) e (suc k, l, is) passes = elim (cases_Bool (m y)) [
  | inl stays ↦ let rest = in_filter m xs e (k, omega (arith, l), is) passes in let less = rest.1 in rw stays (suc rest.0, omega (arith, less), rest.2)
  | inr goes ↦ rw goes (in_filter m xs e (k, omega (arith, l), is) passes)
]

further : (y : Event) (xs : List Event) (e : Event) → Contains xs e → Contains (y ∷ xs) e
further y xs e (k, l, is) = (suc k, omega (arith, l), is)

of_filter : (m : Event → Bool) (xs : List Event) (e : Event) → Contains (filter m xs) e → Contains xs e × (m e ≡ true)
of_filter m [] e (k, l, is) = absurd (omega (arith, l))
of_filter m (y ∷ xs) e has = go (m y) refl has (of_filter m xs e)
  where
    go : (b : Bool) → m y ≡ b → Contains (if b then y ∷ filter m xs else filter m xs) e → (Contains (filter m xs) e → Contains xs e × (m e ≡ true))
        → Contains (y ∷ xs) e × (m e ≡ true)
    go true stays (zero, l, is) rest = ((0, omega arith, is), ap m (sym is) ∙ stays)
    go true stays (suc k, l, is) rest = let found = rest (k, omega (arith, l), is) in (further y xs e found.0, found.1)
    go false goes has rest = let found = rest has in (further y xs e found.0, found.1)

-- where they ascend, they are the same in any order by ascending keys
same_passing : (m : Event → Bool) (sorted events : List Event) → IsInOrderOf sorted events → AllPairs IsEarlier (filter m events) → filter m sorted ≡ filter m events
same_passing m sorted events order ascend =
    one_order (filter m sorted) (filter m events) (AllPairs-filter IsEarlier m sorted order.ascending) ascend
    (λ e has. let found = of_filter m sorted e has in in_filter m events e (Contains-permutation sorted events e (IsPermutation-sym events sorted order.same) found.0) found.1)
    (λ e has. let found = of_filter m events e has in in_filter m sorted e (Contains-permutation events sorted e order.same found.0) found.1)

-- ---- the events of one transition in a frame

no_pairs : AllPairs IsEarlier []
no_pairs i j d less short = absurd (omega (arith, short))

one_pair : (a : Event) → AllPairs IsEarlier (a ∷ [])
one_pair a i j d less short = absurd (omega (arith, less, short))

two_pairs : (a b : Event) → IsEarlier a b → AllPairs IsEarlier (a ∷ b ∷ [])
two_pairs a b ab zero zero d less short = absurd (omega (arith, less))
two_pairs a b ab zero (suc zero) d less short = ab
two_pairs a b ab i j d less short = absurd (omega (arith, less, short))

three_pairs : (a b c : Event) → IsEarlier a b → IsEarlier a c → IsEarlier b c → AllPairs IsEarlier (a ∷ b ∷ c ∷ [])
three_pairs a b c ab ac bc zero zero d less short = absurd (omega (arith, less))
three_pairs a b c ab ac bc zero (suc zero) d less short = ab
three_pairs a b c ab ac bc zero (suc (suc zero)) d less short = ac
three_pairs a b c ab ac bc (suc zero) (suc (suc zero)) d less short = bc
three_pairs a b c ab ac bc i j d less short = absurd (omega (arith, less, short))

by_time : (a b : ℤ) (o : Ordering) → a ≤ℤ b → o ≡ Less → ordering_then (int_cmp a b) o ≡ Less
by_time a b o less rest = go (int_cmp a b) (int_ranks a b)
  where
    go : (r : Ordering) → MatchOrdering r (a <ℤ b) (a ≡ b) (b <ℤ a) → ordering_then r o ≡ Less
    go Less is = refl
    go Equal is = rest
    go Greater is = absurd (omega (arith, ints, is, less))

by_field : (k : ℕ) (o : Ordering) → o ≡ Less → ordering_then (nat_cmp k k) o ≡ Less
by_field k o rest = ap (λ r. ordering_then r o) (tied_itself nat_cmp_total k) ∙ rest

-- of one standing the time decides, and then the kind
earlier : (n : ℕ) (s : Subject) (at : Standing) (a b : Occurrence) → a.time.0 ≤ℤ b.time.0 → kind_number a.kind < kind_number b.kind → IsEarlier (told_event n s at a) (told_event n s at b)
earlier n s at a b time kind =
    by_time a.time.0 b.time.0 _ time
    (by_field at.class _ (by_field at.first _ (by_field at.second _ (by_field at.third _ (sym (nat_cmp_is (kind_number a.kind) (kind_number b.kind) Less kind))))))

module _ (n : ℕ) (s : Subject) (at : Standing) (r : Transition) (ordered : IsOrdered r) where
  told : List Occurrence → List Event
  told os = map (told_event n s at) os

  run_start : IsEarlier (told_event n s at (transitionrun r)) (told_event n s at (transitionstart r))
  run_start = earlier n s at (transitionrun r) (transitionstart r) (by_max r.created.0 r.start.0) (omega arith)

  run_end : IsEarlier (told_event n s at (transitionrun r)) (told_event n s at (transitionend r))
  run_end = earlier n s at (transitionrun r) (transitionend r) (by_max r.created.0 r.end.0) (omega arith)

  start_end : IsEarlier (told_event n s at (transitionstart r)) (told_event n s at (transitionend r))
  start_end = earlier n s at (transitionstart r) (transitionend r) (maxes r.created.0 r.start.0 r.end.0 ordered) (omega arith)

  transition_ascends : (seen now : Phase) → AllPairs IsEarlier (map (told_event n s at) (transition_occurrences r seen now))
  transition_ascends Idle Before = one_pair (told_event n s at (transitionrun r))
  transition_ascends Idle Active = two_pairs (told_event n s at (transitionrun r)) (told_event n s at (transitionstart r)) run_start
  transition_ascends Idle After =
      three_pairs (told_event n s at (transitionrun r)) (told_event n s at (transitionstart r)) (told_event n s at (transitionend r)) run_start run_end start_end
  transition_ascends Before Active = one_pair (told_event n s at (transitionstart r))
  transition_ascends Before After = two_pairs (told_event n s at (transitionstart r)) (told_event n s at (transitionend r)) start_end
  transition_ascends Active After = one_pair (told_event n s at (transitionend r))
  transition_ascends seen now = no_pairs

cancel_ascends : (n : ℕ) (g : Gone) → AllPairs IsEarlier (cancel_events n g)
cancel_ascends n g = go (is_cancel_told g.seen)
  where
    go : (b : Bool) → AllPairs IsEarlier (map (told_event n g.subject (cancelled_standing g.subject g)) (if b then occurrence Cancel g.elapsed.0 g.cancelled.0 ∷ [] else []))
    go true = one_pair (told_event n g.subject (cancelled_standing g.subject g) (occurrence Cancel g.elapsed.0 g.cancelled.0))
    go false = no_pairs

module _ (x : TransitionName) where
  nothing_runs : (position : ℕ) (t : ℤ) (run : Option Transition) → IsNotOf x.generation run → running_events x position t run ≡ []
  nothing_runs position t None other = refl
  nothing_runs position t (Some r) other = ap (λ b. if b then transition_events x.element position t (x.property, r) else []) (ne_eqb r.generation x.generation other)

  it_runs : (position : ℕ) (t : ℤ) (r : Transition) → r.generation ≡ x.generation → running_events x position t (Some r) ≡ transition_events x.element position t (x.property, r)
  it_runs position t r of = ap (λ b. if b then transition_events x.element position t (x.property, r) else []) (eq-eqb r.generation x.generation of)

  frame_ascends : (told : List Occurrence) (frames : ℕ) (t : ℤ) (run : Option Transition) (left : List Gone) (position : ℕ)
      → IsToldSoFar IsOrdered x.generation told frames t run left → AllPairs IsEarlier (running_events x position t run ++ gone_events x left)
  frame_ascends told frames t run left position (waits early none not_run not_left) =
      subst (AllPairs IsEarlier) (sym (ap (λ es. es ++ gone_events x left) (nothing_runs position t run not_run) ∙ ap (gone_events x) not_left)) no_pairs
  frame_ascends told frames t run left position (runs r late run_is of ordered not_left telling) =
      subst (AllPairs IsEarlier)
      (sym (ap (λ o. running_events x position t o ++ gone_events x left) run_is ∙ ap (λ es. es ++ gone_events x left) (it_runs position t r of)
      ∙ ap (λ gs. transition_events x.element position t (x.property, r) ++ gone_events x gs) not_left ∙ append-nil (transition_events x.element position t (x.property, r))))
      (transition_ascends x.element (Property x.property) (transition_standing position x.property r) r ordered r.seen (phase_of r t))
  frame_ascends told frames t run left position (leaves y late not_run left_is leaving) =
      subst (AllPairs IsEarlier)
      (sym (ap (λ es. es ++ gone_events x left) (nothing_runs position t run not_run) ∙ ap (gone_events x) left_is ∙ append-nil (cancel_events x.element y)))
      (cancel_ascends x.element y)
  frame_ascends told frames t run left position (over late not_run not_left course) =
      subst (AllPairs IsEarlier) (sym (ap (λ es. es ++ gone_events x left) (nothing_runs position t run not_run) ∙ ap (gone_events x) not_left)) no_pairs

  module _ (told : List Occurrence) (w : WorldParts) (is : IsRunSoFar IsOrdered still x told w) where
    in_frame : AllPairs IsEarlier (filter (is_event_of x) (events_of_frame w))
    in_frame =
        let e = entry_for w.entries x.element in
        let position = position_in_tree w.document x.element in
        let run = kept_for x.property e.effects.transitions.running in
        let here = filter (is_gone_of x) e.effects.gone in
        let there = departed_items x w.departed in
        subst (AllPairs IsEarlier)
        (sym (of_tick x w.document w.time.0 w.entries w.departed (ap are_apart is.order ∙ is.numbered.apart) is.once
        ∙ append_assoc (running_events x position w.time.0 run) (gone_events x here) (gone_events x there)
        ∙ ap (λ es. running_events x position w.time.0 run ++ es)
        (sym (swapped IsOrdered still x (λ g. cancel_events x.element g) told w.frames w.time.0 run there here is.so_far))))
        (frame_ascends told w.frames w.time.0 run (there ++ here) position is.so_far)

    command_ascends : (c : Command) → AllPairs IsEarlier (filter (is_event_of x) (events_of_command w c))
    command_ascends Frame = in_frame
    command_ascends c = no_pairs

    sent_by : (c : Command) (first : List Event) → IsInOrderOf first (events_of_command w c) → told_of x first ≡ told_of x (events_of_command w c)
    sent_by c first order = ap (map occurrence_told) (same_passing (is_event_of x) first (events_of_command w c) order (command_ascends c))

  sent_along : (cs : List Command) (sent : List Event) (told : List Occurrence) (w : WorldParts) → IsRunSoFar IsOrdered still x told w → HoldsAlong IsOrdered still x w cs
      → AreSent w cs sent → told_of x sent ≡ told_of x (events_of_run w cs)
  unfolding events_of_run AreSent
  sent_along [] sent told w is along none = ap (told_of x) none
  sent_along (c ∷ cs) sent told w is along (first, later, order, rest, sent_is) =
      ap (told_of x) sent_is ∙ told_in_turn IsOrdered still x first later
      ∙ ap (λ os. os ++ told_of x later) (sent_by told w is c first order)
      ∙ ap (λ os. told_of x (events_of_command w c) ++ os)
      (sent_along cs later (told ++ told_of x (events_of_command w c)) (world_after_command w c) (one_command IsOrdered still x told w c is along.0) along.1 rest)
      ∙ sym (told_in_turn IsOrdered still x (events_of_command w c) (events_of_run (world_after_command w c) cs))

pub as_told : ReadingLaws → (cs : List Command) (x : TransitionName) (sent : List Event) → AreSent new_world cs sent → told_of x sent ≡ told_of x (events_of_run new_world cs)
as_told laws cs x sent are = sent_along x cs sent [] new_world (new_so_far IsOrdered still x) (new_along laws x cs) are
