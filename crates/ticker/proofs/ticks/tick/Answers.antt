use Rattle.std.proofs.Common.{◌≡◌, ◌∙◌, ℕ, ◌++◌, add-one, ap, arith, drop, get_or, length, set, subst, sym, take}
use Rattle.std.specs.Prelude.{IsSome, List, []}
use Rattle.std.specs.List.{flat_map}
use Rattle.std.proofs.lemmas.List.{flat_map_more, take-append-le, take_all, take_more}
use Rattle.doc_tree.specs.Element.{position_of}
use Rattle.style_data.specs.Entries.{EntryParts}
use Rattle.style_data.specs.declared.event.Event.{Event}
use Rattle.style_data.specs.declared.gone.Gone.{Gone}
use Rattle.ticker.proofs.Changes.{all_changed, at_changed_first, changed_first, length-changed_first, next_set, none_changed}
use Rattle.ticker.proofs.ticks.tick.Goals as goal
use Rattle.ticker.specs.Ticks.{cancel_events, entry_events, ticked_entry}

pub loop-item-init : goal.loop-item-init
loop-item-init c = record {
  entries = c.deref_mut-item-items.ensures.value ∙ sym (none_changed (ticked_entry c.args.t.0) c.args.entries.now.items);
  events = c.new-events.ensures.items;
}

pub tick_entry-requires-clause-known : goal.tick_entry-requires-clause-known
tick_entry-requires-clause-known c =
    let xs = c.args.entries.now.items in
    let i = c.loop-item.item-index in
    let d = c.item-item.result in
    let g = ticked_entry c.args.t.0 in
    let same : length c.loop-item.item-items ≡ length xs = ap length c.loop-item.invariant.entries ∙ length-changed_first g xs i in
    subst (λ (x : ℕ × EntryParts). IsSome (position_of x.0 c.args.tree.now))
    (sym (ap (λ l. get_or l i d) c.loop-item.invariant.entries ∙ at_changed_first g xs i d)) (c.requires.known i d (omega (arith, same)))

pub loop-item-preserved : goal.loop-item-preserved
loop-item-preserved c =
    let xs = c.args.entries.now.items in
    let i = c.loop-item.item-index in
    let d = c.item-item.result in
    let g = ticked_entry c.args.t.0 in
    let f = entry_events c.args.tree.now c.args.t.0 in
    let same : length c.loop-item.item-items ≡ length xs = ap length c.loop-item.invariant.entries ∙ length-changed_first g xs i in
    let at : get_or c.loop-item.item-items i d ≡ get_or xs i d = ap (λ l. get_or l i d) c.loop-item.invariant.entries ∙ at_changed_first g xs i d in
    record {
      entries =
          ap (set c.loop-item.item-items i) (c.in_ok-tick_entry.ensures.entry ∙ ap g at)
          ∙ ap (λ l. set l i (g (get_or xs i d))) c.loop-item.invariant.entries ∙ next_set g xs i d (omega (arith, same)) ∙ ap (changed_first g xs) (sym (add-one i));
      events =
          c.in_ok-tick_entry.ensures.events ∙ ap (λ l. l ++ f (get_or c.loop-item.item-items i d)) c.loop-item.invariant.events
          ∙ ap (λ x. flat_map f (take i xs) ++ f x) at ∙ flat_map_more f [] (take i xs) (get_or xs i d)
          ∙ ap (flat_map f) (sym (take_more xs i d (omega (arith, same))));
    }

pub returns-clause-events : goal.returns-clause-events
returns-clause-events c =
    let xs = c.args.entries.now.items in
    let i = c.loop-item.item-index in
    let f = entry_events c.args.tree.now c.args.t.0 in
    let same : length c.loop-item.item-items ≡ length xs = ap length c.loop-item.invariant.entries ∙ length-changed_first (ticked_entry c.args.t.0) xs i in
    let departed : List (ℕ × Gone) → List Event = flat_map (λ d. cancel_events d.0 d.1) in
    c.in_ok-push_departed.ensures
    ∙ ap (λ l. l ++ departed c.as_slice.result.now) (c.loop-item.invariant.events ∙ ap (flat_map f) (take_all i xs (omega (arith, same))))
    ∙ ap (λ l. flat_map f xs ++ departed l) c.as_slice.ensures.value

pub returns-clause-entries : goal.returns-clause-entries
returns-clause-entries c =
    let xs = c.args.entries.now.items in
    let ys = c.loop-item.item-items in
    let i = c.loop-item.item-index in
    let g = ticked_entry c.args.t.0 in
    let same : length ys ≡ length xs = ap length c.loop-item.invariant.entries ∙ length-changed_first g xs i in
    take-append-le c.args.entries.now.len ys (drop (length ys) xs) (omega (arith, same, c.args.entries.now.ok))
    ∙ take_all c.args.entries.now.len ys (omega (arith, same, c.args.entries.now.ok))
    ∙ c.loop-item.invariant.entries ∙ all_changed g xs i (omega (arith, same))
