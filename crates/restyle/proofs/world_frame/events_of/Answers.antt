use Rattle.std.proofs.Common.{◌≡◌, ◌∙◌, ap, sym, subst, map}
use Rattle.std.specs.Prelude.{All}
use Rattle.style_data.specs.Entries.{AreAscending}
use Rattle.style_data.specs.TransitionSets.{AreTransitions}
use Rattle.ticker.specs.Ticks.{ticked_entry}
use Rattle.restyle.specs.States.{departed_in, world_of}
use Rattle.restyle.specs.Worlds.{entries_of}
use Rattle.restyle.specs.declared.state.WorldState.{WorldState}
use Rattle.restyle.proofs.WorldFrames.{IsTickedFrom, distinct_by, numbers_ticked, order_ticked, ticked_state}
use Rattle.restyle.proofs.world_frame.events_of.Goals as goal

pub ordered_events-requires-clause-distinct : goal.ordered_events-requires-clause-distinct
ordered_events-requires-clause-distinct c =
    let list : c.into_parts-numbers.result.1.items ≡ entries_of c.args.state.now.tree c.args.state.now.entries =
    sym c.into_parts-numbers.ensures.list ∙ c.in_ok-take_entries.ensures.entries ∙ ap (λ d. entries_of d c.args.state.now.entries) c.renumber.ensures in
    let slice : c.as_slice-2.result.now ≡ entries_of c.args.state.now.tree c.args.state.now.entries = c.as_slice-2.ensures.value ∙ list in
    distinct_by (world_of c.args.state.now) c.take_entries.new.state.tree c.into_parts-numbers.result.1.items c.in_ok-departed.departed.items
    (ap (λ (x : WorldState). x.tree) c.take_entries.ensures.rest ∙ c.renumber.ensures) list
    (c.in_ok-departed.ensures ∙ ap (departed_in c.args.state.now.entries) c.as_slice.ensures.value)
    (c.frames_have_an_order.ensures (world_of c.args.state.now) c.requires.kept.world
    (subst (All (λ e. AreTransitions e.1.effects.transitions)) slice c.know_lists.ensures.transitions) (subst (All (λ e. AreAscending e.1.effects.animations)) slice c.know_lists.ensures.animations))

pub with_numbers-requires : goal.with_numbers-requires
with_numbers-requires c =
    c.into_parts-numbers.ensures.numbers ∙ sym (numbers_ticked c.take_entries.new.state.time.0 c.into_parts-numbers.result.1.items) ∙ ap (map (λ x. x.0)) (sym c.in_ok-events.ensures.entries)

pub returns-clause-world : goal.returns-clause-world
returns-clause-world c =
    let rest = c.take_entries.ensures.rest in
    let list : c.into_parts-numbers.result.1.items ≡ entries_of c.args.state.now.tree c.args.state.now.entries =
    sym c.into_parts-numbers.ensures.list ∙ c.in_ok-take_entries.ensures.entries ∙ ap (λ d. entries_of d c.args.state.now.entries) c.renumber.ensures in
    let ticked : IsTickedFrom c.args.state.now (record {
      tree = c.take_entries.new.state.tree;
      last_sheets = c.take_entries.new.state.last_sheets;
      sheets = c.take_entries.new.state.sheets;
      entries = c.with_numbers.result;
      removed = c.take_entries.new.state.removed;
      time = c.take_entries.new.state.time;
      frames = c.take_entries.new.state.frames;
      quiet = c.take_entries.new.state.quiet;
      touched = c.take_entries.new.state.touched;
    }) = record {
      tree = ap (λ (x : WorldState). x.tree) rest ∙ c.renumber.ensures;
      last_sheets = ap (λ (x : WorldState). x.last_sheets) rest;
      sheets = ap (λ (x : WorldState). x.sheets) rest;
      time = ap (λ (x : WorldState). x.time) rest;
      frames = ap (λ (x : WorldState). x.frames) rest;
      removed = ap (λ (x : WorldState). x.removed.items) rest ∙ c.clear.ensures.items;
      entries = c.with_numbers.ensures ∙ c.in_ok-events.ensures.entries ∙ ap (λ xs. map (ticked_entry c.take_entries.new.state.time.0) xs) list
          ∙ ap (λ (x : WorldState). map (ticked_entry x.time.0) (entries_of c.args.state.now.tree c.args.state.now.entries)) rest;
    } in
    ticked_state c.args.state.now (record {
      tree = c.take_entries.new.state.tree;
      last_sheets = c.take_entries.new.state.last_sheets;
      sheets = c.take_entries.new.state.sheets;
      entries = c.with_numbers.result;
      removed = c.take_entries.new.state.removed;
      time = c.take_entries.new.state.time;
      frames = c.take_entries.new.state.frames;
      quiet = c.take_entries.new.state.quiet;
      touched = c.take_entries.new.state.touched;
    }) c.requires.kept.world.tree ticked

pub returns-clause-order : goal.returns-clause-order
returns-clause-order c =
    let rest = c.take_entries.ensures.rest in
    let list : c.into_parts-numbers.result.1.items ≡ entries_of c.args.state.now.tree c.args.state.now.entries =
    sym c.into_parts-numbers.ensures.list ∙ c.in_ok-take_entries.ensures.entries ∙ ap (λ d. entries_of d c.args.state.now.entries) c.renumber.ensures in
    let ticked : IsTickedFrom c.args.state.now (record {
      tree = c.take_entries.new.state.tree;
      last_sheets = c.take_entries.new.state.last_sheets;
      sheets = c.take_entries.new.state.sheets;
      entries = c.with_numbers.result;
      removed = c.take_entries.new.state.removed;
      time = c.take_entries.new.state.time;
      frames = c.take_entries.new.state.frames;
      quiet = c.take_entries.new.state.quiet;
      touched = c.take_entries.new.state.touched;
    }) = record {
      tree = ap (λ (x : WorldState). x.tree) rest ∙ c.renumber.ensures;
      last_sheets = ap (λ (x : WorldState). x.last_sheets) rest;
      sheets = ap (λ (x : WorldState). x.sheets) rest;
      time = ap (λ (x : WorldState). x.time) rest;
      frames = ap (λ (x : WorldState). x.frames) rest;
      removed = ap (λ (x : WorldState). x.removed.items) rest ∙ c.clear.ensures.items;
      entries = c.with_numbers.ensures ∙ c.in_ok-events.ensures.entries ∙ ap (λ xs. map (ticked_entry c.take_entries.new.state.time.0) xs) list
          ∙ ap (λ (x : WorldState). map (ticked_entry x.time.0) (entries_of c.args.state.now.tree c.args.state.now.entries)) rest;
    } in
    order_ticked c.args.state.now (record {
      tree = c.take_entries.new.state.tree;
      last_sheets = c.take_entries.new.state.last_sheets;
      sheets = c.take_entries.new.state.sheets;
      entries = c.with_numbers.result;
      removed = c.take_entries.new.state.removed;
      time = c.take_entries.new.state.time;
      frames = c.take_entries.new.state.frames;
      quiet = c.take_entries.new.state.quiet;
      touched = c.take_entries.new.state.touched;
    }) ticked
