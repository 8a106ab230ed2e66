use Rattle.std.proofs.Common.{◌≡◌, get_or, length, sym, ◌∙◌, ap, arith}
use Rattle.style_data.specs.Entries.{EntryParts}
use Rattle.transition_start.specs.Phase.{phase_of}
use Rattle.ticker.proofs.Changes.{all_changed, length-changed_first, none_changed}
use Rattle.ticker.proofs.Seeing.{next_transition_seen}
use Rattle.ticker.proofs.entry.see_transitions.Goals as goal
use Rattle.ticker.specs.Ticks.{seen_with_property, with_running}

pub loop-i-init : goal.loop-i-init
loop-i-init c = record {
  count = ap length c.running-i-end.ensures.value;
  entry = ap (with_running c.args.entry.now) (sym (none_changed (seen_with_property c.args.t.0) c.args.entry.now.effects.transitions.running));
}

pub see_transition-requires : goal.see_transition-requires
see_transition-requires c =
    let same : length c.loop-i.entry.effects.transitions.running ≡ length c.args.entry.now.effects.transitions.running =
    ap (λ (e : EntryParts). length e.effects.transitions.running) c.loop-i.invariant.entry
    ∙ length-changed_first (seen_with_property c.args.t.0) c.args.entry.now.effects.transitions.running c.loop-i.i in
    omega (arith, same, c.loop-i.invariant.count)

pub bounds-running-i : goal.bounds-running-i
bounds-running-i c =
    let same : length c.running.result.now ≡ length c.args.entry.now.effects.transitions.running =
    ap length c.running.ensures.value ∙ ap (λ (e : EntryParts). length e.effects.transitions.running) c.loop-i.invariant.entry
    ∙ length-changed_first (seen_with_property c.args.t.0) c.args.entry.now.effects.transitions.running c.loop-i.i in
    omega (arith, same, c.loop-i.invariant.count)

pub loop-i-preserved : goal.loop-i-preserved
loop-i-preserved c = record {
  count = c.loop-i.invariant.count;
  entry =
      c.see_transition.ensures
      ∙ next_transition_seen c.args.t.0 c.args.entry.now c.loop-i.entry c.loop-i.i c.index-running-i.result c.phase_at-seen.result c.loop-i.invariant.entry
      (c.phase_at-seen.ensures ∙ ap (λ l. phase_of (get_or l c.loop-i.i c.index-running-i.result).1 c.args.t.0) c.running.ensures.value)
      (omega (arith, c.loop-i.invariant.count));
}

pub returns : goal.returns
returns c =
    c.loop-i.invariant.entry
    ∙ ap (with_running c.args.entry.now)
    (all_changed (seen_with_property c.args.t.0) c.args.entry.now.effects.transitions.running c.loop-i.i (omega (arith, c.loop-i.invariant.count)))
