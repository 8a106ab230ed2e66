use Rattle.std.proofs.Common.{◌≡◌, ◌∙◌, ◌++◌, ℕ, ap, sym}
use Rattle.std.specs.Prelude.{OnOk, Option, Result, Ok, Err, unwrap_or}
use Rattle.style_data.specs.Entries.{EffectLists}
use Rattle.ticker.proofs.entry.tick_entry.Goals as goal
use Rattle.ticker.specs.Ticks.{effect_events, position_in_tree}

whatever : {T E P : Type 0} (r : Result T E) → P → OnOk r P
whatever (Ok x) p = p
whatever (Err e) p = tt

pub returns-clause-events : goal.returns-clause-events
returns-clause-events c =
    let old = c.args.events.now.items in
    let element = c.args.item.now.0 in
    let at : c.unwrap-position.result ≡ position_in_tree c.args.tree.now element =
    ap (λ (o : Option ℕ). unwrap_or o 0) (sym c.unwrap-position.ensures ∙ c.position.ensures.value) in
    whatever c.tick_effects.result
    (c.in_ok-push_events.ensures ∙ ap (λ (n : ℕ). old ++ effect_events element n c.args.t.0 c.in-Some.effects.now) at
    ∙ ap (λ (e : EffectLists). old ++ effect_events element (position_in_tree c.args.tree.now element) c.args.t.0 e) c.in-Some.ensures)
